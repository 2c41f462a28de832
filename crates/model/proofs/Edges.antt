-- Edges of the definitions, by computation, that no law of this crate needs and P1 to P12 (`examples`) see only from afar.
use mathlib.Core.Path.{◌≡◌, refl}
use mathlib.Core.List.{[], ◌∷◌, map}
use mathlib.Core.Bool.{true, false}
use Rattle.std.specs.Prelude.{Some, None}
use lib.Dec.{leb}
use Rattle.model.specs.Guard.{always, holds}
use Rattle.model.specs.Readiness.{readiness}
use Rattle.model.specs.Edition.{latest_time}
use Rattle.model.specs.Rule.{no_rule}
use Rattle.model.specs.Monitor.{Monitor, tried}
use Rattle.model.specs.Situation.{keep, rest, add, move_of}
use Rattle.model.specs.declared.Config.{Config}
use Rattle.model.specs.declared.Edition.TheVariants.{One}
use Rattle.model.specs.declared.Readiness.TheVariants.{Yes}

-- two kinds, and one transition, on kind 0, whose guard always holds
abbrev one_kind : Monitor
one_kind =
    record {
      states = 1;
      variables = 0;
      clocks = 0;
      inbound = false ∷ false ∷ [];
      airtimes = 0 ∷ 0 ∷ [];
      devices = 0 ∷ 0 ∷ [];
      transitions = record { source = 0; target = 0; trigger = 0; sets = 0; clears = 0; resets = 0; guard = always } ∷ [];
      rule = no_rule;
    }

abbrev start : Config
start = record { state = 0; variables = 0; clocks = 0 ∷ 0 ∷ [] }

-- "Edition 1 [..] is written only if T is at most 4,096" (document 02, R-5)
pub last_of_one_lem : (leb 4096 (latest_time One) ≡ true) × (leb 4097 (latest_time One) ≡ false)
last_of_one_lem = (refl, refl)

-- a row is kept rather than removed, removed or waited rather than added, and by the least transition (document 01)
pub move_order : map move_of (0 ∷ 63 ∷ 64 ∷ 65 ∷ 128 ∷ []) ≡ keep 0 ∷ keep 63 ∷ rest ∷ add 0 ∷ add 63 ∷ []
unfolding move_of
move_order = refl

-- a transition answers to its own kind alone (document 02, R-10)
pub own_kind : (tried one_kind 0 0 start ≡ Some Yes) × (tried one_kind 0 1 start ≡ None)
unfolding tried readiness holds
own_kind = (refl, refl)
