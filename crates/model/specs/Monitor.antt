-- The monitor (Definition 2), and how it fires and waits. Clocks have no upper limit here.
use Rattle.std.specs.Prelude.{ℕ, zero, suc, ◌+◌, ◌*◌, ◌/◌, ◌%◌, List, [], ◌∷◌, Bool, false, cond, ◌&&◌, get_or, eqb, Option, Some, None, slice_get}
use Rattle.std.specs.Option.{option_and_then}
use Rattle.model.specs.Guard.{Guard, holds}
use Rattle.model.specs.Readiness.{waited, readiness}
use Rattle.model.specs.Rule.{Rule, allows}
use Rattle.model.specs.declared.Readiness.{Readiness}
pub use Rattle.model.specs.declared.Config.{Config}

-- fires on its trigger, a packet kind, from its source, if its guard holds; masks name the variables that it sets and clears and the clocks that it resets
pub record Transition : Type 0 where
  pub source : ℕ
  pub target : ℕ
  pub trigger : ℕ
  pub sets : ℕ
  pub clears : ℕ
  pub resets : ℕ
  pub guard : Guard

-- a list has an entry for each kind: is it addressed to the unit, its airtime, and the device that sends it. The rule is no part of a table: a table's monitor has
-- the one that forbids nothing
pub record Monitor : Type 0 where
  pub states : ℕ
  pub variables : ℕ
  pub clocks : ℕ
  pub inbound : List Bool
  pub airtimes : List ℕ
  pub devices : List ℕ
  pub transitions : List Transition
  pub rule : Rule

-- a monitor that is judged under another rule (document 02, R-7)
abbrev pub under : Rule → Monitor → Monitor
under rule m =
    record {
      states = m.states;
      variables = m.variables;
      clocks = m.clocks;
      inbound = m.inbound;
      airtimes = m.airtimes;
      devices = m.devices;
      transitions = m.transitions;
      rule = rule;
    }

abbrev pub to_unit : Monitor → ℕ → Bool
to_unit m k = get_or m.inbound k false

abbrev pub airtime : Monitor → ℕ → ℕ
airtime m k = get_or m.airtimes k 0

-- "the sending device, 0 to 15" (document 02, R-6)
abbrev pub device : Monitor → ℕ → ℕ
device m k = get_or m.devices k 0

-- an added row of kind k is a guess: it is from the rule's device
abbrev pub is_guess : Monitor → ℕ → Bool
is_guess m k = eqb (device m k) m.rule.device

-- "It starts in state 0, variables false, clocks 0 at tick 0." The format has two places for clocks; an absent one is never read
abbrev pub start : Config
start = record { state = 0; variables = 0; clocks = 0 ∷ 0 ∷ [] }

-- "A clock reads the ticks since its last reset, without upper limit"
abbrev pub wait : ℕ → Config → Config
wait d c = record { state = c.state; variables = c.variables; clocks = waited d c.clocks }

-- the first n variables after some are set and some are cleared
unfoldable pub changed : (n v set clear : ℕ) → ℕ
changed zero v s c = 0
changed (suc n) v s c = cond (eqb (s % 2) 1) 1 (cond (eqb (c % 2) 1) 0 (v % 2)) + 2 * changed n (v / 2) (s / 2) (c / 2)

unfoldable pub reset : ℕ → List ℕ → List ℕ
reset mask [] = []
reset mask (c ∷ cs) = cond (eqb (mask % 2) 1) 0 c ∷ reset (mask / 2) cs

-- "Then it sets some variables, clears some, resets some clocks and moves"
abbrev pub after : Monitor → Transition → Config → Config
after m t c =
    record {
      state = t.target;
      variables = changed m.variables c.variables t.sets t.clears;
      clocks = reset t.resets c.clocks;
    }

-- "A transition fires on its kind, from its state, if its guard holds of the variables and clocks before the firing"
abbrev pub enabled : Transition → ℕ → Config → Bool
enabled t k c = eqb t.source c.state && eqb t.trigger k && holds t.guard c.variables c.clocks

-- transition number j on a packet of kind k: the configuration after it, or none
unfoldable pub fires : Monitor → ℕ → ℕ → Config → Option Config
fires m j k c = option_and_then (λ t. cond (enabled t k c) (Some (after m t c)) None) (slice_get m.transitions j)

-- "only moves that keep it are moves" (R-7): behind rows whose guesses are those of a mask, a row that is a guess or not; o is where it leads, none if the rule
-- forbids it
unfoldable pub within_rule : Monitor → (window : ℕ) → (guess : Bool) → Option Config → Option Config
within_rule m window guess o = cond (allows m.rule window guess) o None

-- what transition number j answers to a packet of kind k: its guard's answer, none if there is no such transition or it is of another kind or from another state
unfoldable pub tried : Monitor → ℕ → ℕ → Config → Option Readiness
tried m j k c =
    option_and_then (λ t. cond (eqb t.source c.state && eqb t.trigger k) (Some (readiness t.guard c.variables c.clocks)) None)
    (slice_get m.transitions j)
