-- Document 01's order of witnesses, and the preferred one.
use Rattle.std.specs.Prelude.{ℕ, ◌<◌, ◌≤◌, ◌≡◌, cond, eqb}
use mathlib.Core.List.{List, [], ◌∷◌, Memᴰ}
use Rattle.model.specs.Monitor.{Monitor}
use Rattle.model.specs.Trace.{Packet}
use Rattle.model.specs.Recording.{end_of}
use Rattle.model.specs.Witness.{Row, kept, added}
use Rattle.model.specs.Rules.{Permits}
use Rattle.model.specs.declared.Edition.{Edition}

-- the rows of one instant
unfoldable pub rows_on : ℕ → List Row → List Row
rows_on t [] = []
rows_on t (r ∷ rs) = cond (eqb r.time t) (r ∷ rows_on t rs) (rows_on t rs)

-- what a witness does at an instant: keeps by a transition, adds nothing (a recorded row is removed), adds by a transition
pub data Choice : Type 0 where
  keeping : ℕ → Choice
  nothing : Choice
  adding : ℕ → Choice

unfoldable pub choice : List Row → Choice
choice [] = nothing
choice (r ∷ rs) = cond (eqb r.mark kept) (keeping r.transition) (cond (eqb r.mark added) (adding r.transition) nothing)

-- "first comes keep, then nothing added (a recorded row is removed), then an added row; among transitions, the lower number"
abbrev pub Sooner : Choice → Choice → Type 0
Sooner (keeping i) (keeping j) = i < j
Sooner (keeping i) nothing = Unit {0}
Sooner (keeping i) (adding j) = Unit {0}
Sooner nothing (keeping j) = ⊥
Sooner nothing nothing = ⊥
Sooner nothing (adding j) = Unit {0}
Sooner (adding i) (keeping j) = ⊥
Sooner (adding i) nothing = ⊥
Sooner (adding i) (adding j) = i < j

-- "At the earliest instant where two witnesses differ"
pub record Before (w v : List Row) : Type 0 where
  pub instant : ℕ
  pub alike : (t : ℕ) → t < instant → rows_on t w ≡ rows_on t v
  pub sooner : Sooner (choice (rows_on instant w)) (choice (rows_on instant v))

-- "with no row after T"
abbrev pub EndsBy : ℕ → List Row → Type 0
EndsBy last rows = (r : Row) → Memᴰ r rows → r.time ≤ last

-- "The preferred witness is the permitted one with no row after T that comes before every other such one"
pub record Preferred (edition : Edition) (m : Monitor) (recording : List Packet) (w : List Row) : Type 0 where
  pub permitted : Permits edition m recording w
  pub ends : EndsBy (end_of recording) w
  pub first : (v : List Row) → Permits edition m recording v → EndsBy (end_of recording) v → (v ≡ w → ⊥) → Before w v
