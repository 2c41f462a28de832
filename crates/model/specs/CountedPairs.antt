-- The two counts of a rejection, in R-10's words.
use Rattle.std.specs.Prelude.{ℕ, ◌-◌, ◌≡◌, ◌↔◌, true, false, length, get_or, Some, slice_get}
use mathlib.Core.List.{List, [], ◌∷◌, Memᴰ}
use Rattle.model.specs.Readiness.{GuardAnswers}
use Rattle.model.specs.Monitor.{Monitor, Transition}
use Rattle.model.specs.Trace.{Packet}
use Rattle.model.specs.Situation.{TwoClocks, capped, situation_of, recorded_at}
use Rattle.model.specs.Validation.{possible_after}
use Rattle.model.specs.declared.Readiness.{Readiness}

-- "the situations just before the moves of the rejected instant with the air free, and the transitions of the recorded kind from their state": situation n,
-- transition j, and its guard answers a. A clock that the situation writes as M + 1 reads anything above M: the answer is asked of all clocks that it writes so
pub record Pair (m : Monitor) (recording : List Packet) (instant : ℕ) (a : Readiness) (n j : ℕ) : Type 0 where
  pub possible : get_or (possible_after m recording (instant - 1)) n false ≡ true
  pub free : (situation_of m n).air ≡ 0
  pub transition : Transition
  pub listed : slice_get m.transitions j ≡ Some transition
  pub kind : recorded_at recording instant ≡ Some transition.trigger
  pub from : transition.source ≡ (situation_of m n).state
  pub answers : (clocks : List ℕ) → TwoClocks clocks → capped m clocks ≡ (situation_of m n).clocks
      → GuardAnswers transition.guard (situation_of m n).variables clocks a

-- no pair stands in a list twice
abbrev pub OnceEach : List (ℕ × ℕ) → Type 0
OnceEach [] = Unit {0}
OnceEach (p ∷ ps) = (Memᴰ p ps → ⊥) × OnceEach ps

-- "how many such pairs": as many as a list has that names each of them once and nothing else
pub record Counted (P : ℕ → ℕ → Type 0) (count : ℕ) : Type 0 where
  pub list : List (ℕ × ℕ)
  pub once : OnceEach list
  pub these : (n j : ℕ) → Memᴰ (n, j) list ↔ P n j
  pub many : length list ≡ count
