-- "No dead states" (document 02, R-8): the states that transitions lead to from state 0 "when guards are ignored", and the number 17.
use Rattle.std.specs.Prelude.{ℕ, zero, suc, ◌<◌, ◌≡◌, ◌↔◌, Bool, false, cond, ◌||◌, length, eqb, Ok, Err}
use mathlib.Core.List.{List, [], ◌∷◌, Memᴰ}
use Rattle.model.specs.Bytes.{tab}
use Rattle.model.specs.First.{unless, first_of, Reading}
use Rattle.model.specs.Monitor.{Monitor, Transition}
use Rattle.model.specs.declared.Refusal.TheVariants.{TableState}

-- "State 0 counts as reached"; so does a state to which some transition leads from a reached one
pub data Reached (m : Monitor) : ℕ → Type 0 where
  initial : Reached m 0
  led : (t : Transition) → Memᴰ t m.transitions → Reached m t.source → Reached m t.target

-- "the lowest such state": it cannot be reached, and each lower state is reached
pub record LowestUnreached (m : Monitor) (s : ℕ) : Type 0 where
  pub state : s < m.states
  pub unreached : Reached m s → ⊥
  pub lower : (r : ℕ) → r < s → Reached m r

-- 17 in these words, of an answer: no number exactly if each state is reached, 17 with s exactly if s is the lowest that is not
pub record StatesJudged (m : Monitor) (answer : Reading) : Type 0 where
  pub sound : (answer ≡ Ok tt) ↔ ((s : ℕ) → s < m.states → Reached m s)
  pub refused : (s : ℕ) → (answer ≡ Err (TableState s)) ↔ LowestUnreached m s

-- The test. That it judges the states as said is the theorem `states-judged`.

unfoldable pub among : ℕ → List ℕ → Bool
among s [] = false
among s (x ∷ l) = eqb s x || among s l

-- where the transitions lead whose source is among some states
unfoldable pub targets : List Transition → List ℕ → List ℕ
targets [] from = []
targets (t ∷ ts) from = cond (among t.source from) (t.target ∷ targets ts from) (targets ts from)

-- the states that n steps or fewer lead to
unfoldable pub reached_in : ℕ → List Transition → List ℕ
reached_in zero ts = 0 ∷ []
reached_in (suc n) ts = 0 ∷ targets ts (reached_in n ts)

-- no state needs more steps than there are transitions
unfoldable pub is_reached : Monitor → ℕ → Bool
is_reached m s = among s (reached_in (length m.transitions) m.transitions)

-- 17 with the lowest state that is not found, of so many
unfoldable pub lowest_missing : (ℕ → Bool) → ℕ → Reading
lowest_missing found states = first_of (tab (λ s. unless (found s) (TableState s)) states)

unfoldable pub states_answer : Monitor → Reading
states_answer m = lowest_missing (is_reached m) m.states
