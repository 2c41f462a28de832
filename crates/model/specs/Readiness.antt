-- What a guard answers: "yes, not yet, or no more" (document 02, R-10). Clocks have no upper limit here.
use Rattle.std.specs.Prelude.{ℕ, zero, suc, ◌+◌, ◌≤◌, max, ◌≡◌, List, map, Bool, true, false, cond, ◌||◌}
use Rattle.model.specs.Guard.{Guard, always, at_most, at_least, variable, negation, conjunction, holds}
use Rattle.model.specs.declared.Readiness.{Readiness}
use Rattle.model.specs.declared.Readiness.TheVariants.{Yes, NotYet, NoMore}

-- what clocks read after waiting alone for d ticks
abbrev pub waited : ℕ → List ℕ → List ℕ
waited d c = map (λ x. x + d) c

-- "not yet if waiting alone for some number of ticks, at least one, would make it hold, no more if none would"
abbrev pub GuardAnswers : Guard → (variables : ℕ) → (clocks : List ℕ) → Readiness → Type 0
GuardAnswers g v c Yes = holds g v c ≡ true
GuardAnswers g v c NotYet = (holds g v c ≡ false) × ((d : ℕ) × (1 ≤ d) × (holds g v (waited d c) ≡ true))
GuardAnswers g v c NoMore = (holds g v c ≡ false) × ((d : ℕ) → 1 ≤ d → holds g v (waited d c) ≡ false)

-- the same as a function: one tick past the largest T no comparison changes any more, so the waits up to there decide (`answers`, in `proofs/ReadinessLaws`)

-- the largest T in a guard
unfoldable pub greatest_bound : Guard → ℕ
greatest_bound always = 0
greatest_bound (at_most c t) = t
greatest_bound (at_least c t) = t
greatest_bound (variable x) = 0
greatest_bound (negation g) = greatest_bound g
greatest_bound (conjunction g h) = max (greatest_bound g) (greatest_bound h)

-- one of the waits 1 to n makes it hold
unfoldable pub comes_by : ℕ → Guard → ℕ → List ℕ → Bool
comes_by zero g v c = false
comes_by (suc n) g v c = comes_by n g v c || holds g v (waited (suc n) c)

unfoldable pub readiness : Guard → (variables : ℕ) → (clocks : List ℕ) → Readiness
readiness g v c = cond (holds g v c) Yes (cond (comes_by (suc (greatest_bound g)) g v c) NotYet NoMore)
