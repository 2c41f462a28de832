-- R-10 by computation: what guards answer, and recordings on the small monitor that are rejected because a packet came too early, or too late.
use Prim.Native.Nat.{ℕ}
use mathlib.Core.Path.{◌≡◌, refl}
use mathlib.Core.List.{List, [], ◌∷◌, ◌++◌, map}
use Rattle.model.specs.Guard.{Guard, always, at_most, at_least, variable, negation, conjunction}
use Rattle.model.specs.Readiness.{readiness}
use Rattle.model.specs.Numbers.{values, counts}
use Rattle.model.specs.declared.Readiness.{Readiness}
use Rattle.model.specs.declared.Readiness.TheVariants.{Yes, NotYet, NoMore}
use Rattle.model.specs.declared.Edition.TheVariants.{One}
use Rattle.examples.proofs.Examples.{run_of, run, rejected, printed, table, two}

-- a guard, variables, what the clocks read, and the answer
pub guards : List (Guard × ℕ × List ℕ × Readiness)
guards =
    (always, 0, 0 ∷ 0 ∷ [], Yes)
    ∷ (negation always, 0, 0 ∷ 0 ∷ [], NoMore)
    ∷ (at_least 0 5, 0, 5 ∷ 0 ∷ [], Yes)
    ∷ (at_least 0 5, 0, 4 ∷ 0 ∷ [], NotYet)
    ∷ (at_most 0 3, 0, 3 ∷ 0 ∷ [], Yes)
    ∷ (at_most 0 3, 0, 4 ∷ 0 ∷ [], NoMore)
    ∷ (negation (at_most 0 255), 0, 0 ∷ 9 ∷ [], NotYet)
    ∷ (negation (negation (at_least 1 254)), 0, 9 ∷ 1 ∷ [], NotYet)
    ∷ (at_most 1 0, 0, 0 ∷ 1 ∷ [], NoMore)
    ∷ (variable 1, 2, 0 ∷ 0 ∷ [], Yes)
    ∷ (variable 1, 1, 0 ∷ 0 ∷ [], NoMore)
    ∷ (conjunction (at_least 0 5) (at_most 0 3), 0, 1 ∷ 1 ∷ [], NoMore)
    ∷ (conjunction (at_least 0 5) (at_most 1 3), 0, 3 ∷ 1 ∷ [], NotYet)
    ∷ (conjunction (at_least 0 5) (at_most 1 3), 0, 1 ∷ 1 ∷ [], NoMore)
    ∷ []

-- DATA at 1, and RETRY, which transition 2 wants 4 to 6 ticks behind it, at 3: too early
pub too_early : List ℕ
unfolding two
too_early = two 1 0 3 1

-- DATA at 1, ACK at 5 and 6, and RETRY at 8: too late. The unit did not take the ACKs, and they leave no time for another DATA
pub too_late : List ℕ
too_late = 0 ∷ 15 ∷ 1 ∷ 0 ∷ 4 ∷ 0 ∷ 1 ∷ 0 ∷ 0 ∷ 5 ∷ 2 ∷ 0 ∷ 6 ∷ 2 ∷ 0 ∷ 8 ∷ 1 ∷ []

-- DATA at 1, ACK at 5, and RETRY at 8: too late behind that DATA, too early behind one at 6
pub both : List ℕ
both = 0 ∷ 12 ∷ 1 ∷ 0 ∷ 3 ∷ 0 ∷ 1 ∷ 0 ∷ 0 ∷ 5 ∷ 2 ∷ 0 ∷ 8 ∷ 1 ∷ []

-- rejected 16 8 0 1, a line
pub too_late_output : List ℕ
too_late_output = 114 ∷ 101 ∷ 106 ∷ 101 ∷ 99 ∷ 116 ∷ 101 ∷ 100 ∷ 32 ∷ 49 ∷ 54 ∷ 32 ∷ 56 ∷ 32 ∷ 48 ∷ 32 ∷ 49 ∷ 10 ∷ []

pub record EarlyLate : Type 0 where
  pub guards-answer : map (λ g. readiness g.0 g.1 g.2) guards ≡ map (λ g. g.3) guards
  pub early : run One table too_early 10000 ≡ rejected (values 1 3 3) (counts 1 0) 24
  pub late : run One table too_late 10000 ≡ rejected (values 1 16 8) (counts 0 1) 54
  pub either : run One table both 10000 ≡ rejected (values 1 20 8) (counts 1 1) 54
  pub late_output : printed (table ++ too_late ++ (0 ∷ 0 ∷ 39 ∷ 16 ∷ [])) ≡ too_late_output

pub early-late : EarlyLate
unfolding guards too_early too_late both too_late_output run_of rejected printed table
early-late = record { guards-answer = refl; early = refl; late = refl; either = refl; late_output = refl }
