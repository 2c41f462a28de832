-- What evaluating a guard promises: the definition's answer, which is right in R-10's words.
use Rattle.std.specs.Prelude.{ℕ, ◌≡◌, List}
use Rattle.model.specs.Guard.{Guard}
use Rattle.model.specs.Readiness.{GuardAnswers, readiness}
use Rattle.model.specs.declared.Readiness.{Readiness}

pub record Evaluated (g : Guard) (variables : ℕ) (clocks : List ℕ) (a : Readiness) : Type 0 where
  pub answered : a ≡ readiness g variables clocks
  pub right : GuardAnswers g variables clocks a
