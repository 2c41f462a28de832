use Rattle.std.proofs.Common.{ℕ, Bool}
use Rattle.words.specs.Words.{Upto}
use Rattle.shifts.specs.Filled.{GivesWords}
use Rattle.shifts.proofs.fills.fill.Given as goal

abbrev pub invariant-loop-w : goal.invariant-loop-w
invariant-loop-w g l = (p : ℕ → Bool) → GivesWords (goal.F-post g l.f) p l.v l.e → Upto p l.v l.initial.dst → Upto p l.w l.dst
