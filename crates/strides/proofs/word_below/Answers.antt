use Rattle.std.proofs.Common.{ℕ, ◌+◌, ◌-◌, ◌*◌, ◌%◌, ltb, sym, subst, arith}
use Rattle.words.specs.Words.{Bits}
use Rattle.strides.proofs.Digits.{below_all, below-some, below_none}
use Rattle.strides.proofs.Moves.{shifted_one}
use Rattle.strides.proofs.word_below.Goals as goal

pub returns-then-k-e : goal.returns-then-k-e
returns-then-k-e c = below_all c.args.k c.args.e c.if-k-e.true

pub returns-then-k-e-2 : goal.returns-then-k-e-2
returns-then-k-e-2 c =
    let a = c.args in
    subst (λ (x : ℕ). Bits 64 (λ j. ltb (64 * a.k + j) a.e) (x - 1)) (sym (shifted_one (a.e % 64) (omega arith))) (below-some a.k a.e c.if-k-e-2.true)

pub returns-else-k-e-2 : goal.returns-else-k-e-2
returns-else-k-e-2 c = below_none c.args.k c.args.e (omega arith)
