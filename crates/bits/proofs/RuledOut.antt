-- What the promises of `word` and `count` rule out, where no edit of a line does: answering 0 always, and the bytes of a word in the other order.
-- Assumes nothing.
use mathlib.Core.Bool.{false≢true}
use Rattle.std.proofs.Common.{[], ◌∷◌, arith}
use Rattle.bits.specs.Member.{mem}
use Rattle.bits.specs.Words.{WordOf}
use Rattle.bits.specs.Counting.{tally, Counted}

count-nothing : Counted (1 ∷ []) 0 → ⊥
unfolding mem tally
count-nothing c = omega (arith, c.exact (omega arith))

word_of_nothing : WordOf (1 ∷ []) 0 0 → ⊥
unfolding mem
word_of_nothing w = false≢true (w.bits 0 (omega arith))

other_order : WordOf (1 ∷ 0 ∷ []) 0 256 → ⊥
unfolding mem
other_order w = false≢true (w.bits 0 (omega arith))
