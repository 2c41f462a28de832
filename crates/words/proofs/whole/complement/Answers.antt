use Rattle.std.proofs.Common.{arith, not, ◌-◌, ◌^◌, ◌*◌, ◌+◌, get_or, rules}
use Rattle.words.specs.Words.{mem}
use Rattle.words.proofs.Parts.{is_by_words, whole-bits, not_bits}
use Rattle.words.proofs.whole.complement.Goals as goal

pub returns : goal.returns
returns c =
    let a = c.args.a.now in
    is_by_words (λ i. not (mem a i)) (λ k. 2 ^ 64 - 1 - get_or a k 0) a c.loop-x.a c.loop-x.auto.a (λ k l. c.loop-x.invariant.done k (omega arith))
    (λ k. not_bits (λ j. mem a (64 * k + j)) (get_or a k 0) (search rules) (whole-bits a k (search rules)))
