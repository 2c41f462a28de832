use Rattle.std.proofs.Common.{rules, arith, ap, ◌∙◌, get_or, ◌&&◌, ◌*◌, ◌+◌, bit_and}
use lib.Bits.{and_zero_r}
use lib.ListN.{get_or-eq_default}
use Rattle.words.specs.Words.{mem}
use Rattle.words.proofs.Parts.{is_by_cut, whole-bits}
use Rattle.words.proofs.Sets.{and_bits}
use Rattle.words.proofs.whole.keep_common.Goals as goal

pub returns : goal.returns
returns c =
    let a = c.args.a.now in
    let b = c.args.b.now in
    is_by_cut (λ i. mem a i && mem b i) (λ k. bit_and (get_or a k 0) (get_or b k 0)) a c.loop-k.a c.fill.new.self c.min-n.result c.loop-k.auto.a (omega arith) (c.fill.ensures.after (search rules))
    (λ k l. c.loop-k.invariant.done k (omega arith)) (λ k l m. ap (bit_and (get_or a k 0)) (get_or-eq_default b 0 (omega arith)) ∙ and_zero_r (get_or a k 0))
    (λ k. and_bits 64 (λ j. mem a (64 * k + j)) (λ j. mem b (64 * k + j)) _ _ (whole-bits a k (search rules)) (whole-bits b k (omega (arith, c.type_inv.b k))))
