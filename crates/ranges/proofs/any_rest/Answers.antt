use Rattle.std.proofs.Common.{ℕ, ◌+◌, Bool, sym, ◌∙◌, arith}
use borrow.Author.Tests.{le-ltb}
use lib.Bits.{and_lt}
use Rattle.words.specs.Words.{mem}
use Rattle.words.proofs.Sets.{low_bits}
use Rattle.words.proofs.AnyBelow.{any_none, any_word}
use Rattle.ranges.proofs.any_rest.Goals as goal

pub returns-then-len-gt0 : goal.returns-then-len-gt0
returns-then-len-gt0 c =
    let p : ℕ → Bool = λ i. mem c.args.a.now (c.args.s + i) in
    let x = c.word_at in
    let y = c.low in
    sym (any_word c.args.len p _ c.requires (and_lt 64 x.result y.result (omega arith) (omega arith)) (low_bits c.args.len p x.result y.result c.requires x.ensures y.ensures))

pub returns-else-len-gt0 : goal.returns-else-len-gt0
returns-else-len-gt0 c =
    le-ltb 0 c.args.len (omega arith) ∙ sym (any_none (λ i. mem c.args.a.now (c.args.s + i)) c.args.len (λ i l. absurd (omega arith)))
