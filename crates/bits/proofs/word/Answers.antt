use Rattle.std.proofs.Common.{refl, arith}
use Rattle.bits.proofs.Words.{word_past, word_whole, word_rest}
use Rattle.bits.proofs.word.Goals as goal

pub returns-then-k-words : goal.returns-then-k-words
returns-then-k-words c =
    word_whole c.args.s.now c.args.k c.from_le_bytes.result (λ i. omega (arith, c.type_inv.s i))
    _ c.as_chunks.result.0.now c.as_chunks.ensures.front refl (omega arith) c.from_le_bytes.ensures

pub returns-then-k-words-2 : goal.returns-then-k-words-2
returns-then-k-words-2 c =
    word_rest c.args.s.now c.args.k c.little_endian.result (λ i. omega (arith, c.type_inv.s i))
    c.as_chunks.result.1.now c.as_chunks.ensures.back (omega arith) c.little_endian.ensures

pub returns-else-k-words-2 : goal.returns-else-k-words-2
returns-else-k-words-2 c = word_past c.args.s.now c.args.k (omega arith)
