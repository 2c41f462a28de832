use Rattle.std.proofs.Common.{arith}
use Rattle.bits.specs.Member as bytes
use Rattle.words.proofs.Sets.{fill_word}
use Rattle.rows.proofs.Bytes.{word_read}
use Rattle.rows.proofs.load.Goals as goal

pub loop-k-preserved : goal.loop-k-preserved
loop-k-preserved c = fill_word (bytes.mem c.args.row.now) c.loop-k.a c.loop-k.k c.word.result (omega arith) (word_read c.args.row.now c.loop-k.k c.word.result c.word.ensures) c.loop-k.invariant

pub returns : goal.returns
returns c = record { size = c.loop-k.auto.a; all = λ i l. c.loop-k.invariant i (omega arith) }
