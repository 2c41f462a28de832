use Rattle.std.proofs.Common.{arith, ap, ◌∙◌}
use Rattle.std.specs.Int.{w64, to_le_bytes}
use Rattle.rows.proofs.Bytes.{word_more, byte_more, row_by_bytes}
use Rattle.rows.proofs.store.Goals as goal

pub loop-k-preserved : goal.loop-k-preserved
loop-k-preserved c =
    word_more c.args.a.now c.loop-k.row c.copy_from_slice.new.self c.loop-k.k _ (c.copy_from_slice.ensures.after ∙ c.to_le_bytes.ensures) (omega arith) c.loop-k.invariant

pub loop-b-preserved : goal.loop-b-preserved
loop-b-preserved c =
    byte_more c.args.a.now c.loop-b.row c.to_le_bytes-in-loop-b.result c.loop-b.b (c.to_le_bytes-in-loop-b.ensures ∙ ap (to_le_bytes w64) c.word.ensures.0) (omega arith) c.loop-b.invariant

pub returns : goal.returns
returns c = row_by_bytes c.args.a.now c.args.row.now c.loop-b.row (omega arith) (λ b l. c.loop-b.invariant b (omega arith))
