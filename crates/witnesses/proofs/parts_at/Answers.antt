use Rattle.std.proofs.Common.{arith}
use Rattle.witnesses.proofs.Parts.{parts_are}
use Rattle.witnesses.proofs.parts_at.Goals as goal

pub returns : goal.returns
returns c =
    parts_are _ _ _ c.default.ensures _ _ c.count_at-count.ensures.0 (omega arith) c.rows_place-start.ensures.0 _ _ _ _ c.bytes_column.ensures c.words_column.ensures
    c.bytes_column-2.ensures c.bytes_column-3.ensures
