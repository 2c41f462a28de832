use Rattle.std.proofs.Common.{arith}
use Rattle.recordings.proofs.Recordings.{parts_are}
use Rattle.recordings.proofs.parts_at.Goals as goal

pub returns : goal.returns
returns c = parts_are c.args.b.now _ c.default.ensures _ c.word-count.ensures.0 (omega arith) _ _ c.words_column.ensures c.bytes_column.ensures
