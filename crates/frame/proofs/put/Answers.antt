use Rattle.std.proofs.Common.{arith}
use Rattle.frame.proofs.Written.{write-fits}
use Rattle.frame.proofs.put.Goals as goal

pub returns : goal.returns
returns c = write-fits c.args.answer c.args.bytes.now c.args.room.now c.in_ok-answer.was (omega arith) _ c.place.ensures
