use Rattle.bits.proofs.Bytes.{put_in}
use Rattle.bits.proofs.put.Goals as goal

pub returns-then-at-s : goal.returns-then-at-s
returns-then-at-s c = put_in c.args.s.now c.args.i c.if-at-s.true
