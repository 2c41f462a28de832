use Rattle.shifts.proofs.Moved.{behind-bits}
use Rattle.shifts.proofs.down.DownWay.word_off.Goals as goal

pub returns : goal.returns
returns c = behind-bits c.args.a.now c.args.w c.args.by c.word.result c.word.ensures.0 c.word.ensures.1
