use Rattle.std.proofs.Common.{refl}
use Rattle.shifts.proofs.Moved.{behind-bits}
use Rattle.shifts.proofs.down.DownWay.word_there.Goals as goal

pub returns : goal.returns
returns c = behind-bits c.args.a.now c.args.w c.args.by _ refl (c.type_inv.a _).fits
