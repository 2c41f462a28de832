use Rattle.std.proofs.Common.{refl}
use Rattle.std.proofs.lemmas.Bool.{leb-true}
use Rattle.shifts.proofs.Moved.{before-bits}
use Rattle.shifts.proofs.up.UpWay.word_there.Goals as goal

pub returns : goal.returns
returns c = before-bits c.args.a.now c.args.w c.args.by _ (leb-true c.args.by c.args.w c.requires.0) refl (c.type_inv.a _).fits
