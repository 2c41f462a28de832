use Rattle.shifts.proofs.Moved.{up-bits}
use Rattle.shifts.proofs.up.UpWay.join.Goals as goal

pub returns : goal.returns
returns c = λ p w x y. up-bits p w c.args.k c.args.near c.args.far x y
