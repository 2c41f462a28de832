use Rattle.shifts.proofs.Moved.{down_bits}
use Rattle.shifts.proofs.down.DownWay.join.Goals as goal

pub returns : goal.returns
returns c = λ p w x y. down_bits p w c.args.k c.args.near c.args.far x y
