use Rattle.shifts.specs.Shifted.{shifted_down}
use Rattle.shifts.proofs.down.shift_down.Goals as goal

pub returns : goal.returns
unfolding shifted_down
returns c = c.shift.ensures
