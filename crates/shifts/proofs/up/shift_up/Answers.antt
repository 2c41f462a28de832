use Rattle.words.specs.Words.{up}
use Rattle.shifts.specs.Shifted.{shifted}
use Rattle.shifts.proofs.up.shift_up.Goals as goal

pub returns : goal.returns
unfolding shifted up
returns c = c.shift.ensures
