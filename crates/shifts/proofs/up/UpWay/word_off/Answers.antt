use Rattle.words.specs.Words.{up}
use Rattle.shifts.proofs.up.UpWay.word_off.Goals as goal

pub returns : goal.returns
unfolding up
returns c = c.word_before.ensures
