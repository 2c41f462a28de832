use Rattle.words.specs.Words.{up}
use Rattle.std.proofs.Common.{rules}
use Rattle.strides.proofs.spread_up.Goals as goal

pub returns : goal.returns
unfolding up
returns c = (search rules, search rules, c.spread.ensures)
