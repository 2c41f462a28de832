use Rattle.words.proofs.Bit.{bit_low}
use Rattle.ranges.proofs.low.Goals as goal

pub returns : goal.returns
returns c = λ j. bit_low c.args.r j c.requires.1
