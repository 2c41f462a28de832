use Rattle.std.proofs.Common.{rules}
use Rattle.bits.specs.Member.{mem}
use Rattle.bits.proofs.test.Goals as goal

pub returns : goal.returns
unfolding mem
returns c = search rules
