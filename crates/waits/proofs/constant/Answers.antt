use Rattle.waits.proofs.WaitLaws.{waits_none, waits_all}
use Rattle.waits.proofs.constant.Goals as goal

pub returns-then-every : goal.returns-then-every
returns-then-every c = rw c.if-every.true waits_all

pub returns-else-every : goal.returns-else-every
returns-else-every c = rw c.if-every.false waits_none
