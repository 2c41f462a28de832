-- what so many rounds lead to is in the set
use Rattle.model.specs.Table.{monitor_of}
use Rattle.reach.proofs.Closes.{Closing}
use Rattle.reach.proofs.close.Given as goal

abbrev pub invariant-loop-round : goal.invariant-loop-round
invariant-loop-round l = Closing (monitor_of l.t) l._round l.set
