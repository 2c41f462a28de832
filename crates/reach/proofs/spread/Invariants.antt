-- at transition j, those before it have been tried
use Rattle.model.specs.Bytes.{tab}
use Rattle.model.specs.Table.{transition_in, monitor_of}
use Rattle.reach.specs.Spreading.{Spread}
use Rattle.reach.proofs.spread.Given as goal

abbrev pub invariant-loop-j : goal.invariant-loop-j
invariant-loop-j l = Spread (monitor_of l.t) (tab (transition_in l.t) l.j) l.initial.set l.set l.grown
