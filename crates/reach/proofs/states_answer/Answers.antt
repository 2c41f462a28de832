use Rattle.reach.proofs.Closes.{answered, zero_alone}
use Rattle.model.specs.Table.{monitor_of}
use Rattle.reach.proofs.states_answer.Goals as goal

pub close-requires : goal.close-requires
close-requires c = (c.put.ensures.size, zero_alone 31 _ c.put.ensures)

pub returns : goal.returns
unfolding monitor_of
returns c = let a = answered (monitor_of c.args.t) _ _ c.close.ensures c.first_absent.ensures in record { value = a.0; states_judged = a.1 }
