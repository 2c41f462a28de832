use Rattle.firings.proofs.Planes.{each_none, each_more}
use Rattle.firings.proofs.carry_each.Goals as goal

pub loop-v-init : goal.loop-v-init
loop-v-init c = each_none _ _ _ _ _ _ _ _ _ _

pub loop-v-preserved : goal.loop-v-preserved
loop-v-preserved c = each_more _ _ _ _ _ _ _ _ _ _ _ _ _ _ c.variables_after-changed.ensures c.loop-v.invariant c.carry.ensures
