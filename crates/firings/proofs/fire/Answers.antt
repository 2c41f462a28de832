use Rattle.firings.proofs.Planes.{fired_none, fired-more}
use Rattle.firings.proofs.fire.Goals as goal

pub loop-j-init : goal.loop-j-init
loop-j-init c = fired_none _ _ _ _ _ _

pub loop-j-preserved : goal.loop-j-preserved
loop-j-preserved c = fired-more _ _ _ _ _ _ _ _ _ c.loop-j.invariant c.fire_one.ensures
