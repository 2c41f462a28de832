use Rattle.std.proofs.Common.{arith, add-one}
use Rattle.reach.proofs.Closes.{closing_first, closing_next, closing_all, closing_still, transitions-many}
use Rattle.reach.proofs.close.Goals as goal

pub loop-round-init : goal.loop-round-init
loop-round-init c = closing_first _ _ c.requires.0 c.requires.1

pub returns-then-not-spread : goal.returns-then-not-spread
returns-then-not-spread c = closing_still _ c.loop-round._round _ _ _ c.loop-round.invariant c.spread.ensures c.if-not-spread.true

pub loop-round-preserved : goal.loop-round-preserved
loop-round-preserved c = rw add-one (closing_next _ c.loop-round._round _ _ c.spread.result c.loop-round.invariant c.spread.ensures)

pub returns : goal.returns
returns c = closing_all _ c.loop-round._round _ (transitions-many c.args.t c.loop-round._round (omega arith)) c.loop-round.invariant
