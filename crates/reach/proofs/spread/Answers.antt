use Rattle.std.proofs.Common.{arith}
use Rattle.reach.proofs.Spreads.{spread-first, spread_next, spread-whole}
use Rattle.reach.proofs.spread.Goals as goal

pub loop-j-init : goal.loop-j-init
loop-j-init c = spread-first c.args.t _

pub loop-j-preserved : goal.loop-j-preserved
loop-j-preserved c =
    spread_next c.args.t c.loop-j.j _ _ _ _ _ c.loop-j.grown c.lead-grown.result (omega arith) c.byte.ensures.0 c.byte-in-loop-j.ensures.0 c.loop-j.invariant c.lead-grown.ensures

pub returns : goal.returns
returns c = spread-whole c.args.t c.loop-j.j _ _ _ (omega arith) c.loop-j.invariant
