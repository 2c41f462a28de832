use Rattle.std.proofs.Common.{◌-◌, ◌*◌, arith}
use Rattle.strides.proofs.Repeats.{spread_first, spread_more}
use Rattle.strides.proofs.all.Goals as goal

pub loop-k-init : goal.loop-k-init
loop-k-init g c = (omega arith, omega arith, spread_first g.W.Way.moves c.args.a.now c.args.w g.met.W.Way.still)

pub loop-k-preserved : goal.loop-k-preserved
loop-k-preserved g c =
    let law = g.met.W.Way in
    let k = c.loop-k.k in
    let more = spread_more g.W.Way.moves c.args.a.now c.args.w law.twice law.past c.loop-k.a c.step.new.a k k (omega arith) c.loop-k.invariant.2 in
    (omega arith, omega arith, more (2 * k) (omega arith) c.step.ensures)

pub returns-then-k-n : goal.returns-then-k-n
returns-then-k-n g c =
    let law = g.met.W.Way in
    let k = c.loop-k.k in
    let n = c.args.n in
    spread_more g.W.Way.moves c.args.a.now c.args.w law.twice law.past c.loop-k.a c.step-then-k-n.new.a (n - k) k (omega arith) c.loop-k.invariant.2
    n (omega arith) c.step-then-k-n.ensures
