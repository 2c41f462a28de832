use Rattle.std.proofs.Common.{arith, add-one, take-suc}
use Rattle.text.proofs.Stores.{wrote_none, wrote-more}
use Rattle.text.proofs.put.Goals as goal

pub loop-b-init : goal.loop-b-init
loop-b-init c = (wrote_none c.args.text.now c.args.at, omega arith)

pub loop-b-preserved : goal.loop-b-preserved
loop-b-preserved c = (rw (add-one, take-suc c.args.bytes.now c.loop-b.b-index 0 (omega arith)) (wrote-more c.loop-b.invariant.0 c.emit-next.ensures), omega arith)
