use Rattle.std.proofs.Common.{arith, add-one, take-suc, take_all}
use Rattle.text.proofs.Digits.{spaced-length, numbered-more}
use Rattle.text.proofs.Stores.{wrote-more}
use Rattle.text.proofs.line.Goals as goal

pub loop-n-init : goal.loop-n-init
loop-n-init c = (c.put-next.ensures, omega arith)

pub loop-n-preserved : goal.loop-n-preserved
loop-n-preserved c = (
  rw (add-one, take-suc c.args.numbers.now c.loop-n.n-index 0 (omega arith), numbered-more) (wrote-more c.loop-n.invariant.0 c.number-next.ensures),
  omega (arith, spaced-length),
)

pub returns : goal.returns
returns c = wrote-more (rw (take_all c.loop-n.n-index c.args.numbers.now (omega arith)) at c.loop-n.invariant.0) c.emit.ensures
