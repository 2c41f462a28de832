use Rattle.std.proofs.Common.{arith}
use lib.Seq.{length-take-le}
use Rattle.strides.proofs.Digits.{grown}
use Rattle.strides.proofs.grow.Goals as goal

pub returns : goal.returns
returns c =
    let a = c.args.a.now in
    let m = c.min-m.result in
    grown a c.step.new.a c.args.e m (omega arith) (λ l. omega arith) c.requires.1 c.step.ensures (omega (arith, length-take-le m a))
