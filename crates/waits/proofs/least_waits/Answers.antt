use Rattle.std.proofs.Common.{ap, ◌∙◌, arith}
use Rattle.waits.specs.Waits.{others}
use Rattle.waits.proofs.WaitLaws.{least_most}
use Rattle.waits.proofs.least_waits.Goals as goal

pub returns-in-Some : goal.returns-in-Some
returns-in-Some c =
    c.complement.ensures ∙ ap others c.most_waits.ensures
    ∙ least_most c.args.c.now c.args.n c.args.t c.in-Some.less (omega arith) (omega arith)
