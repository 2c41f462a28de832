use Rattle.std.proofs.Common.{◌∙◌, arith}
use Rattle.waits.proofs.WaitLaws.{past-most, still-most}
use Rattle.waits.proofs.most_waits.Goals as goal

pub returns-in-Some-checked_sub : goal.returns-in-Some-checked_sub
returns-in-Some-checked_sub c =
    let there = c.in-Some.ensures.lookup.3 in
    c.up_to.ensures ∙ still-most c.args.c.now c.args.n c.args.t c.in-Some.reads.now there.0 (there.1 0) _ (omega arith) (omega arith)

pub returns-in-None : goal.returns-in-None
returns-in-None c =
    let there = c.in-Some.ensures.lookup.3 in
    c.constant-in-None.ensures ∙ past-most c.args.c.now c.args.n c.args.t c.in-Some.reads.now there.0 (there.1 0) (omega arith)
