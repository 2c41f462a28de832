use Rattle.std.proofs.Common.{arith}
use Rattle.monitor.specs.From.{transition_count}
use Rattle.steps.specs.Stepping.{arrive_by}
use Rattle.layers.specs.Into.{in_row, by_transition}
use Rattle.layers.proofs.Moves.{first-at, first_none}
use Rattle.layers.proofs.first_by.Goals as goal

pub returns-in-Some-leading : goal.returns-in-Some-leading
returns-in-Some-leading c =
    let a = c.args in
    first-at (in_row a.scratch.now a.to.start a.to.size) (arrive_by a.table.now a.offsets.now a.h a.heard a.s) (by_transition a.heard) (transition_count a.table.now)
    c.loop-j.j c.in-Some-leading.least c.loop-j.invariant (omega arith) (grind arith)

pub returns : goal.returns
returns c =
    let a = c.args in
    first_none (in_row a.scratch.now a.to.start a.to.size) (arrive_by a.table.now a.offsets.now a.h a.heard a.s) (by_transition a.heard) (transition_count a.table.now)
    (λ i h. c.loop-j.invariant i (omega arith))
