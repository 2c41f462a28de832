use Rattle.std.proofs.Common.{arith}
use Rattle.backward.proofs.WalkSteps.{leading, onward}
use Rattle.backward.proofs.walk.walk_on.Goals as goal
use Rattle.backward.proofs.walk.walk_on.Goals.{in-Some, in-None}

pub returns-clause-walked : goal.returns-clause-walked
returns-clause-walked c ground more stands =
    let a = c.args in
    let led = leading a.table.now a.offsets.now a.recording.now a.g ground.setting a.scratch.now ground.pruned more c.heard_at-heard.ensures stands in
    elim c.match-least_into.branch [
      | in-Some w ↦ rw w.number-is (onward led w.in-Some.ensures (w.row_by.ensures a.g.shape.rule ground.triggers) c.passed.ensures (rw w.number-is at c.put_row.ensures))
      | in-None w ↦ absurd (omega (arith, led.few, w.in-None.ensures))
    ]
