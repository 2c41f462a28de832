-- The frame goes before the rows, which stand in the part of the room behind it.
use Rattle.std.proofs.Common.{◌∙◌, arith}
use Rattle.backward.proofs.WalkRoom.{part_room, framed_part}
use Rattle.backward.proofs.WalkSteps.{rows_fit}
use Rattle.backward.proofs.walk.walk.Goals as goal

pub returns-clause-written : goal.returns-clause-written
returns-clause-written c ground some_left long =
    let a = c.args in
    let head = c.rows_place-head.ensures.0 in
    let (count, rows) = c.walk_rows-rows.ensures.written ground some_left (part_room _ a.room.now _ (omega (arith, head, long))) in
    let short = rows_fit a.table.now a.offsets.now a.recording.now a.g ground.setting in
    (count, c.put_frame.ensures ∙ framed_part a.edition _ _ _ a.room.now _ head count rows (omega (arith, long, short, head)))
