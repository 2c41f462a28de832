use Rattle.std.proofs.Common.{◌≡◌, arith}
use Rattle.backward.proofs.WalkRoom.{rows_put_all}
use Rattle.backward.proofs.WalkSteps.{walked_on, stands-first, walked_first, walked_all, rows-room}
use Rattle.backward.proofs.walk.walk_rows.Goals as goal

pub loop-t-init : goal.loop-t-init
loop-t-init c =
    let a = c.args in
    record {
      few = omega arith;
      walked = λ ground some_left long. (
        rw ground.setting.start (stands-first a.table.now a.offsets.now a.recording.now a.g ground.setting some_left),
        rw ground.setting.start (walked_first a.table.now a.offsets.now a.recording.now a.g ground.setting a.room.now),
      );
    }

pub loop-t-preserved : goal.loop-t-preserved
loop-t-preserved c =
    let a = c.args in
    record {
      few = c.walk_on-at.ensures.few;
      walked = λ ground some_left long.
          let (stands, walked) = c.loop-t.invariant.walked ground some_left long in
          let on = c.walk_on-at.ensures.walked ground c.loop-t-test.true stands in
          (on.stands, walked_on walked (rows-room a.table.now a.offsets.now a.recording.now a.g ground.setting a.room.now long) on);
    }

pub returns-clause-written : goal.returns-clause-written
returns-clause-written c ground some_left long =
    let a = c.args in
    let done : c.loop-t.t ≡ a.g.last = omega arith in
    let all = walked_all a.table.now a.offsets.now a.recording.now a.g ground.setting (c.loop-t.invariant.walked ground some_left long).1 done in
    (omega (arith, all.count), rows_put_all all (rows-room a.table.now a.offsets.now a.recording.now a.g ground.setting a.room.now long))
