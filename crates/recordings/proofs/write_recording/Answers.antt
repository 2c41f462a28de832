use Rattle.std.proofs.Common.{◌+◌, ◌*◌, refl, sym, arith}
use Rattle.recordings.proofs.Recordings.{write_late, encoded}
use Rattle.recordings.proofs.write_recording.Goals as goal

pub returns : goal.returns
returns c =
    let a = c.args in
    let bytes = encoded a.r _ _ (5 + 3 * a.r.count) c.encode.ensures refl in
    write_late a.table.now a.r a.room.now (sym c.in_ok-table_answer.ensures.value) _ _ (omega arith) bytes c.recording_scan.ensures _ _ c.put.ensures
