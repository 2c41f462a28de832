use Rattle.std.proofs.Common.{◌≡◌, ◌+◌, ◌-◌, ◌≤◌, length, append_assoc, arith}
use Rattle.std.proofs.Math.Seq.{drop-drop}
use Rattle.wire.proofs.Room.{placed-fits, placed_not}
use Rattle.wire.proofs.place.Goals as goal

pub returns-then-bytes-room : goal.returns-then-bytes-room
returns-then-bytes-room c =
    let a = c.args in
    let n = length a.bytes.now in
    let count : a.at + n - a.at ≡ n = omega arith in
    let fits : a.at + n ≤ length a.room.now = omega arith in
    rw (c.copy_from_slice.ensures.after, count, placed-fits a.bytes.now a.at a.room.now fits)
    (simp (append_assoc, drop-drop))

pub returns-else-at-room : goal.returns-else-at-room
returns-else-at-room c = grind (arith, placed_not)
