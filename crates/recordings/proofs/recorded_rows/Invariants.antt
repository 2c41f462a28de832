-- the rows from this one on are all that is left to test
use Rattle.std.proofs.Common.{◌≡◌, ◌-◌}
use Rattle.model.specs.Recording.{count_at, recorded_rows}
use Rattle.recordings.proofs.recorded_rows.Given as goal

abbrev pub invariant-loop-i : goal.invariant-loop-i
invariant-loop-i l = recorded_rows (count_at l.b) l.table l.b 0 ≡ recorded_rows (count_at l.b - l.i) l.table l.b l.i
