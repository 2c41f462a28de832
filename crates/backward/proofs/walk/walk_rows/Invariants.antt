-- At most one row an instant; and, on sound ground, the rows written and the rows to come are the preferred witness.
use Rattle.std.proofs.Common.{◌+◌, ◌*◌, ◌≤◌, ◌<◌, length}
use Rattle.model.specs.Recording.{packets_at}
use Rattle.model.specs.Layers.{count}
use Rattle.model.specs.Validation.{possible_after}
use Rattle.measures.specs.Setting.{monitor_by}
use Rattle.backward.specs.WalkRows.{Ground, Stands}
use Rattle.backward.proofs.WalkSteps.{Walked}
use Rattle.backward.proofs.walk.walk_rows.Given as goal

abbrev pub invariant-loop-t : goal.invariant-loop-t
invariant-loop-t l =
    record {
      few : l.at.rows ≤ l.t;
      walked :
          Ground l.table l.offsets l.recording l.scratch l.g
          → 0 < count (possible_after (monitor_by l.g l.table) (packets_at l.recording) l.g.last)
          → 5 * (l.g.last + length (packets_at l.recording)) ≤ length l.initial.room
          → Stands (monitor_by l.g l.table) l.recording l.g.last l.t l.at.number l.at.cursor
          × Walked (monitor_by l.g l.table) l.recording l.g.last l.t l.at.number l.at.rows l.initial.room l.room;
    }
