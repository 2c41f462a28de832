use Rattle.measures.specs.Setting.{monitor_by, Setting}
use Rattle.measures.specs.Working.{Working}
use Rattle.backward.specs.PruneRows.{PrunedTo}
use Rattle.backward.proofs.prune.prune.Given as goal

abbrev pub invariant-loop-t : goal.invariant-loop-t
invariant-loop-t l =
    Setting l.table l.offsets l.recording l.g → Working l.table l.offsets l.g l.marks l.planes
    → PrunedTo (monitor_by l.g l.table) l.g l.recording l.g.last l.initial.cursor l.initial.scratch l.initial.next l.initial.row l.initial.sets l.initial.one l.initial.two l.initial.memo
    → PrunedTo (monitor_by l.g l.table) l.g l.recording l.t l.cursor l.scratch l.next l.row l.sets l.one l.two l.memo
