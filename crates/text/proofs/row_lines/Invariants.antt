use Rattle.std.proofs.Common.{◌+◌, ◌*◌, ◌≤◌}
use Rattle.model.specs.Bytes.{tab}
use Rattle.model.specs.Desk.{row_lines}
use Rattle.model.specs.Witness.{row_at}
use Rattle.model.specs.declared.Edition.TheVariants.{One}
use Rattle.text.specs.Put.{Wrote}
use Rattle.text.proofs.row_lines.Given as goal

abbrev pub invariant-loop-i : goal.invariant-loop-i
invariant-loop-i l = Wrote (row_lines (tab (row_at One l.witness) l.i)) l.fn.at l.fn.text l.text l.next × (l.next ≤ l.fn.at + 71 * l.i)
