-- the record of this transition starts here, and what those before it have stands in the column, over zeros
use Rattle.std.proofs.Common.{◌≡◌, ◌≤◌, ◌+◌, ◌*◌, ◌++◌, drop}
use Rattle.model.specs.Bytes.{byte_at, tab}
use Rattle.model.specs.Table.{transition_at}
use Rattle.tables.proofs.transition_column.Given as goal

abbrev pub invariant-loop-i : goal.invariant-loop-i
invariant-loop-i l = record {
  low : l.at ≤ 773 + 262 * l.i;
  starts : l.at ≡ transition_at l.b l.i;
  fills : l.column ≡ tab (λ j. byte_at l.b (transition_at l.b j + l.field)) l.i ++ drop l.i l.initial.column;
}
