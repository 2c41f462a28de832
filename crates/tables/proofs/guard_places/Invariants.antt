-- the record of this transition starts here, and the guards before it are in their places
use Rattle.std.proofs.Common.{◌≡◌, ◌≤◌, ◌+◌, ◌*◌}
use Rattle.model.specs.Bytes.{joined, padded}
use Rattle.model.specs.Limits.{guard_limit, transition_limit}
use Rattle.model.specs.Table.{transition_at, guard_place}
use Rattle.tables.proofs.guard_places.Given as goal

abbrev pub invariant-loop-i : goal.invariant-loop-i
invariant-loop-i l = record {
  low : l.at ≤ 773 + 262 * l.i;
  starts : l.at ≡ transition_at l.b l.i;
  fills : l.guards ≡ padded (guard_limit * transition_limit) (joined (guard_place l.b) l.i);
}
