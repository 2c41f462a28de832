-- the records from this one on are all that is left to test
use Rattle.std.proofs.Common.{◌≡◌, ◌≤◌, ◌+◌, ◌*◌, ◌-◌}
use Rattle.model.specs.Table.{transition_records, transitions_at, transition_at}
use Rattle.scan.proofs.transition_records.Given as goal

abbrev pub invariant-loop-i : goal.invariant-loop-i
invariant-loop-i l = (l.at ≤ 773 + 262 * l._i) × (transition_records (transitions_at l.b) l.b (transition_at l.b 0) ≡ transition_records (transitions_at l.b - l._i) l.b l.at)
