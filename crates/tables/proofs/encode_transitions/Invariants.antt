-- the records of the transitions before this one stand behind the head, and end here
use Rattle.std.proofs.Common.{◌≡◌, ◌≤◌, ◌+◌, ◌*◌, ℕ, List, ◌++◌, length}
use Rattle.model.specs.Bytes.{joined}
use Rattle.model.specs.Room.{over}
use Rattle.model.specs.Table.{transition_bytes, table_limit}
use Rattle.tables.proofs.encode_transitions.Given as goal

abbrev pub invariant-loop-i : goal.invariant-loop-i
invariant-loop-i l = record {
  low : l.at ≤ 104 + 39 * l.i;
  stands :
      (head room : List ℕ) → length head ≡ l.initial.at → table_limit ≤ length room → l.initial.out ≡ over head room
      → (l.out ≡ over (head ++ joined (transition_bytes l.t) l.i) room) × (l.at ≡ length (head ++ joined (transition_bytes l.t) l.i));
}
