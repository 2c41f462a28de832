-- the records of the kinds before this one stand behind the head
use Rattle.std.proofs.Common.{◌≡◌, ◌≤◌, ℕ, List, ◌++◌, length}
use Rattle.model.specs.Bytes.{joined}
use Rattle.model.specs.Room.{over}
use Rattle.model.specs.Kinds.{kind_bytes}
use Rattle.model.specs.Table.{table_limit}
use Rattle.tables.proofs.encode_kinds.Given as goal

abbrev pub invariant-loop-i : goal.invariant-loop-i
invariant-loop-i l = (head room : List ℕ) → length head ≡ 8 → table_limit ≤ length room → l.initial.out ≡ over head room → l.out ≡ over (head ++ joined (kind_bytes l.t) l.i) room
