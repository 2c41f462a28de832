-- the devices of the kinds before this one, over zeros
use Rattle.std.proofs.Common.{◌≡◌, ◌++◌, drop}
use Rattle.model.specs.Bytes.{tab}
use Rattle.model.specs.Kinds.{version_at, kind_at, device_at}
use Rattle.tables.proofs.device_column.Given as goal

abbrev pub invariant-loop-i : goal.invariant-loop-i
invariant-loop-i l = l.column ≡ tab (λ k. device_at l.b (kind_at (version_at l.b) k)) l.i ++ drop l.i l.initial.column
