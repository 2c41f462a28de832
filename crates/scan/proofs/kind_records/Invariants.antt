-- the records before this one are sound
use Rattle.std.proofs.Common.{◌≡◌, ℕ, ◌<◌, Ok, get_or}
use Rattle.model.specs.Kinds.{version_at, kind_at, kind_record}
use Rattle.model.specs.First.{Reading}
use Rattle.scan.proofs.kind_records.Given as goal

abbrev pub invariant-loop-i : goal.invariant-loop-i
invariant-loop-i l = (k : ℕ) → k < l.i → ◌≡◌ {A = Reading} (kind_record l.b (kind_at (version_at l.b) k) (get_or l.devices k 0)) (Ok tt)
