use Rattle.std.proofs.Common.{◌≡◌, ◌≤◌, get_or}
use Rattle.model.specs.Bytes.{tab}
use Rattle.model.specs.Size.{greatest}
use Rattle.sizes.proofs.largest_airtime.Given as goal

abbrev pub invariant-loop-i : goal.invariant-loop-i
invariant-loop-i l = (l.most ≤ 255) × (l.most ≡ greatest (tab (λ k. get_or l.fn.t.airtimes k 0) l.i))
