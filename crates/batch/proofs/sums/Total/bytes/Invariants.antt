use Rattle.std.proofs.Common.{◌≡◌, drop}
use Rattle.batch.specs.Batch.{sum_from}
use Rattle.batch.proofs.sums.Total.bytes.Given as goal

-- what is still to come makes the same of the sum so far
abbrev pub invariant-loop-b : goal.invariant-loop-b
invariant-loop-b l = sum_from l.total.value (drop l.b-index l.bytes) ≡ sum_from l.fn.self.value l.bytes
