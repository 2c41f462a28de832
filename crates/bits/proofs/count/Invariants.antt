use Rattle.std.proofs.Common.{◌≡◌, ◌*◌, ◌%◌, ◌^◌}
use Rattle.bits.specs.Member.{mem}
use Rattle.bits.specs.Counting.{tally}
use Rattle.bits.proofs.count.Given as goal

abbrev pub invariant-loop-k : goal.invariant-loop-k
invariant-loop-k l = l.n ≡ tally (mem l.s) (64 * l.k) % 2 ^ 64
