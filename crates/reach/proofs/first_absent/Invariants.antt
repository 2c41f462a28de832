-- the states before this one are in the set
use Rattle.std.proofs.Common.{◌≡◌, ℕ, ◌<◌, true}
use Rattle.bits.specs.Member.{mem}
use Rattle.reach.proofs.first_absent.Given as goal

abbrev pub invariant-loop-s : goal.invariant-loop-s
invariant-loop-s l = (r : ℕ) → r < l.s → mem l.set r ≡ true
