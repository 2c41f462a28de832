use Rattle.std.proofs.Common.{◌≡◌, ℕ, ◌*◌, ◌<◌}
use Rattle.bits.specs.Member as bytes
use Rattle.words.specs.Words.{mem}
use Rattle.rows.proofs.load.Given as goal

abbrev pub invariant-loop-k : goal.invariant-loop-k
invariant-loop-k l = (i : ℕ) → i < 64 * l.k → mem l.a i ≡ bytes.mem l.row i
