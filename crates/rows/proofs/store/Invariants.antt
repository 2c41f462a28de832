use Rattle.std.proofs.Common.{◌≡◌, ℕ, ◌*◌, ◌<◌, get_or}
use Rattle.rows.proofs.Bytes.{byte_of}
use Rattle.rows.proofs.store.Given as goal

abbrev pub invariant-loop-k : goal.invariant-loop-k
invariant-loop-k l = (b : ℕ) → b < 8 * l.k → get_or l.row b 0 ≡ byte_of l.a b

abbrev pub invariant-loop-b : goal.invariant-loop-b
invariant-loop-b l = (b : ℕ) → b < l.b → get_or l.row b 0 ≡ byte_of l.a b
