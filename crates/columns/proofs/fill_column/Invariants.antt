-- The places so far hold what was read.
use Rattle.std.proofs.Common.{◌≡◌, ◌<◌, ℕ, drop, ◌++◌}
use Rattle.model.specs.Bytes.{tab}
use Rattle.columns.proofs.fill_column.Given as goal

abbrev pub invariant-loop-i : goal.invariant-loop-i
invariant-loop-i g l =
    (f : ℕ → _) → ((i : ℕ) (x : _) → i < l.n → goal.F-post g l.read i x → x ≡ f i) → l.place-items ≡ tab f l.i ++ drop l.i l.initial.place-items
