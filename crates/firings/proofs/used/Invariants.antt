use Prim.Native.Nat.{ℕ}
use mathlib.Core.Path.{◌≡◌}
use Rattle.words.specs.Words.{bit}
use Rattle.firings.specs.Used.{used_by}
use Rattle.firings.proofs.used.Given as goal

abbrev pub invariant-loop-j : goal.invariant-loop-j
invariant-loop-j l = (r : ℕ) → bit l.found r ≡ used_by l.p l.table l.offsets l.j r
