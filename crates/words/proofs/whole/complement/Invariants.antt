use Rattle.std.proofs.Common.{◌≡◌, ℕ, ◌<◌, ◌-◌, ◌≤◌, ◌^◌, get_or}
use Rattle.words.proofs.whole.complement.Given as goal

abbrev pub invariant-loop-x : goal.invariant-loop-x
invariant-loop-x l =
    record {
      done : (k : ℕ) → k < l.x-index → get_or l.a k 0 ≡ 2 ^ 64 - 1 - get_or l.fn.a k 0;
      rest : (k : ℕ) → l.x-index ≤ k → get_or l.a k 0 ≡ get_or l.fn.a k 0;
    }
