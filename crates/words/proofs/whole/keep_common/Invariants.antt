use Rattle.std.proofs.Common.{◌≡◌, ℕ, ◌<◌, ◌≤◌, get_or, bit_and}
use Rattle.words.proofs.whole.keep_common.Given as goal

abbrev pub invariant-loop-k : goal.invariant-loop-k
invariant-loop-k l =
    record {
      done : (k : ℕ) → k < l.k → get_or l.a k 0 ≡ bit_and (get_or l.fn.a k 0) (get_or l.b k 0);
      rest : (k : ℕ) → l.k ≤ k → get_or l.a k 0 ≡ get_or l.fn.a k 0;
    }
