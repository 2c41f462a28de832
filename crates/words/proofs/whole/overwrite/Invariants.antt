-- the places before this one hold the words of src, those from it on what they held
use Rattle.std.proofs.Common.{◌≡◌, ℕ, ◌<◌, ◌≤◌, get_or}
use Rattle.words.proofs.whole.overwrite.Given as goal

abbrev pub invariant-loop-k : goal.invariant-loop-k
invariant-loop-k l =
    record {
      done : (j d : ℕ) → j < l.k → get_or l.dst j d ≡ get_or l.src j d;
      rest : (j d : ℕ) → l.k ≤ j → get_or l.dst j d ≡ get_or l.fn.dst j d;
    }
