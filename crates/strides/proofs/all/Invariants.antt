use Rattle.std.proofs.Common.{◌≤◌, ◌-◌}
use Rattle.words.specs.Words.{Is}
use Rattle.strides.proofs.Repeats.{spread_to}
use Rattle.strides.proofs.all.Given as goal

abbrev pub invariant-loop-k : goal.invariant-loop-k
invariant-loop-k g l = (1 ≤ l.k) × (l.k ≤ l.n) × Is (spread_to g.W.Way.moves l.initial.a l.w l.k) l.initial.a l.a

abbrev pub decreases-loop-k : goal.decreases-loop-k
decreases-loop-k g l = l.n - l.k
