use Rattle.std.proofs.Common.{◌*◌}
use Rattle.words.specs.Words.{Joined, up, below, meet}
use Rattle.ranges.proofs.or_slow.Given as goal

abbrev pub invariant-loop-k : goal.invariant-loop-k
invariant-loop-k l = Joined (up l.d (below (64 * l.k) (meet l.src l.s l.mask l.m))) l.initial.dst l.dst
