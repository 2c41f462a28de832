use Rattle.std.proofs.Common.{◌+◌, ◌*◌}
use Rattle.words.specs.Words.{Joined, up, below, meet}
use Rattle.ranges.proofs.or_words.Given as goal

abbrev pub invariant-loop-j : goal.invariant-loop-j
invariant-loop-j l = Joined (up (64 * l.k) (below (64 * l.j) (meet l.src (64 * l.p + l.r) l.mask (64 * l.q + l.t)))) l.initial.dst l.dst
