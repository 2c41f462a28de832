-- A guard inside another is one less deep.
use Rattle.guard.proofs.+guard_seen.Given as goal

abbrev pub decreases-guard_seen : goal.decreases-guard_seen
decreases-guard_seen l = l.depth
