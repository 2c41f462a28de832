use Rattle.planes.proofs.+guard_set.Given as goal

abbrev pub decreases-guard_set : goal.decreases-guard_set
decreases-guard_set l = l.depth
