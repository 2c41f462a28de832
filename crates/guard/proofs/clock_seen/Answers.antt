use Rattle.guard.proofs.Guards.{seen_most, seen_least}
use Rattle.guard.proofs.clock_seen.Goals as goal
use Rattle.guard.proofs.clock_seen.Goals.{in-1, in-2}

pub returns : goal.returns
returns c =
    let a = c.args in
    let reads = c.short-reads.ensures.0 in
    let bound = c.bound_of.ensures in
    elim c.match-code.branch [
      | in-1 w ↦ rw w.value-is (seen_most a.q.clock a.q.mask a.c.now a.code a.n a.t a.next _ _ _ reads bound w.in-1.is w.most_waits.ensures)
      | in-2 w ↦ rw w.value-is (seen_least a.q.clock a.q.mask a.c.now a.code a.n a.t a.next _ _ _ reads bound w.in-2.is w.least_waits.ensures)
    ]
