use Rattle.words.specs.Words.{Joined}
use Rattle.firings.specs.Fired.{carried_each}
use Rattle.firings.proofs.carry_each.Given as goal

abbrev pub invariant-loop-v : goal.invariant-loop-v
invariant-loop-v l =
    Joined (carried_each l.r.plan l.r.src.now l.r.planes.now l.variables l.sets l.clears l.here l.to l.guard l.v) l.initial.dst l.dst
