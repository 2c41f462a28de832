use Rattle.words.specs.Words.{Joined}
use Rattle.firings.specs.Fired.{fired}
use Rattle.firings.proofs.fire.Given as goal

abbrev pub invariant-loop-j : goal.invariant-loop-j
invariant-loop-j l = Joined (fired l.r.plan l.r.table.now l.offsets l.r.src.now l.r.planes.now l.j) l.initial.dst l.dst
