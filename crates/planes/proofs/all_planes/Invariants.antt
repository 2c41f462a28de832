use Rattle.planes.specs.Planes.{Planes}
use Rattle.planes.proofs.all_planes.Given as goal

abbrev pub invariant-loop-j : goal.invariant-loop-j
invariant-loop-j l = Planes l.first l.second l.n l.table l.offsets l.j l.initial.planes l.planes
