use Rattle.std.proofs.Common.{◌≡◌, ℕ, ◌<◌, false}
use Rattle.model.specs.Layers.{into}
use Rattle.steps.specs.Stepping.{arrive_by}
use Rattle.layers.specs.Into.{in_row, by_transition}
use Rattle.layers.proofs.first_by.Given as goal

abbrev pub invariant-loop-j : goal.invariant-loop-j
invariant-loop-j l = (i : ℕ) → i < l.j → into (in_row l.scratch l.to.start l.to.size) (arrive_by l.table l.offsets l.h l.heard l.s (by_transition l.heard i)) ≡ false
