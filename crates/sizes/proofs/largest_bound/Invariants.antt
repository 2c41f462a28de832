use Rattle.std.proofs.Common.{◌≡◌, ◌≤◌}
use Rattle.model.specs.Bytes.{tab}
use Rattle.model.specs.Size.{largest_in}
use Rattle.model.specs.Table.{transition_in}
use Rattle.sizes.proofs.largest_bound.Given as goal

abbrev pub invariant-loop-j : goal.invariant-loop-j
invariant-loop-j l = (l.most ≤ 255) × (l.most ≡ largest_in l.clock (tab (transition_in l.fn.t) l.j))
