use Rattle.std.proofs.Common.{[], ◌∷◌, rules}
use Rattle.model.specs.Limits.{guard_limit}
use Rattle.model.specs.Guard.{guard_at}
use Rattle.guard.proofs.Guards.{bound_by}
use Rattle.guard.proofs.guard_bound.Goals as goal

pub returns : goal.returns
returns c = let a = c.args in
    let x = guard_at guard_limit a.variables a.clocks a.b.now a.at a.end in
    rw (bound_by a.clock 0 (0 ∷ 0 ∷ []) x, ← c.guard_seen.ensures) (search rules)
