use Rattle.std.proofs.Common.{List, ℕ, ap, arith, ◌∙◌}
use Rattle.wire.specs.Placed.{placed}
use Rattle.tables.proofs.Encoded.{guard_part, guard-count}
use Rattle.tables.proofs.put_guard.Goals as goal

pub returns : goal.returns
returns c =
    let a = c.args in
    let w = c.min.result in (
      c.place.ensures ∙ ap (λ (l : List ℕ). placed l a.at a.out.now) (guard_part a.guards.now a.j a.count w (omega arith)),
      guard-count a.guards.now a.j a.count w (omega arith) c.requires.0 c.requires.1,
      omega arith,
    )
