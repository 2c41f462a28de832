use Rattle.std.proofs.Common.{ℕ, List, get_or, refl, ap, arith, ◌∙◌}
use Rattle.model.specs.Table.{field_bytes, guard_bytes_in}
use Rattle.wire.specs.Placed.{placed}
use Rattle.tables.proofs.Encoded.{two_long, two_placed}
use Rattle.tables.proofs.put_transition.Goals as goal

pub returns : goal.returns
returns c =
    let a = c.args in
    let x = field_bytes a.t a.j in
    let y = guard_bytes_in a.t.guards (get_or a.t.lengths a.j 0) a.j in (
      λ head room h k e. (
        two_placed head room x y a.at h refl (omega (arith, c.put_guard.ensures.2)) _ _ _ e
            (c.place.ensures ∙ ap (λ (l : List ℕ). placed l a.at a.out.now) c.field_bytes-fields.ensures)
            c.put_guard.ensures.0,
        two_long head room x y a.at h refl c.put_guard.result c.put_guard.ensures.1,
      ),
      omega (arith, c.put_guard.ensures.2),
    )
