use Rattle.std.proofs.Common.{◌≤◌, length, ◌∙◌, arith}
use Rattle.planes.proofs.Tables.{plane-there, plane_none, sets-some, cleared}
use Rattle.planes.proofs.plane.Goals as goal

pub returns-then-is_none : goal.returns-then-is_none
returns-then-is_none c =
    let a = c.args in
    let stack = c.guard_set.new.stack in
    let fits : a.n ≤ length stack = omega (arith, c.requires.1, c.guard_set.auto.stack, sets-some a.n a.table.now a.at) in
    λ i l. cleared stack c.fill.new.self a.n fits (c.fill.ensures.after (λ y h. h)) i l
    ∙ plane_none a.first a.second a.n stack a.table.now a.at c.byte-2.result c.byte-3.result c.byte.result
    c.byte-2.ensures.0 c.byte-3.ensures.0 c.byte.ensures.0 c.guard_set.result c.guard_set.ensures c.if-is_none.ensures i

pub returns-else-is_none : goal.returns-else-is_none
returns-else-is_none c =
    let a = c.args in
    plane-there a.first a.second a.n c.guard_set.new.stack a.table.now a.at c.byte-2.result c.byte-3.result c.byte.result
    c.byte-2.ensures.0 c.byte-3.ensures.0 c.byte.ensures.0 c.guard_set.result c.guard_set.ensures c.if-is_none.ensures
