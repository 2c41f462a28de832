-- One recursion over a guard's bytes, as in `guard`: each guard is built into the first words that are lent, the second of a conjunction into those behind them.
use Rattle.std.proofs.Common.{ℕ, ◌+◌, ◌-◌, ◌≤◌, length, refl, sym, ◌∙◌, arith}
use Rattle.model.specs.Guard.{GuardRead, guard_at}
use Rattle.guard.proofs.Guards.{guard_none, guard_out, guard_leaf, guard_not, guard_and}
use Rattle.planes.proofs.Forms.{built_none, built_not, built_inside, built_second, built_and}
use Rattle.planes.proofs.Inside.{inside}
use Rattle.planes.proofs.Room.{room_one, room_next, first_not, first_built, rest-length, rest-common}
use borrow.Rule.Slice.PartMut.{same_len_mid}
use Rattle.planes.proofs.+guard_set.Goals as goal

pub returns-then-end-at : goal.returns-then-end-at
returns-then-end-at t c = let a = c.args in
    built_none a.q.first a.q.second a.n _ _ _ (guard_out a.q.variables a.q.clocks a.b.now a.at a.end a.depth c.if-end-at.true) refl

pub returns-in_err-depth : goal.returns-in_err-depth
returns-in_err-depth t c = let a = c.args in
    built_none a.q.first a.q.second a.n _ _ _ (guard_none a.q.variables a.q.clocks a.b.now a.at a.end a.depth (omega arith)) c.from_residual.ensures

pub returns-in_err-next-in-4 : goal.returns-in_err-next-in-4
returns-in_err-next-in-4 t c = let a = c.args in
    let d = c.in_ok-depth.depth in
    rw (guard_not a.q.variables a.q.clocks a.b.now a.at a.end a.depth d (omega arith) (omega arith) (sym c.byte.ensures.0 ∙ c.in-4.is), c.from_residual-in_err-next-in-4.ensures)
    (built_inside a.q.first a.q.second a.n c.guard_set.new.stack (guard_at d a.q.variables a.q.clocks a.b.now (a.at + 1) a.end) _ _ _ c.guard_set.ensures c.in_err-next-in-4.was)

pub returns-in_ok-next-in-4 : goal.returns-in_ok-next-in-4
returns-in_ok-next-in-4 t c = let a = c.args in
    let d = c.in_ok-depth.depth in
    let stack = c.guard_set.new.stack in
    let fits : a.n ≤ length stack = omega (arith, c.requires.0, c.guard_set.auto.stack, room_one a.n a.depth a.at a.end (omega arith)) in
    rw (guard_not a.q.variables a.q.clocks a.b.now a.at a.end a.depth d (omega arith) (omega arith) (sym c.byte.ensures.0 ∙ c.in-4.is), ← c.in_ok-next-in-4.was)
    (built_not a.q.first a.q.second a.n stack _ (guard_at d a.q.variables a.q.clocks a.b.now (a.at + 1) a.end) _ c.guard_set.ensures (first_not stack c.complement.new.a a.n fits c.complement.ensures))

pub returns-in_err-next-in-5 : goal.returns-in_err-next-in-5
returns-in_err-next-in-5 t c = let a = c.args in
    let d = c.in_ok-depth.depth in
    rw (guard_and a.q.variables a.q.clocks a.b.now a.at a.end a.depth d (omega arith) (omega arith) (sym c.byte.ensures.0 ∙ c.in-5.is), c.from_residual-in_err-next-in-5.ensures)
    (built_inside a.q.first a.q.second a.n c.guard_set-in-5.new.stack (guard_at d a.q.variables a.q.clocks a.b.now (a.at + 1) a.end) _ _ _ c.guard_set-in-5.ensures c.in_err-next-in-5.was)

pub guard_set-requires-in-5-2 : goal.guard_set-requires-in-5-2
guard_set-requires-in-5-2 t c =
    let a = c.args in
    let h = c.requires in
    let d = c.in_ok-depth.depth in
    let inner = c.guard_set-in-5 in
    let next = c.in_ok-next-in-5.next in
    let stack = inner.new.stack in
    let ends = sym c.in_ok-next-in-5.was ∙ inner.ensures.ends in
    let there = inside a.q.variables a.q.clocks a.b.now a.n a.depth d a.at a.end next _ _ (omega arith) ends h.0 inner.auto.stack in (
      omega arith,
      (
        omega (arith, h.0, inner.auto.stack, rest-length stack stack a.n (omega arith), room_next a.n a.depth a.at a.end d next (omega arith) there.further there.before_end),
        omega (arith, h.1, inner.auto.spare),
        h.2,
        h.3,
      ),
    )

pub returns-in_err-second-in-5 : goal.returns-in_err-second-in-5
returns-in_err-second-in-5 t c =
    let a = c.args in
    let d = c.in_ok-depth.depth in
    let from : ℕ → GuardRead = λ k. guard_at d a.q.variables a.q.clocks a.b.now k a.end in
    rw (guard_and a.q.variables a.q.clocks a.b.now a.at a.end a.depth d (omega arith) (omega arith) (sym c.byte.ensures.0 ∙ c.in-5.is), c.from_residual-in_err-second-in-5.ensures)
    (built_second a.q.first a.q.second a.n c.guard_set-in-5.new.stack _ c.guard_set-in-5-2.new.stack (from (a.at + 1)) from _ _ c.in_ok-next-in-5.next
    c.guard_set-in-5.ensures c.in_ok-next-in-5.was c.guard_set-in-5-2.ensures c.in_err-second-in-5.was)

pub keep_common-requires : goal.keep_common-requires
keep_common-requires t c =
    let a = c.args in
    let inner = c.guard_set-in-5 in
    let stack = inner.new.stack in
    let ends = sym c.in_ok-next-in-5.was ∙ inner.ensures.ends in
    let there = inside a.q.variables a.q.clocks a.b.now a.n a.depth c.in_ok-depth.depth a.at a.end c.in_ok-next-in-5.next _ _ (omega arith) ends c.requires.0 inner.auto.stack in
    omega (arith, there.two, same_len_mid a.n (length stack - a.n) stack c.guard_set-in-5-2.new.stack c.guard_set-in-5-2.auto.stack)

pub returns-in_ok-second-in-5 : goal.returns-in_ok-second-in-5
returns-in_ok-second-in-5 t c =
    let a = c.args in
    let d = c.in_ok-depth.depth in
    let inner = c.guard_set-in-5 in
    let stack = inner.new.stack in
    let rest = c.guard_set-in-5-2.new.stack in
    let next = c.in_ok-next-in-5.next in
    let ends = sym c.in_ok-next-in-5.was ∙ inner.ensures.ends in
    let there = inside a.q.variables a.q.clocks a.b.now a.n a.depth d a.at a.end next _ _ (omega arith) ends c.requires.0 inner.auto.stack in
    let from : ℕ → GuardRead = λ k. guard_at d a.q.variables a.q.clocks a.b.now k a.end in
    rw (guard_and a.q.variables a.q.clocks a.b.now a.at a.end a.depth d (omega arith) (omega arith) (sym c.byte.ensures.0 ∙ c.in-5.is), ← c.in_ok-second-in-5.was)
    (built_and a.q.first a.q.second a.n stack c.keep_common.new.stack rest (from (a.at + 1)) from _ _ next
    inner.ensures c.in_ok-next-in-5.was c.guard_set-in-5-2.ensures
    (rest-common stack rest c.keep_common.new.stack a.n there.two c.guard_set-in-5-2.auto.stack c.keep_common.ensures))

pub returns-in_default : goal.returns-in_default
returns-in_default t c =
    let a = c.args in
    let fits : a.n ≤ length a.stack.now = omega (arith, c.requires.0, room_one a.n a.depth a.at a.end (omega arith)) in
    rw (guard_leaf a.q.variables a.q.clocks a.b.now a.at a.end a.depth (omega arith) (omega arith) (λ e. omega arith) (λ e. omega arith))
    (first_built a.stack.now c.leaf_set.new.set a.n fits a.q.first a.q.second _ _ c.leaf_set.auto.set c.leaf_set.ensures)
