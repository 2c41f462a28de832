use Rattle.std.proofs.Common.{sym, ◌∙◌, arith}
use Rattle.model.specs.Guard.{holds, largest}
use Rattle.guard.proofs.Guards.{leaf_always, leaf_variable, leaf_no_variable, leaf_clock, leaf_no_clock}
use Rattle.guard.proofs.leaf_seen.Goals as goal

pub returns-in-0 : goal.returns-in-0
unfolding holds largest
returns-in-0 c = let a = c.args in
    rw (leaf_always a.q.variables a.q.clocks a.b.now a.at a.end (sym c.byte.ensures.0 ∙ c.in-0.is), c.constant.ensures)

pub returns-in-3 : goal.returns-in-3
unfolding holds largest
returns-in-3 c = let a = c.args in
    rw (
      leaf_variable a.q.variables a.q.clocks a.b.now a.at a.end (sym c.byte.ensures.0 ∙ c.in-3.is) (sym c.if-has_variable.ensures),
      ← c.byte-in-3.ensures.0,
      c.constant-in-3.ensures,
      c.has_bit-value.ensures,
    )

pub returns-in-3-2 : goal.returns-in-3-2
returns-in-3-2 c = let a = c.args in
    rw (leaf_no_variable a.q.variables a.q.clocks a.b.now a.at a.end (sym c.byte.ensures.0 ∙ c.in-3.is) (sym c.if-has_variable.ensures))

pub returns-in_default : goal.returns-in_default
returns-in_default c =
    let a = c.args in
    let other = leaf_clock a.q.variables a.q.clocks a.b.now a.at a.end (λ e. omega arith) (λ e. omega arith) (sym c.if-has_clock.ensures) in
    rw (other, ← c.byte.ensures.0, ← c.byte-in_default.ensures.0, ← c.byte-in_default-2.ensures.0) c.clock_seen.ensures

pub returns-in_default-2 : goal.returns-in_default-2
returns-in_default-2 c = let a = c.args in
    rw (leaf_no_clock a.q.variables a.q.clocks a.b.now a.at a.end (λ e. omega arith) (λ e. omega arith) (sym c.if-has_clock.ensures))
