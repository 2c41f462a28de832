use Rattle.std.proofs.Common.{ℕ, ◌+◌, refl, sym, ap, ◌∙◌, arith}
use Rattle.model.specs.Guard.{up_to, always, variable}
use Rattle.guard.proofs.Guards.{leaf_always, leaf_variable, leaf_no_variable, leaf_clock, leaf_no_clock}
use Rattle.planes.proofs.Edits.{same_words}
use Rattle.planes.proofs.Forms.{built_none}
use Rattle.planes.proofs.Leaves.{built_is, always-is}
use Rattle.planes.proofs.leaf_set.Goals as goal

pub returns-in-0 : goal.returns-in-0
returns-in-0 c =
    let a = c.args in
    let filled = same_words a.set.now c.fill.new.self _ (c.fill.ensures.after (λ y h. h)) in
    built_is a.q.first a.q.second a.set.now c.fill.new.self c.fill.new.self _ _ always (a.at + 1)
    (leaf_always a.q.variables a.q.clocks a.b.now a.at a.end (sym c.byte.ensures.0 ∙ c.in-0.is)) refl
    (always-is a.q.first a.q.second a.set.now c.fill.new.self c.fill.new.self filled)

pub returns-in-3 : goal.returns-in-3
returns-in-3 c =
    let a = c.args in
    let after = c.variable_set.new.set in
    let there = leaf_variable a.q.variables a.q.clocks a.b.now a.at a.end (sym c.byte.ensures.0 ∙ c.in-3.is) (sym c.if-has_variable.ensures) in
    built_is a.q.first a.q.second a.set.now after after _ _ (variable c.byte-in-3.result) (a.at + 2)
    (there ∙ ap (λ (x : ℕ). up_to (variable x) (a.at + 2)) (sym c.byte-in-3.ensures.0)) refl
    c.variable_set.ensures

pub returns-in-3-2 : goal.returns-in-3-2
returns-in-3-2 c =
    let a = c.args in
    built_none a.q.first a.q.second _ _ _ _
    (leaf_no_variable a.q.variables a.q.clocks a.b.now a.at a.end (sym c.byte.ensures.0 ∙ c.in-3.is) (sym c.if-has_variable.ensures)) refl

pub returns-in_default : goal.returns-in_default
returns-in_default c =
    let a = c.args in
    let there = leaf_clock a.q.variables a.q.clocks a.b.now a.at a.end (λ e. omega arith) (λ e. omega arith) (sym c.if-has_clock.ensures) in
    rw (there, ← c.byte.ensures.0, ← c.byte-in_default.ensures.0, ← c.byte-in_default-2.ensures.0) c.clock_set.ensures

pub returns-in_default-2 : goal.returns-in_default-2
returns-in_default-2 c =
    let a = c.args in
    built_none a.q.first a.q.second _ _ _ _
    (leaf_no_clock a.q.variables a.q.clocks a.b.now a.at a.end (λ e. omega arith) (λ e. omega arith) (sym c.if-has_clock.ensures)) refl
