use Rattle.std.proofs.Common.{sym, ◌∙◌, arith}
use Rattle.model.specs.Limits.{guard_limit}
use Rattle.model.specs.Guard.{guard_at}
use Rattle.guard.proofs.Guards.{small_bounds, none_answers, one_yes, one_not_yet, one_no_more, evaluated}
use Rattle.guard.proofs.guard_answer.Goals as goal

pub returns-in-Some : goal.returns-in-Some
returns-in-Some c = let a = c.args in
    let x = guard_at guard_limit a.variables a.clocks a.b.now a.at a.end in
    evaluated (one_yes 0 a.mask a.c.now x c.in-Some.all (sym c.guard_seen.ensures ∙ c.in-Some.is) c.if-all.true)

pub returns-in-Some-2 : goal.returns-in-Some-2
returns-in-Some-2 c = let a = c.args in
    let x = guard_at guard_limit a.variables a.clocks a.b.now a.at a.end in
    evaluated (one_not_yet 0 a.mask a.c.now x c.in-Some.all (sym c.guard_seen.ensures ∙ c.in-Some.is) c.if-all.false (sym c.if-not-is_none.ensures))

pub returns-in_default : goal.returns-in_default
returns-in_default c = let a = c.args in
    let x = guard_at guard_limit a.variables a.clocks a.b.now a.at a.end in
    let small = small_bounds a.variables a.clocks a.b.now a.end (λ i. omega (arith, c.type_inv.b i)) guard_limit a.at in
    evaluated (one_no_more 0 a.mask a.c.now x c.in-Some.all (sym c.guard_seen.ensures ∙ c.in-Some.is) small c.if-all.false (sym c.if-not-is_none.ensures))

pub returns-in_default-2 : goal.returns-in_default-2
returns-in_default-2 c = let a = c.args in
    let x = guard_at guard_limit a.variables a.clocks a.b.now a.at a.end in
    evaluated (none_answers 0 a.mask a.c.now x (sym c.guard_seen.ensures ∙ c.in_default.is))
