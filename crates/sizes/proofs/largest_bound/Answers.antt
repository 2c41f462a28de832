use Rattle.std.proofs.Common.{◌≡◌, max, refl, sym, ap, ◌∙◌, arith, rules}
use Rattle.model.specs.Bytes.{tab}
use Rattle.model.specs.Guard.{largest}
use Rattle.model.specs.Size.{largest_in}
use Rattle.model.specs.Table.{guard_in, transition_in, monitor_of}
use Rattle.sizes.proofs.Sizes.{bound_more}
use Rattle.sizes.proofs.largest_bound.Goals as goal

pub loop-j-init : goal.loop-j-init
unfolding tab largest_in
loop-j-init c = (omega arith, refl)

pub loop-j-preserved : goal.loop-j-preserved
unfolding guard_in
loop-j-preserved c =
    let a = c.args in
    let one : c.guard_bound-bound.result ≡ largest a.clock (guard_in a.t c.loop-j.j) = c.guard_bound-bound.ensures ∙ rw c.byte.ensures.0 in
    let larger : c.max-most.result ≡ max c.loop-j.most c.guard_bound-bound.result = search rules in
    (omega arith, larger ∙ rw (c.loop-j.invariant.1, one) (sym (bound_more a.clock a.t c.loop-j.j)))

pub returns : goal.returns
unfolding monitor_of
returns c =
    let a = c.args in
    let all : c.loop-j.j ≡ a.t.transitions = omega arith in
    (c.from.ensures ∙ c.loop-j.invariant.1 ∙ ap (λ k. largest_in a.clock (tab (transition_in a.t) k)) all, omega arith)
