use Rattle.std.proofs.Common.{refl, arith}
use Rattle.model.specs.Guard.{at_most, at_least}
use Rattle.guard.specs.Guards.{clock_leaf}
use Rattle.planes.proofs.Digits.{weight-some, values-some}
use Rattle.planes.proofs.Leaves.{most-is, least_is, built_is, leaf_most, leaf_least}
use Rattle.planes.proofs.clock_set.Goals as goal

pub returns-in-1 : goal.returns-in-1
returns-in-1 c =
    let a = c.args in
    let f = a.q.first in
    let s = a.q.second in
    let w = c.weight_of-w in
    let r = c.values_of-r in
    let is = c.at_most.ensures.2 c.requires.0 (omega (arith, c.requires.1)) (rw w.ensures (weight-some f s c.requires.2 a.clock)) (rw r.ensures (values-some f s c.requires.2 a.clock)) in
    built_is f s a.set.now c.at_most.new.a c.at_most.new.a (clock_leaf a.code a.clock a.t a.next) _ (at_most a.clock a.t) a.next
    (leaf_most a.code a.clock a.t a.next c.in-1.is) refl
    (most-is f s a.set.now c.at_most.new.a c.at_most.new.a a.clock a.t w.result r.result w.ensures r.ensures is)

pub returns-in-2 : goal.returns-in-2
returns-in-2 c =
    let a = c.args in
    let f = a.q.first in
    let s = a.q.second in
    let w = c.weight_of-w in
    let r = c.values_of-r in
    let is = c.at_most-in-2.ensures.2 c.requires.0 (omega (arith, c.requires.1)) (rw w.ensures (weight-some f s c.requires.2 a.clock)) (rw r.ensures (values-some f s c.requires.2 a.clock)) in
    built_is f s a.set.now c.complement.new.a c.complement.new.a (clock_leaf a.code a.clock a.t a.next) _ (at_least a.clock a.t) a.next
    (leaf_least a.code a.clock a.t a.next c.in-2.is) refl
    (least_is f s a.set.now c.at_most-in-2.new.a c.complement.new.a a.clock a.t w.result r.result w.ensures r.ensures is c.complement.ensures)
