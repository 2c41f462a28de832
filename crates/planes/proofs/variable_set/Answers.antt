use Rattle.std.proofs.Common.{arith}
use Rattle.planes.proofs.Digits.{variable-some}
use Rattle.planes.proofs.Edits.{same_words}
use Rattle.planes.proofs.Leaves.{variable-is, variable_none}
use Rattle.planes.proofs.variable_set.Goals as goal

pub returns-then-x-lt16 : goal.returns-then-x-lt16
returns-then-x-lt16 c =
    let a = c.args in
    let f = a.q.first in
    let s = a.q.second in
    let w = c.variable_weight in
    let is = c.at_most.ensures.2 c.requires.0 (omega (arith, c.requires.1)) (rw w.ensures (variable-some f s a.x 0 c.requires.2)) (omega arith) in
    variable-is f s a.set.now c.at_most.new.a c.complement.new.a a.x w.result w.ensures is c.complement.ensures

pub returns-else-x-lt16 : goal.returns-else-x-lt16
returns-else-x-lt16 c =
    let a = c.args in
    let filled = same_words a.set.now c.fill.new.self 0 (c.fill.ensures.after (λ y h. h)) in
    variable_none a.q.first a.q.second a.set.now c.fill.new.self c.fill.new.self a.x c.requires.2 c.if-x-lt16.false c.requires.1 filled
