use Rattle.std.proofs.Common.{rules}
use Rattle.layers.proofs.Moves.{taken, heard_row, no_row}
use Rattle.layers.proofs.least_into.Goals as goal

pub returns-then-s-gt0 : goal.returns-then-s-gt0
returns-then-s-gt0 c =
    let a = c.args in
    taken a.table.now a.offsets.now a.h a.heard a.scratch.now a.to.start a.to.size a.n
    c.situation_of-s.result c.situation_of-s.ensures c.if-s-gt0.true c.rest.result (search rules)

pub returns-in-Some : goal.returns-in-Some
returns-in-Some c =
    let a = c.args in
    heard_row a.table.now a.offsets.now a.h a.heard a.scratch.now a.to.start a.to.size a.n
    c.situation_of-s.result c.situation_of-s.ensures c.in-Some.field-0 (search rules) c.sent.result c.or_else.result (search rules) (search rules)

pub returns-in-None : goal.returns-in-None
returns-in-None c =
    let a = c.args in
    no_row a.table.now a.offsets.now a.h a.heard a.scratch.now a.to.start a.to.size a.n
    c.situation_of-s.result c.situation_of-s.ensures (search rules) c.rest-in-None.result c.or_else-in-None.result (search rules) (search rules)
