use Rattle.std.proofs.Common.{arith, ◌∙◌}
use Rattle.witness.proofs.Encoded.{encode_none, encode_more, rows_short, rows_fit}
use Rattle.witness.proofs.write_rows.Goals as goal

pub returns-then-room-wanted : goal.returns-then-room-wanted
returns-then-room-wanted g c = λ rows are. rows_short _ _ _ _ _ (omega arith) c.if-room-wanted.true

pub loop-i-init : goal.loop-i-init
loop-i-init g c = λ rows are. c.put_frame.ensures ∙ encode_none _ _ _ _ (omega arith)

pub loop-i-preserved : goal.loop-i-preserved
loop-i-preserved g c = λ rows are.
    let here = are.given _ c.loop-i-test.true _ c.row.ensures in
    encode_more _ _ _ _ (omega arith) _ c.rows_place-start.ensures.0 c.loop-i.i c.loop-i-test.true _ _ _ _ (c.loop-i.invariant rows are) c.row_bytes.ensures here c.place.ensures

pub returns : goal.returns
returns g c = λ rows are. rows_fit _ _ _ _ _ (omega arith) c.if-room-wanted.false _ c.loop-i.i (omega arith) (c.loop-i.invariant rows are)
