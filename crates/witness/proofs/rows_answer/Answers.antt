use Rattle.witness.proofs.Laws.{scan_all, scan_next, scan_stops, scan_ends}
use Rattle.witness.proofs.rows_answer.Goals as goal

pub loop-i-init : goal.loop-i-init
loop-i-init g c = λ rows are. scan_all _ _ _

pub returns-then-not-in_place : goal.returns-then-not-in_place
returns-then-not-in_place g c = λ rows are.
    scan_stops _ _ _ _ _ _ (c.loop-i.invariant rows are) _ (are.given _ c.loop-i-test.true _ c.row-e.ensures) c.loop-i-test.true _ c.in_place.ensures c.if-not-in_place.true

pub loop-i-preserved : goal.loop-i-preserved
loop-i-preserved g c = λ rows are.
    scan_next _ _ _ _ _ _ (c.loop-i.invariant rows are) _ (are.given _ c.loop-i-test.true _ c.row-e.ensures) c.loop-i-test.true _ c.in_place.ensures c.if-not-in_place.false

pub returns : goal.returns
returns g c = λ rows are. scan_ends _ _ _ _ _ _ (c.loop-i.invariant rows are) c.loop-i-test.false
