use Rattle.std.proofs.Common.{ℕ, ◌<◌, arith, rules}
use Rattle.std.proofs.lemmas.Result.{err_from_is_err_and}
use Rattle.model.specs.Bytes.{byte_at}
use Rattle.model.specs.Witness.{row_in}
use Rattle.witnesses.proofs.Writing.{too_many, rows_refused, rows_written}
use Rattle.witnesses.proofs.write_witness.Goals as goal

pub returns-then-most_rows-count : goal.returns-then-most_rows-count
returns-then-most_rows-count c = too_many _ _ _ (omega arith) _ c.count_place.ensures.0

pub returns-in_err-rows_answer : goal.returns-in_err-rows_answer
returns-in_err-rows_answer c =
    let a = c.args in
    let times : (i : ℕ) → byte_at a.w.times i < 65536 = λ i. search rules in
    let rows = c.rows_answer.ensures (row_in a.w) (record { given = λ i h e p. search rules }) in
    let p = err_from_is_err_and c.from_residual.result c.from_residual.ensures.1 in
    rw (p.1, p.2) (rows_refused a.edition a.w a.room.now (omega arith) times _ rows _ c.in_err-rows_answer.was)

pub returns : goal.returns
returns c =
    let a = c.args in
    let times : (i : ℕ) → byte_at a.w.times i < 65536 = λ i. search rules in
    let rows = c.rows_answer.ensures (row_in a.w) (record { given = λ i h e p. search rules }) in
    rows_written a.edition a.w a.room.now (omega arith) times _ rows c.in_ok-rows_answer.was _ _ (c.write_rows.ensures (row_in a.w) (record { given = λ i h e p. search rules }))
