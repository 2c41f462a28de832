use Rattle.std.proofs.Common.{sym, arith, rules}
use Rattle.std.proofs.lemmas.Result.{err_from_is_err_and}
use Rattle.model.specs.Witness.{row_at}
use Rattle.rewrite.proofs.Again.{witness_refused, witness_rewritten}
use Rattle.rewrite.proofs.rewrite_witness.Goals as goal

pub returns-in_err-witness_answer : goal.returns-in_err-witness_answer
returns-in_err-witness_answer c =
    let p = err_from_is_err_and c.from_residual.result c.from_residual.ensures.1 in
    rw (p.1, p.2) (witness_refused c.args.edition c.args.b.now c.args.room.now (λ i. omega (arith, c.type_inv.b i)) _ (sym c.in_err-witness_answer.ensures))

pub returns : goal.returns
returns c =
    witness_rewritten c.args.edition c.args.b.now c.args.room.now (λ i. omega (arith, c.type_inv.b i)) (sym c.in_ok-witness_answer.ensures) _ _
    (rw (← c.count_at.ensures.0) (c.write_rows.ensures (row_at c.args.edition c.args.b.now) (record { given = λ i h e p. search rules })))
