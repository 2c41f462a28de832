use Rattle.std.proofs.Common.{arith}
use Rattle.std.proofs.lemmas.Result.{err_from_is_err_and}
use Rattle.model.specs.Table.{table_answer, table_parts, read_table, write_table}
use Rattle.rewrite.specs.Rewriting.{rewrite_table}
use Rattle.rewrite.proofs.Again.{table_same, read-refused, read-rewritten}
use Rattle.rewrite.proofs.rewrite_table.Goals as goal

pub returns-in_err-parts : goal.returns-in_err-parts
unfolding rewrite_table read_table
returns-in_err-parts c =
    let b = c.args.b.now in
    let room = c.args.room.now in
    let same = table_same b room (λ i. omega (arith, c.type_inv.b i)) in
    let p = err_from_is_err_and c.from_residual.result c.from_residual.ensures.1 in
    rw (p.1, p.2) (read-refused (table_answer b) (table_parts b) b room (λ t. write_table t room) same _ c.in_err-parts.ensures.value)

pub returns : goal.returns
unfolding rewrite_table read_table
returns c =
    let b = c.args.b.now in
    let room = c.args.room.now in
    let same = table_same b room (λ i. omega (arith, c.type_inv.b i)) in
    read-rewritten (table_answer b) (table_parts b) b room (λ t. write_table t room) same _ c.in_ok-parts.ensures.value _ _ c.write_table.ensures.writes
