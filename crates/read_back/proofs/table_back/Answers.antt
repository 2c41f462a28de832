use Rattle.std.proofs.Common.{arith, refl}
use Rattle.std.proofs.lemmas.Result.{err_from_is_err_and}
use Rattle.model.specs.Table.{read_table}
use Rattle.read_back.proofs.Kept.{table_kept, read_back, not_written}
use Rattle.read_back.proofs.table_back.Goals as goal

pub returns-in_err-n : goal.returns-in_err-n
returns-in_err-n c =
    let p = err_from_is_err_and c.from_residual.result c.from_residual.ensures.1 in
    rw (p.1, p.2) (not_written _ _ _ c.write_table.ensures.writes read_table _ _ _ c.in_err-n.was refl)

pub returns : goal.returns
returns c = read_back _ _ _ c.write_table.ensures.writes read_table _ _ _ c.in_ok-n.was c.read_table.ensures.value (table_kept c.args.t c.args.room.now _ (omega arith) _)
