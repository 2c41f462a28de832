use Rattle.std.proofs.Common.{replicate, sym, arith}
use Rattle.std.proofs.lemmas.Result.{err_from_is_err_and}
use Rattle.model.specs.Table.{table_bytes, table_limit}
use Rattle.model.proofs.AnswerLaws.{table_writes}
use Rattle.frame.proofs.Written.{taken}
use Rattle.tables.proofs.Encoded.{write-version, write-early, write-late}
use Rattle.tables.proofs.write_table.Goals as goal

pub returns-then-not-is_version : goal.returns-then-not-is_version
returns-then-not-is_version c =
    let a = c.args in
    let r = table_writes a.t (omega arith) a.room.now _ _ (write-version a.t a.room.now (omega arith) (omega arith) (sym c.if-not-is_version.ensures)) in
    record { writes = r.0; judges_devices = r.1 }

pub returns-in_err-counts_answer : goal.returns-in_err-counts_answer
returns-in_err-counts_answer c =
    let a = c.args in
    let p = err_from_is_err_and c.from_residual.result c.from_residual.ensures.1 in
    let r = table_writes a.t (omega arith) a.room.now _ _ (write-early a.t a.room.now (omega arith) (omega arith) (sym c.if-not-is_version.ensures) _ (sym c.in_err-counts_answer.ensures)) in
    rw (p.1, p.2) (record { writes = r.0; judges_devices = r.1 })

pub writable-requires : goal.writable-requires
writable-requires c = taken (table_bytes c.args.t) (replicate table_limit 0) _ c.encode-end.result c.encode-end.ensures.0 (sym c.encode-end.ensures.1)

pub returns : goal.returns
returns c =
    let a = c.args in
    let bytes = taken (table_bytes a.t) (replicate table_limit 0) _ c.encode-end.result c.encode-end.ensures.0 (sym c.encode-end.ensures.1) in
    let r = table_writes a.t (omega arith) a.room.now _ _ (write-late a.t a.room.now _ _ bytes c.writable.ensures _ _ c.put.ensures) in
    record { writes = r.0; judges_devices = r.1 }
