use Rattle.std.proofs.Common.{get_or, arith, sym}
use Rattle.std.proofs.lemmas.Result.{err_from_is_err_and}
use Rattle.model.specs.Kinds.{version_at, kind_at, kind_record}
use Rattle.model.specs.Table.{kind_records, kinds_at}
use Rattle.model.proofs.Tests.{first_passed, first-refused}
use Rattle.scan.proofs.kind_records.Goals as goal

pub returns-in_err-kind_record : goal.returns-in_err-kind_record
unfolding kind_records
returns-in_err-kind_record c =
    let p = err_from_is_err_and c.from_residual.result c.from_residual.ensures.1 in
    rw (p.1, p.2)
    (sym (first-refused (λ k. kind_record c.args.b.now (kind_at (version_at c.args.b.now) k) (get_or c.args.devices.now k 0)) (kinds_at c.args.b.now) c.loop-i.i _ (omega arith) c.loop-i.invariant
    (rw (← c.record_at.ensures, ← c.byte.ensures.0) (sym c.in_err-kind_record.ensures))))

pub returns : goal.returns
unfolding kind_records
returns c = sym (first_passed (λ k. kind_record c.args.b.now (kind_at (version_at c.args.b.now) k) (get_or c.args.devices.now k 0)) (kinds_at c.args.b.now) (λ k h. c.loop-i.invariant k (omega arith)))
