use Rattle.std.proofs.Common.{ap, sym, ◌∙◌}
use Rattle.std.proofs.lemmas.Result.{err_from_is_err_and}
use Rattle.model.specs.Validation.{ruled}
use Rattle.engine.proofs.ValidateLaws.{validates_under}
use Rattle.engine.proofs.validate_under.Goals as goal

pub returns-in_err-verdict : goal.returns-in_err-verdict
returns-in_err-verdict c =
    let a = c.args in
    let p = err_from_is_err_and c.from_residual.result c.from_residual.ensures.1 in
    validates_under a.rule a.edition a.table.now a.recording.now a.budget a.scratch.now a.room.now _ _ _ c.judged.ensures _
    (rw (p.1, p.2) (sym (ap ruled c.in_err-verdict.was)))

pub returns : goal.returns
returns c =
    let a = c.args in
    validates_under a.rule a.edition a.table.now a.recording.now a.budget a.scratch.now a.room.now _ _ _ c.judged.ensures _
    (rw c.into.ensures (sym (ap ruled c.in_ok-verdict.was)))
