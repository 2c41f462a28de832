-- Each refusal in its turn, and then the judgement.
use Rattle.std.proofs.Common.{arith, ◌≡◌, ◌+◌, ◌*◌, ◌≤◌, sym, ◌∙◌, length, Ok, Err}
use Rattle.std.proofs.lemmas.Result.{err_from_is_err_and}
use Rattle.measures.proofs.Rows.{product}
use Rattle.engine.proofs.ValidateLaws.{read_ok, read_err, unread, row-few, refused, lent_by, judging, judged_part}
use Rattle.engine.proofs.judged.Goals as goal

pub returns-in_err-parts : goal.returns-in_err-parts
returns-in_err-parts c =
    let p = err_from_is_err_and c.from_residual.result c.from_residual.ensures.1 in
    rw (p.1, p.2) (unread _ _ _ _ _ _ _ _ (read_err _ _ _ (sym c.read_under.ensures ∙ c.in_err-parts.was)))

pub overflow_mul-scratch_wanted : goal.overflow_mul-scratch_wanted
overflow_mul-scratch_wanted c =
    let a = c.args in
    let (sound, parts) = read_ok _ _ _ (sym c.read_under.ensures ∙ c.in_ok-parts.was) in
    product _ _ (row-few a.rule a.table.now a.recording.now sound _ parts _ c.measure-g.ensures) (omega (arith, c.measure-g.ensures.short))

pub returns-in_err-lent_answer : goal.returns-in_err-lent_answer
returns-in_err-lent_answer c =
    let a = c.args in
    let p = err_from_is_err_and c.from_residual-in_err-lent_answer.result c.from_residual-in_err-lent_answer.ensures.1 in
    let (sound, parts) = read_ok _ _ _ (sym c.read_under.ensures ∙ c.in_ok-parts.was) in
    let lent = lent_by a.rule a.table.now a.recording.now sound _ parts _ c.measure-g.ensures a.edition a.scratch.now a.room.now _ _ c.rows_place.ensures.0 c.word.ensures.0 _ c.lent_answer.ensures in
    rw (p.1, p.2) (refused _ _ _ _ _ _ _ _ (lent.0 ∙ c.in_err-lent_answer.was))

pub slice_bounds-part-end : goal.slice_bounds-part-end
slice_bounds-part-end c =
    let a = c.args in
    let (sound, parts) = read_ok _ _ _ (sym c.read_under.ensures ∙ c.in_ok-parts.was) in
    let lent = lent_by a.rule a.table.now a.recording.now sound _ parts _ c.measure-g.ensures a.edition a.scratch.now a.room.now _ _ c.rows_place.ensures.0 c.word.ensures.0 _ c.lent_answer.ensures in
    omega (arith, (lent.1 c.in_ok-lent_answer.was).0)

pub judge-requires : goal.judge-requires
judge-requires c =
    let a = c.args in
    let (sound, parts) = read_ok _ _ _ (sym c.read_under.ensures ∙ c.in_ok-parts.was) in
    let lent = lent_by a.rule a.table.now a.recording.now sound _ parts _ c.measure-g.ensures a.edition a.scratch.now a.room.now _ _ c.rows_place.ensures.0 c.word.ensures.0 _ c.lent_answer.ensures in
    let (fits, _, roomy) = lent.1 c.in_ok-lent_answer.was in
    judging a.rule a.table.now a.recording.now sound _ parts _ c.measure-g.ensures _ _ _ _ _ c.rows_place.ensures.0 c.word.ensures.0 fits roomy

pub returns : goal.returns
returns c =
    let a = c.args in
    let (sound, parts) = read_ok _ _ _ (sym c.read_under.ensures ∙ c.in_ok-parts.was) in
    let lent = lent_by a.rule a.table.now a.recording.now sound _ parts _ c.measure-g.ensures a.edition a.scratch.now a.room.now _ _ c.rows_place.ensures.0 c.word.ensures.0 _ c.lent_answer.ensures in
    let (fits, early, _) = lent.1 c.in_ok-lent_answer.was in
    judged_part a.rule a.table.now a.recording.now sound _ parts _ c.measure-g.ensures _ _ _ _ (lent.0 ∙ c.in_ok-lent_answer.was) fits early _ _ _ c.judge.ensures
