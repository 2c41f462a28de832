use Rattle.std.proofs.Common.{arith, ◌≡◌}
use Rattle.std.proofs.lemmas.Result.{err_from_is_err_and}
use Rattle.model.specs.declared.Refusal.{Refusal}
use Rattle.model.specs.declared.Refusal.TheVariants.{WitnessRow}
use Rattle.account.proofs.Pass.{ahead_broken, ahead_more, ahead_left, ahead_done}
use Rattle.account.proofs.check_rows.Goals as goal

pub returns-in_err-s : goal.returns-in_err-s
returns-in_err-s c =
    let p = err_from_is_err_and c.from_residual.result c.from_residual.ensures.1 in
    let why : ◌≡◌ {A = Refusal} c.in_err-s.field-0.0 (WitnessRow c.loop-i.i) = grind arith in
    rw (p.1, p.2, why) (ahead_broken _ _ _ _ _ _ _ c.loop-i.invariant.1 _ _ (omega arith) c.row_at-e.ensures c.accounted.ensures (grind arith))

pub loop-i-preserved : goal.loop-i-preserved
loop-i-preserved c =
    ahead_more _ _ _ _ _ _ _ c.loop-i.invariant.1 _ _ (omega arith) c.row_at-e.ensures c.accounted.ensures _ _ (grind arith) (grind arith) (grind arith)

pub returns-then-s-word : goal.returns-then-s-word
returns-then-s-word c =
    ahead_left _ _ _ _ _ _ _ c.loop-i.invariant.1 _ (omega arith) (omega arith) (omega arith)

pub returns : goal.returns
returns c =
    ahead_done _ _ _ _ _ _ _ c.loop-i.invariant.1 _ (omega arith) (omega arith) (omega arith)
