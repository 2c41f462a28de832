use Rattle.std.proofs.Common.{ℕ, ◌+◌, ◌*◌, ◌%◌, ◌≡◌, ap, ◌∙◌, arith}
use native.Mathlib.Nat.{add-mod_left}
use Rattle.strides.proofs.Digits.{period_first, period_none, period_more}
use Rattle.strides.proofs.repeat.Goals as goal

pub loop-e-init : goal.loop-e-init
loop-e-init c = (c.requires.2, (λ x. add-mod_left c.args.period x), period_first c.args.a.now c.args.period c.requires.3)

pub grow-requires : goal.grow-requires
grow-requires c =
    let same = c.loop-e.invariant in
    (omega arith, period_none c.args.a.now c.loop-e.a c.loop-e.a c.args.period c.loop-e.e same.1 same.2)

pub loop-e-preserved : goal.loop-e-preserved
loop-e-preserved c =
    let same = c.loop-e.invariant in
    let e = c.loop-e.e in
    let twice : (x : ℕ) → 2 * e + x ≡ e + (e + x) = λ x. omega arith in (
      omega arith,
      (λ x. ap (λ (n : ℕ). n % c.args.period) (twice x) ∙ same.1 (e + x) ∙ same.1 x),
      period_more c.args.a.now c.loop-e.a c.grow.new.a c.args.period e same.1 same.2 c.grow.ensures,
    )
