use native.Mathlib.Omega.{arith}
use mathlib.Core.Bool.{false≢true}
use borrow.Author.Tests.{ltb-true, lt-ltb}
use borrow.Author.Rules.{rules}
use Rattle.images.proofs.sets.is_sized.Statement.{statement}
use Rattle.images.proofs.sets.is_sized.Tie as tie

returns : tie.Need-returns-then-n-gt1024
returns c = (λ e. absurd (false≢true e), λ l. absurd (omega arith))

returns-2 : tie.Need-returns-then-size-gt65536
returns-2 c = (λ e. absurd (false≢true e), λ l. absurd (omega arith))

mul-if3 : tie.Need-overflow_mul-n
mul-if3 c = search rules

returns-3 : tie.Need-returns-then-marks-n
returns-3 c = (λ e. absurd (false≢true e), λ l. absurd (omega arith))

mul-if4 : tie.Need-overflow_mul-n-2
mul-if4 c = search rules

returns-4 : tie.Need-returns-then-four-n
returns-4 c = (λ e. absurd (false≢true e), λ l. absurd (c.if-four-n.true l.sets))

returns-5 : tie.Need-returns-then-one-n
returns-5 c = (λ e. absurd (false≢true e), λ l. absurd (c.if-one-n.true l.single))

returns-6 : tie.Need-returns-then-two-n
returns-6 c = (λ e. absurd (false≢true e), λ l. absurd (c.if-two-n.true l.spare))

returns-7 : tie.Need-returns-then-h-eq0
returns-7 c = (λ e. absurd (false≢true e), λ l. absurd (omega arith))

returns-8 : tie.Need-returns
returns-8 c =
    let h = c.before.before.before.before.before.before.before.before.before.args.h in
    (λ e. record { few = omega arith; narrow = omega arith; marked = omega arith; sets = omega arith; single = omega arith; spare = omega arith; first = omega arith; second = ltb-true 0 h.second e }, λ l. lt-ltb 0 h.second l.second)

pub is_sized_spec : {M : Type 1} → statement M
is_sized_spec =
    tie.close
    (tie.spec
    returns
    returns-2
    mul-if3
    returns-3
    mul-if4
    returns-4
    returns-5
    returns-6
    returns-7
    returns-8)
