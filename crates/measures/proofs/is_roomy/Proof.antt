-- `measures::is_roomy` meets its contract: each test is a field.
use native.Mathlib.Omega.{arith}
use mathlib.Core.Bool.{false≢true}
use borrow.Author.Rules.{rules}
use borrow.Author.Tests.{leb-true, le-leb}
use Rattle.measures.proofs.Rows.{product}
use Rattle.measures.proofs.is_roomy.Statement.{statement}
use Rattle.measures.proofs.is_roomy.Tie as tie

returns : tie.Need-returns-then-g-gt65535
returns c = (λ e. absurd (false≢true e), λ roomy. absurd (omega (arith, roomy.early, c.if-g-gt65535.true)))

returns-2 : tie.Need-returns-then-g-gt8192
returns-2 c = (λ e. absurd (false≢true e), λ roomy. absurd (omega (arith, roomy.narrow, c.if-g-gt8192.true)))

add-result : tie.Need-overflow_add-result
add-result c = search rules

mul-result : tie.Need-overflow_mul-result
mul-result c = product _ _ (omega (arith, c.before.before.if-g-gt8192.false)) (omega (arith, c.before.before.before.before.if-g-gt65535.false))

returns-3 : tie.Need-returns
returns-3 c =
    let narrow = c.before.before in
    (λ e. record { early = omega (arith, narrow.before.before.if-g-gt65535.false); narrow = omega (arith, narrow.if-g-gt8192.false); long = leb-true _ _ e }, λ roomy. le-leb _ _ roomy.long)

pub is_roomy_spec : {M : Type 1} → statement M
is_roomy_spec = tie.close (tie.spec returns returns-2 add-result mul-result returns-3)
