-- `forward::emptied` meets its contract: the product fits, and the rest is one law.
use native.Mathlib.Omega.{arith}
use borrow.Author.Rules.{rules}
use Rattle.measures.proofs.Rows.{product}
use Rattle.forward.proofs.EmptiedPairs.{emptied_pairs}
use Rattle.forward.proofs.emptied.Statement.{statement}
use Rattle.forward.proofs.emptied.Tie as tie

add-next : tie.Need-overflow_add-next
add-next c = search rules

heard-at-requires : tie.Need-heard_at-heard-requires
heard-at-requires c κs = search rules

mul-t15 : tie.Need-overflow_mul-before
mul-t15 c = search rules

mul-t16 : tie.Need-overflow_mul-before-2
mul-t16 c = product _ _ (omega arith) (omega arith)

count-pairs-requires : tie.Need-count_pairs-pairs-requires
count-pairs-requires c κs = search rules

returns : tie.Need-returns
returns c =
    let heard = c.before.before in
    let args = heard.before.before.before.before.before.before.args in
    λ given. emptied_pairs given (heard.heard_at-heard.result) heard.heard_at-heard.ensures args.cost c.count_pairs-pairs.result c.count_pairs-pairs.ensures

pub emptied_spec : {M : Type 1} → statement M
emptied_spec =
    tie.close (tie.spec add-next heard-at-requires mul-t15 mul-t16 count-pairs-requires returns)
