use Rattle.std.proofs.Common.{refl, arith, rules}
use Rattle.planes.proofs.Edits.{changed_none, word_common}
use Rattle.planes.proofs.keep_common.Goals as goal

pub loop-k-init : goal.loop-k-init
loop-k-init c = changed_none _ c.args.stack.now

pub loop-k-preserved : goal.loop-k-preserved
loop-k-preserved c =
    let k = c.loop-k.k in
    word_common c.args.stack.now c.loop-k.stack c.args.n k _ _ (omega (arith, c.loop-k.invariant.size)) c.loop-k.invariant refl (search rules) refl (search rules)

pub returns : goal.returns
returns c = λ i l. c.loop-k.invariant.done.all i (omega arith)
