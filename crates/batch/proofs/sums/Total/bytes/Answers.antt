use Rattle.std.proofs.Common.{◌≡◌, ◌+◌, ◌∙◌, ap, drop, [], sym}
use Rattle.std.proofs.lemmas.List.{drop_all}
use Rattle.batch.specs.Batch.{sum_from}
use Rattle.batch.proofs.Summing.{sum_more}
use Rattle.batch.proofs.sums.Total.bytes.Goals as goal

pub loop-b-preserved : goal.loop-b-preserved
loop-b-preserved c =
    ap (λ n. sum_from n (drop (c.loop-b.b-index + 1) c.args.bytes.now)) c.from-total.ensures
    ∙ sum_more c.loop-b.total.value c.args.bytes.now c.loop-b.b-index c.loop-b-test.true
    ∙ c.loop-b.invariant

pub returns : goal.returns
unfolding sum_from
returns c =
    let done : drop c.loop-b.b-index c.args.bytes.now ≡ [] = drop_all c.loop-b.b-index c.args.bytes.now c.loop-b-test.false in
    sym (ap (sum_from c.loop-b.total.value) done) ∙ c.loop-b.invariant
