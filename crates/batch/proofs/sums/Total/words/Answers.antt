use Rattle.std.proofs.Common.{◌≡◌, ◌∙◌, ap, drop, [], List, sym}
use Rattle.std.proofs.lemmas.List.{drop_all}
use Rattle.batch.specs.Batch.{sum_from}
use Rattle.batch.specs.Parts.{words_bytes}
use Rattle.batch.proofs.Summing.{words_more}
use Rattle.batch.proofs.sums.Total.words.Goals as goal

pub loop-w-preserved : goal.loop-w-preserved
loop-w-preserved c =
    words_more c.loop-w.total.value c.word-total.result.value c.args.words.now c.loop-w.w-index c.loop-w-test.true c.word-total.ensures
    ∙ c.loop-w.invariant

pub returns : goal.returns
unfolding sum_from words_bytes
returns c =
    let done : drop c.loop-w.w-index c.args.words.now ≡ [] = drop_all c.loop-w.w-index c.args.words.now c.loop-w-test.false in
    sym (ap (λ (l : List _). sum_from c.loop-w.total.value (words_bytes l)) done) ∙ c.loop-w.invariant
