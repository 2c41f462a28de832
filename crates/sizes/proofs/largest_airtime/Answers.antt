use Rattle.std.proofs.Common.{◌≡◌, get_or, max, refl, sym, ap, ◌∙◌, arith, rules}
use Rattle.model.specs.Bytes.{tab}
use Rattle.model.specs.Size.{greatest}
use Rattle.model.specs.Table.{monitor_of}
use Rattle.sizes.proofs.Sizes.{airtime-more}
use Rattle.sizes.proofs.largest_airtime.Goals as goal

pub loop-i-init : goal.loop-i-init
unfolding tab greatest
loop-i-init c = (omega arith, refl)

pub loop-i-preserved : goal.loop-i-preserved
loop-i-preserved c =
    let more = airtime-more (λ k. get_or c.args.t.airtimes k 0) c.loop-i.i in
    let larger : c.max-most.result ≡ max c.loop-i.most c.byte.result = search rules in
    (omega arith, larger ∙ rw (c.loop-i.invariant.1, c.byte.ensures.0) (sym more))

pub returns : goal.returns
unfolding monitor_of
returns c =
    let all : c.loop-i.i ≡ c.args.t.kinds = omega arith in
    (c.from.ensures ∙ c.loop-i.invariant.1 ∙ ap (λ n. greatest (tab (λ k. get_or c.args.t.airtimes k 0) n)) all, omega arith)
