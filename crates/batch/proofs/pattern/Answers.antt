use Rattle.std.proofs.Common.{arith, ◌∙◌, ap, refl, set, drop, ◌++◌}
use Rattle.model.specs.Bytes.{tab}
use Rattle.columns.proofs.Columns.{column_more}
use Rattle.batch.specs.Batch.{pattern_at}
use Rattle.batch.proofs.pattern.Goals as goal

pub loop-byte-init : goal.loop-byte-init
unfolding tab
loop-byte-init c = (refl, refl)

pub loop-byte-preserved : goal.loop-byte-preserved
unfolding pattern_at
loop-byte-preserved c =
    let l = c.loop-byte in (
      omega (arith, l.invariant.0),
      ap (λ s. set s l.byte-index l.next) l.invariant.1
          ∙ ap (λ n. set (tab pattern_at l.byte-index ++ drop l.byte-index c.args.bytes.now) l.byte-index n) l.invariant.0
          ∙ column_more pattern_at c.args.bytes.now l.byte-index c.loop-byte-test.true,
    )
