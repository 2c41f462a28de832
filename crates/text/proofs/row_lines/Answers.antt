use Rattle.std.proofs.Common.{arith, add-one}
use Rattle.text.proofs.Rows.{lines_none, lines_tab, row-length}
use Rattle.text.proofs.Stores.{wrote_none, wrote-more}
use Rattle.text.proofs.row_lines.Goals as goal

pub loop-i-init : goal.loop-i-init
loop-i-init c = (rw lines_none (wrote_none c.args.text.now c.args.at), omega arith)

pub loop-i-preserved : goal.loop-i-preserved
loop-i-preserved c = (
  rw (add-one, lines_tab, ← c.row_at.ensures) (wrote-more c.loop-i.invariant.0 c.row_line-next.ensures),
  omega (arith, row-length),
)
