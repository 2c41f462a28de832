use Rattle.std.proofs.Common.{◌≤◌, ◌<◌, arith}
use borrow.Author.Tests.{le-leb, lt-leb}
use Rattle.model.specs.Edition.{most_rows}
use Rattle.model.specs.declared.Edition.TheVariants.{One}
use Rattle.model.specs.Desk.{accepted_word, row_lines, verdict_lines}
use Rattle.text.proofs.Stores.{wrote_none, wrote-more}
use Rattle.text.proofs.Digits.{line-length}
use Rattle.text.proofs.judged_lines.Goals as goal

pub returns-then-rows-most_rows : goal.returns-then-rows-most_rows
unfolding verdict_lines row_lines
returns-then-rows-most_rows c =
    let h = c.in-Accepted in
    let many : most_rows One < h.rows = omega arith in
    rw (h.is, lt-leb _ _ many) (wrote-more c.line-next.ensures (wrote_none c.line-next.new.text c.line-next.result))

pub row_lines-requires : goal.row_lines-requires
row_lines-requires c = (omega arith, omega (arith, line-length accepted_word c.in-Accepted.cost c.in-Accepted.rows))

pub returns-else-rows-most_rows : goal.returns-else-rows-most_rows
unfolding verdict_lines
returns-else-rows-most_rows c =
    let h = c.in-Accepted in
    let few : h.rows ≤ most_rows One = omega arith in
    rw (h.is, le-leb _ _ few) (wrote-more c.line-next.ensures c.row_lines.ensures)
