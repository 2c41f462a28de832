use Prim.Native.Nat.{ℕ, ◌-◌}
use native.Mathlib.Omega.{arith}
use mathlib.Core.Path.{◌≡◌, ap}
use lib.ListN.{length, take}
use borrow.Author.Rules.{rules}
use Rattle.lines.proofs.Judged.{lines_short, lines_long, lines_judged}
use Rattle.lines.proofs.lines.Statement.{statement}
use Rattle.lines.proofs.lines.Tie as tie

refused-line-requires : tie.Need-refused_line-requires
refused-line-requires c κs = search rules

same_length : tie.Need-shape_of-text-then-input-lt4
same_length c = search rules

returns : tie.Need-returns-then-input-lt4
returns c =
    let a = c.before.before.before.before.before.before.before.before.before.args in
    lines_short a.input.now a.scratch.now a.room.now (omega arith) c.before.before.refused_line.ensures

refused-line-requires-2 : tie.Need-refused_line-requires-then-input-gt8192
refused-line-requires-2 c κs = search rules

same-length-2 : tie.Need-shape_of-text-then-input-gt8192
same-length-2 c = search rules

returns-2 : tie.Need-returns-then-input-gt8192
returns-2 c =
    let a = c.before.before.before.before.before.before.before.before.before.before.args in
    lines_long a.input.now a.scratch.now a.room.now (omega arith) c.before.before.refused_line-then-input-gt8192.ensures

sub-end : tie.Need-overflow_sub-end
sub-end c = search rules

sub-judge : tie.Need-slice_bounds-judge-count
sub-judge c = search rules

part-judge-start : tie.Need-slice_bounds-judge-start
part-judge-start c = search rules

part-judge-end : tie.Need-slice_bounds-judge-end
part-judge-end c = search rules

budget-requires : tie.Need-budget-requires
budget-requires c κs = search rules

judge-requires : tie.Need-judge-requires
judge-requires c κs = search rules

same-length-3 : tie.Need-shape_of-scratch
same-length-3 c = search rules

same-length-4 : tie.Need-shape_of-room
same-length-4 c = search rules

same-length-5 : tie.Need-shape_of-text
same-length-5 c = search rules

returns-3 : tie.Need-returns
returns-3 c =
    let a = c.before.before.before.before.before.before.before.before.before.before.before.before.before.before.before.before.before.before.args in
    let end : length a.input.now - 4 - 0 ≡ length a.input.now - 4 = omega arith in
    lines_judged a.input.now a.scratch.now a.room.now (omega arith) (omega arith)
    (ap (λ (k : ℕ). take k a.input.now) end) c.before.before.before.before.before.before.before.before.before.before.budget.ensures c.before.before.before.before.before.before.judge.ensures

pub lines_spec : {M : Type 1} → statement M
lines_spec =
    tie.close
    (tie.spec
    refused-line-requires
    same_length
    returns
    refused-line-requires-2
    same-length-2
    returns-2
    sub-end
    sub-judge
    part-judge-start
    part-judge-end
    budget-requires
    judge-requires
    same-length-3
    same-length-4
    same-length-5
    returns-3)
