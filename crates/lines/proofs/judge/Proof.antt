use Prim.Native.Nat.{ℕ, ◌-◌}
use native.Mathlib.Omega.{arith}
use mathlib.Core.Path.{◌≡◌, ap, ◌∙◌}
use lib.ListN.{length, take, drop, length-drop}
use lib.Seq.{take_all}
use borrow.Author.Rules.{rules}
use Rattle.model.specs.Desk.{table_length}
use Rattle.lines.proofs.Judged.{judging}
use Rattle.lines.proofs.judge.Statement.{statement}
use Rattle.lines.proofs.judge.Tie as tie

table-length-requires : tie.Need-table_length-split-requires
table-length-requires c κs = search rules

sub-validate : tie.Need-slice_bounds-validate-count
sub-validate c = search rules

part-validate-start : tie.Need-slice_bounds-validate-start
part-validate-start c = search rules

part-validate-end : tie.Need-slice_bounds-validate-end
part-validate-end c = search rules

sub-validate-2 : tie.Need-slice_bounds-validate-count-2
sub-validate-2 c = search rules

part-validate-start-2 : tie.Need-slice_bounds-validate-start-2
part-validate-start-2 c = search rules

part-validate-end-2 : tie.Need-slice_bounds-validate-end-2
part-validate-end-2 c = search rules

validate-requires : tie.Need-validate-verdict-requires
validate-requires c κs = search rules

verdict-lines-requires : tie.Need-verdict_lines-requires
verdict-lines-requires c κs = search rules

same_length : tie.Need-shape_of-scratch
same_length c = search rules

same-length-2 : tie.Need-shape_of-room
same-length-2 c = search rules

same-length-3 : tie.Need-shape_of-text
same-length-3 c = search rules

returns : tie.Need-returns
returns c =
    let a = c.before.before.before.before.before.before.before.before.before.before.before.before.before.before.before.before.before.before.args in
    let v = c.before.before.before.before.before.before.before.before.validate-verdict in
    let t = c.before.before.before.before.before.before.before.before.before.before.before.before.before.table_length-split in
    let files = a.files.now in
    let end : t.result - 0 ≡ table_length files = omega (arith, t.ensures.0) in
    judging files _ _ a.budget a.scratch.now a.room.now
    (ap (λ (k : ℕ). take k files) end)
    (take_all (length files - t.result) (drop t.result files) (omega (arith, length-drop t.result files)) ∙ ap (λ (k : ℕ). drop k files) t.ensures.0)
    v.ensures.answered v.ensures.cleared v.ensures.written c.before.before.verdict_lines.ensures

pub judge_spec : {M : Type 1} → statement M
judge_spec =
    tie.close
    (tie.spec
    table-length-requires
    sub-validate
    part-validate-start
    part-validate-end
    sub-validate-2
    part-validate-start-2
    part-validate-end-2
    validate-requires
    verdict-lines-requires
    same_length
    same-length-2
    same-length-3
    returns)
