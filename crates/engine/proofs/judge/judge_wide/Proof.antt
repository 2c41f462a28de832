use borrow.Author.Rules.{rules}
use Rattle.engine.proofs.JudgeLaws.{rooms, wide}
use Rattle.engine.proofs.judge.judge_wide.Statement.{statement}
use Rattle.engine.proofs.judge.judge_wide.Tie as tie

mul-four : tie.Need-overflow_mul-four
mul-four c = search rules

slice-aggregate-judge-in : tie.Need-slice_bounds-judge_in-end
slice-aggregate-judge-in c = search rules

slice-aggregate-judge-in-2 : tie.Need-slice_bounds-judge_in-end-2
slice-aggregate-judge-in-2 c = search rules

sub-judge-in : tie.Need-slice_bounds-judge_in-count
sub-judge-in c = search rules

part-marks-start : tie.Need-slice_bounds-marks-start
part-marks-start c = search rules

part-marks-end : tie.Need-slice_bounds-marks-end
part-marks-end c = search rules

sub-judge-in-2 : tie.Need-slice_bounds-judge_in-count-2
sub-judge-in-2 c = search rules

part-cur-start : tie.Need-slice_bounds-cur-start
part-cur-start c = search rules

part-cur-end : tie.Need-slice_bounds-cur-end
part-cur-end c = search rules

sub-judge-in-3 : tie.Need-slice_bounds-judge_in-count-3
sub-judge-in-3 c = search rules

part-row-start : tie.Need-slice_bounds-row-start
part-row-start c = search rules

part-row-end : tie.Need-slice_bounds-row-end
part-row-end c = search rules

sub-judge-in-4 : tie.Need-slice_bounds-judge_in-count-4
sub-judge-in-4 c = search rules

sub-judge-in-5 : tie.Need-slice_bounds-judge_in-count-5
sub-judge-in-5 c = search rules

part-sets-start : tie.Need-slice_bounds-sets-start
part-sets-start c = search rules

part-sets-end : tie.Need-slice_bounds-sets-end
part-sets-end c = search rules

sub-judge-in-6 : tie.Need-slice_bounds-judge_in-count-6
sub-judge-in-6 c = search rules

part-one-start : tie.Need-slice_bounds-one-start
part-one-start c = search rules

part-one-end : tie.Need-slice_bounds-one-end
part-one-end c = search rules

part-two-start : tie.Need-slice_bounds-two-start
part-two-start c = search rules

part-two-end : tie.Need-slice_bounds-two-end
part-two-end c = search rules

judge-in-requires : tie.Need-judge_in-requires
judge-in-requires c κs =
    let start = c.before.before.before.before.before.before.before.before.before.before.before.before.before.before in
    (start.requires.0, rooms 1024 _ start.requires.1 wide)

same_length : tie.Need-shape_of-scratch
same_length c = search rules

same-length-2 : tie.Need-shape_of-room
same-length-2 c = search rules

returns : tie.Need-returns
returns c = search rules

pub judge_wide_spec : {M : Type 1} → statement M
judge_wide_spec =
    tie.close
    (tie.spec
    mul-four
    slice-aggregate-judge-in
    sub-judge-in
    part-marks-start
    part-marks-end
    sub-judge-in-2
    part-cur-start
    part-cur-end
    sub-judge-in-3
    part-row-start
    part-row-end
    sub-judge-in-4
    part-sets-start
    part-sets-end
    sub-judge-in-5
    part-one-start
    part-one-end
    sub-judge-in-6
    part-two-start
    part-two-end
    slice-aggregate-judge-in-2
    judge-in-requires
    same_length
    same-length-2
    returns)
