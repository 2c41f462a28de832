use mathlib.Core.Bool.{not}
use Rattle.std.proofs.Common.{ap}
use native.Mathlib.Omega.{arith}
use mathlib.Core.Path.{refl, ◌∙◌}
use lib.ListN.{length}
use Rattle.images.specs.Buffers.{Lengths}
use Rattle.images.proofs.Advancing.{passed, failed, lengths_fit}
use Rattle.images.proofs.Retreating.{retreated}
use borrow.Author.Rules.{rules}
use Rattle.images.proofs.back.retreat.Statement.{statement}
use Rattle.images.proofs.back.retreat.Tie as tie

is-sized-requires : tie.Need-is_sized-requires
is-sized-requires c κs = search rules

returns : tie.Need-returns-then-not-is_sized
returns c =
    (refl, refl, refl, refl, λ m n given within sized. absurd (failed c.before.is_sized.result (ap not c.if-not-is_sized.true) c.before.is_sized.ensures.1 (lengths_fit given within sized)))

sub-low-first : tie.Need-slice_bounds-low_first-count
sub-low-first c = search rules

part-low-first-start : tie.Need-slice_bounds-low_first-start
part-low-first-start c = search rules

part-low-first-end : tie.Need-slice_bounds-low_first-end
part-low-first-end c =
    let fit = passed c.before.is_sized.result (ap not c.if-not-is_sized.false) c.before.is_sized.ensures.0 in
    omega arith

mul-high-first : tie.Need-overflow_mul-high_first
mul-high-first c = search rules

mul-high-first-2 : tie.Need-offset_bounds-marks-n
mul-high-first-2 c = search rules

sub-high-first : tie.Need-slice_bounds-high_first-count
sub-high-first c = search rules

part-high-first-start : tie.Need-slice_bounds-high_first-start
part-high-first-start c = search rules

part-high-first-end : tie.Need-slice_bounds-high_first-end
part-high-first-end c =
    let fit = passed c.before.before.is_sized.result (ap not c.before.if-not-is_sized.false) c.before.before.is_sized.ensures.0 in
    omega arith

mul-low-second : tie.Need-overflow_mul-low_second
mul-low-second c = search rules

mul-low-second-2 : tie.Need-overflow_mul-low_second-2
mul-low-second-2 c = search rules

mul-low-second-3 : tie.Need-offset_bounds-marks-n-2
mul-low-second-3 c = search rules

sub-low-second : tie.Need-slice_bounds-low_second-count
sub-low-second c = search rules

part-low-second-start : tie.Need-slice_bounds-low_second-start
part-low-second-start c = search rules

part-low-second-end : tie.Need-slice_bounds-low_second-end
part-low-second-end c =
    let fit = passed c.before.before.before.is_sized.result (ap not c.before.before.if-not-is_sized.false) c.before.before.before.is_sized.ensures.0 in
    omega arith

mul-high-second : tie.Need-overflow_mul-high_second
mul-high-second c = search rules

mul-high-second-2 : tie.Need-overflow_mul-high_second-2
mul-high-second-2 c = search rules

mul-high-second-3 : tie.Need-offset_bounds-marks-n-3
mul-high-second-3 c =
    let fit = passed c.before.before.before.before.is_sized.result (ap not c.before.before.before.if-not-is_sized.false) c.before.before.before.before.is_sized.ensures.0 in
    omega arith

sub-high-second : tie.Need-slice_bounds-high_second-count
sub-high-second c = search rules

part-high-second-start : tie.Need-slice_bounds-high_second-start
part-high-second-start c = search rules

part-high-second-end : tie.Need-slice_bounds-high_second-end
part-high-second-end c =
    let fit = passed c.before.before.before.before.is_sized.result (ap not c.before.before.before.if-not-is_sized.false) c.before.before.before.before.is_sized.ensures.0 in
    omega arith

first-clock-requires : tie.Need-first_clock-first-requires
first-clock-requires c κs = search rules

second-clock-requires : tie.Need-second_clock-second-requires
second-clock-requires c κs = search rules

live-states-requires : tie.Need-live_states-live-requires
live-states-requires c κs = search rules

plan-of-requires : tie.Need-plan_of-p-requires
plan-of-requires c κs =
    let fit = passed c.before.before.before.before.before.before.before.before.is_sized.result (ap not c.before.before.before.before.before.before.before.if-not-is_sized.false) c.before.before.before.before.before.before.before.before.is_sized.ensures.0 in
    fit.few

used-requires : tie.Need-used-worth-requires
used-requires c κs = search rules

cast-untick : tie.Need-overflow_cast-h
cast-untick c = search rules

untick-requires : tie.Need-untick-requires
untick-requires c κs =
    let fit = passed c.before.before.before.before.before.before.before.before.before.before.before.before.before.before.is_sized.result (ap not c.before.before.before.before.before.before.before.before.before.before.before.before.before.if-not-is_sized.false) c.before.before.before.before.before.before.before.before.before.before.before.before.before.before.is_sized.ensures.0 in
    record { few = fit.few; four = fit.sets; first = fit.single; second = fit.spare }

unset-requires : tie.Need-unset-requires
unset-requires c κs =
    let untick = c in
    let second = c in
    let first = second in
    let a = c.before.before.before.before.before.before.before.before.before.before.before.before.before.before.before.before.before.before.before.before.before.before.before.before.before.before.before.before.before.before.before.before.before.before.args in
    let fit = passed {A = Lengths (length a.row.now) a.size (length a.marks.now) (length a.sets.now) (length a.one.now) (length a.two.now) a.h} c.before.before.before.before.before.before.before.before.before.before.before.before.before.before.before.before.before.before.before.before.before.before.before.before.is_sized.result (ap not c.before.before.before.before.before.before.before.before.before.before.before.before.before.before.before.before.before.before.before.before.before.before.before.if-not-is_sized.false) c.before.before.before.before.before.before.before.before.before.before.before.before.before.before.before.before.before.before.before.before.before.before.before.before.is_sized.ensures.0 in (
      record {
        few = fit.few;
        four = untick.before.before.before.before.before.before.before.before.before.untick.ensures.2.size ∙ fit.sets;
        first = untick.before.before.before.before.before.before.before.before.before.untick.ensures.0.size ∙ fit.single;
        second = untick.before.before.before.before.before.before.before.before.before.untick.ensures.1.size ∙ fit.spare;
      },
      omega (arith, first.before.before.before.before.before.before.before.before.before.before.before.before.before.before.before.before.before.before.first_clock-first.ensures.1, fit.first),
      omega (arith, second.before.before.before.before.before.before.before.before.before.before.before.before.before.before.before.before.before.second_clock-second.ensures.1, fit.second),
    )

moves-requires : tie.Need-moves-requires
moves-requires c κs =
    let fit = passed c.before.before.before.before.before.before.before.before.before.before.before.before.before.before.before.before.before.before.before.before.before.before.before.before.before.before.before.before.before.before.before.before.is_sized.result (ap not c.before.before.before.before.before.before.before.before.before.before.before.before.before.before.before.before.before.before.before.before.before.before.before.before.before.before.before.before.before.before.before.if-not-is_sized.false) c.before.before.before.before.before.before.before.before.before.before.before.before.before.before.before.before.before.before.before.before.before.before.before.before.before.before.before.before.before.before.before.before.is_sized.ensures.0 in
    omega arith

keep-common-requires : tie.Need-keep_common-requires
keep-common-requires c κs = search rules

same_length : tie.Need-shape_of-row
same_length c = search rules

same-length-2 : tie.Need-shape_of-sets
same-length-2 c = search rules

same-length-3 : tie.Need-shape_of-one
same-length-3 c = search rules

same-length-4 : tie.Need-shape_of-two
same-length-4 c = search rules

returns-2 : tie.Need-returns
returns-2 c =
    let keep = c in
    let lead = keep in
    let unset = lead in
    let untick = unset in
    let used = untick in
    let plan = used in
    let live = plan in
    let second = live in
    let first = second in
    let sized = first in
    let a = sized.before.before.before.before.before.before.before.before.before.before.before.before.before.before.before.before.before.before.before.before.before.before.before.before.before.before.before.before.before.before.before.before.before.before.before.before.before.before.before.before.before.before.before.before.before.before.before.before.before.args in
    let fit = passed {A = Lengths (length a.row.now) a.size (length a.marks.now) (length a.sets.now) (length a.one.now) (length a.two.now) a.h} sized.before.before.before.before.before.before.before.before.before.before.before.before.before.before.before.before.before.before.before.before.before.before.before.before.before.before.before.before.before.before.before.before.before.before.before.before.before.before.before.is_sized.result (ap not first.before.before.before.before.before.before.before.before.before.before.before.before.before.before.before.before.before.before.before.before.before.before.before.before.before.before.before.before.before.before.before.before.before.before.before.before.before.before.if-not-is_sized.false) sized.before.before.before.before.before.before.before.before.before.before.before.before.before.before.before.before.before.before.before.before.before.before.before.before.before.before.before.before.before.before.before.before.before.before.before.before.before.before.before.is_sized.ensures.0 in (
      keep.before.before.keep_common.ensures.size,
      unset.before.before.before.before.before.before.before.before.before.before.before.before.before.before.unset.ensures.0.long ∙ untick.before.before.before.before.before.before.before.before.before.before.before.before.before.before.before.before.before.before.before.before.before.before.before.before.untick.ensures.2.size,
      lead.before.before.before.before.before.before.moves.ensures.size ∙ unset.before.before.before.before.before.before.before.before.before.before.before.before.before.before.unset.ensures.1 ∙ untick.before.before.before.before.before.before.before.before.before.before.before.before.before.before.before.before.before.before.before.before.before.before.before.before.untick.ensures.0.size,
      unset.before.before.before.before.before.before.before.before.before.before.before.before.before.before.unset.ensures.2 ∙ untick.before.before.before.before.before.before.before.before.before.before.before.before.before.before.before.before.before.before.before.before.before.before.before.before.untick.ensures.1.size,
      λ m n given within sized.
          retreated a.table.now a.offsets.now a.h a.size (length a.row.now) a.marks.now a.planes.now a.heard
          live.before.before.before.before.before.before.before.before.before.before.before.before.before.before.before.before.before.before.before.before.before.before.before.before.before.before.before.before.before.before.before.live_states-live.result plan.before.before.before.before.before.before.before.before.before.before.before.before.before.before.before.before.before.before.before.before.before.before.before.before.before.before.before.before.before.before.plan_of-p.result plan.before.before.before.before.before.before.before.before.before.before.before.before.before.before.before.before.before.before.before.before.before.before.before.before.before.before.before.before.before.before.plan_of-p.ensures a.row.now a.next.now live.before.before.before.before.before.before.before.before.before.before.before.before.before.before.before.before.before.before.before.before.before.before.before.before.before.before.before.before.before.before.before.live_states-live.ensures used.before.before.before.before.before.before.before.before.before.before.before.before.before.before.before.before.before.before.before.before.before.before.before.before.before.before.before.before.before.used-worth.result used.before.before.before.before.before.before.before.before.before.before.before.before.before.before.before.before.before.before.before.before.before.before.before.before.before.before.before.before.before.used-worth.ensures
          first.before.before.before.before.before.before.before.before.before.before.before.before.before.before.before.before.before.before.before.before.before.before.before.before.before.before.before.before.before.before.before.before.before.first_clock-first.result.weight first.before.before.before.before.before.before.before.before.before.before.before.before.before.before.before.before.before.before.before.before.before.before.before.before.before.before.before.before.before.before.before.before.before.first_clock-first.result.values second.before.before.before.before.before.before.before.before.before.before.before.before.before.before.before.before.before.before.before.before.before.before.before.before.before.before.before.before.before.before.before.before.second_clock-second.result.weight second.before.before.before.before.before.before.before.before.before.before.before.before.before.before.before.before.before.before.before.before.before.before.before.before.before.before.before.before.before.before.before.before.second_clock-second.result.values
          first.before.before.before.before.before.before.before.before.before.before.before.before.before.before.before.before.before.before.before.before.before.before.before.before.before.before.before.before.before.before.before.before.before.first_clock-first.ensures.0 first.before.before.before.before.before.before.before.before.before.before.before.before.before.before.before.before.before.before.before.before.before.before.before.before.before.before.before.before.before.before.before.before.before.first_clock-first.ensures.1 second.before.before.before.before.before.before.before.before.before.before.before.before.before.before.before.before.before.before.before.before.before.before.before.before.before.before.before.before.before.before.before.before.second_clock-second.ensures.0 second.before.before.before.before.before.before.before.before.before.before.before.before.before.before.before.before.before.before.before.before.before.before.before.before.before.before.before.before.before.before.before.before.second_clock-second.ensures.1
          a.one.now a.two.now a.sets.now untick.before.before.before.before.before.before.before.before.before.before.before.before.before.before.before.before.before.before.before.before.before.before.before.before.untick.new.one untick.before.before.before.before.before.before.before.before.before.before.before.before.before.before.before.before.before.before.before.before.before.before.before.before.untick.new.two untick.before.before.before.before.before.before.before.before.before.before.before.before.before.before.before.before.before.before.before.before.before.before.before.before.untick.new.sets
          unset.before.before.before.before.before.before.before.before.before.before.before.before.before.before.unset.new.sets unset.before.before.before.before.before.before.before.before.before.before.before.before.before.before.unset.new.one lead.before.before.before.before.before.before.moves.new.out keep.before.before.keep_common.new.a
          fit.sets fit.single fit.spare (unset.before.before.before.before.before.before.before.before.before.before.before.before.before.before.unset.ensures.1 ∙ untick.before.before.before.before.before.before.before.before.before.before.before.before.before.before.before.before.before.before.before.before.before.before.before.before.untick.ensures.0.size ∙ fit.single) refl
          untick.before.before.before.before.before.before.before.before.before.before.before.before.before.before.before.before.before.before.before.before.before.before.before.before.untick.ensures.0 untick.before.before.before.before.before.before.before.before.before.before.before.before.before.before.before.before.before.before.before.before.before.before.before.before.untick.ensures.1 untick.before.before.before.before.before.before.before.before.before.before.before.before.before.before.before.before.before.before.before.before.before.before.before.before.untick.ensures.2 unset.before.before.before.before.before.before.before.before.before.before.before.before.before.before.unset.ensures.0 lead.before.before.before.before.before.before.moves.ensures keep.before.before.keep_common.ensures m n given within,
    )

pub retreat_spec : {M : Type 1} → statement M
retreat_spec =
    tie.close
    (tie.spec
    is-sized-requires
    returns
    sub-low-first
    part-low-first-start
    part-low-first-end
    mul-high-first
    mul-high-first-2
    sub-high-first
    part-high-first-start
    part-high-first-end
    mul-low-second
    mul-low-second-2
    mul-low-second-3
    sub-low-second
    part-low-second-start
    part-low-second-end
    mul-high-second
    mul-high-second-2
    mul-high-second-3
    sub-high-second
    part-high-second-start
    part-high-second-end
    first-clock-requires
    second-clock-requires
    live-states-requires
    plan-of-requires
    used-requires
    cast-untick
    untick-requires
    unset-requires
    moves-requires
    keep-common-requires
    same_length
    same-length-2
    same-length-3
    same-length-4
    returns-2)
