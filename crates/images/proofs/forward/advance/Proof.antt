use mathlib.Core.Bool.{not}
use Rattle.std.proofs.Common.{ap}
use native.Mathlib.Omega.{arith}
use mathlib.Core.Path.{refl, sym, ◌∙◌}
use lib.ListN.{length}
use Rattle.images.specs.Buffers.{Lengths}
use Rattle.images.proofs.Advancing.{passed, failed, lengths_fit, advanced}
use borrow.Author.Rules.{rules}
use Rattle.images.proofs.forward.advance.Statement.{statement}
use Rattle.images.proofs.forward.advance.Tie as tie

is-sized-requires : tie.Need-is_sized-requires
is-sized-requires c κs = search rules

returns : tie.Need-returns-then-not-is_sized
returns c =
    (refl, refl, refl, refl, λ m n given within sized. absurd (failed c.before.is_sized.result (ap not c.if-not-is_sized.true) c.before.is_sized.ensures.1 (lengths_fit given within sized)))

sub-low-first : tie.Need-slice_bounds-low_first-count
sub-low-first c = search rules

part-low-first-start : tie.Need-slice_bounds-low_first-start
part-low-first-start c = search rules

part-low-first-end : tie.Need-slice_bounds-low_first-end
part-low-first-end c =
    let fit = passed c.before.is_sized.result (ap not c.if-not-is_sized.false) c.before.is_sized.ensures.0 in
    omega arith

mul-high-first : tie.Need-overflow_mul-high_first
mul-high-first c = search rules

mul-high-first-2 : tie.Need-offset_bounds-marks-n
mul-high-first-2 c = search rules

sub-high-first : tie.Need-slice_bounds-high_first-count
sub-high-first c = search rules

part-high-first-start : tie.Need-slice_bounds-high_first-start
part-high-first-start c = search rules

part-high-first-end : tie.Need-slice_bounds-high_first-end
part-high-first-end c =
    let fit = passed c.before.before.is_sized.result (ap not c.before.if-not-is_sized.false) c.before.before.is_sized.ensures.0 in
    omega arith

mul-low-second : tie.Need-overflow_mul-low_second
mul-low-second c = search rules

mul-low-second-2 : tie.Need-overflow_mul-low_second-2
mul-low-second-2 c = search rules

mul-low-second-3 : tie.Need-offset_bounds-marks-n-2
mul-low-second-3 c = search rules

sub-low-second : tie.Need-slice_bounds-low_second-count
sub-low-second c = search rules

part-low-second-start : tie.Need-slice_bounds-low_second-start
part-low-second-start c = search rules

part-low-second-end : tie.Need-slice_bounds-low_second-end
part-low-second-end c =
    let fit = passed c.before.before.before.is_sized.result (ap not c.before.before.if-not-is_sized.false) c.before.before.before.is_sized.ensures.0 in
    omega arith

mul-high-second : tie.Need-overflow_mul-high_second
mul-high-second c = search rules

mul-high-second-2 : tie.Need-overflow_mul-high_second-2
mul-high-second-2 c = search rules

mul-high-second-3 : tie.Need-offset_bounds-marks-n-3
mul-high-second-3 c =
    let fit = passed c.before.before.before.before.is_sized.result (ap not c.before.before.before.if-not-is_sized.false) c.before.before.before.before.is_sized.ensures.0 in
    omega arith

sub-high-second : tie.Need-slice_bounds-high_second-count
sub-high-second c = search rules

part-high-second-start : tie.Need-slice_bounds-high_second-start
part-high-second-start c = search rules

part-high-second-end : tie.Need-slice_bounds-high_second-end
part-high-second-end c =
    let fit = passed c.before.before.before.before.is_sized.result (ap not c.before.before.before.if-not-is_sized.false) c.before.before.before.before.is_sized.ensures.0 in
    omega arith

live-states-requires : tie.Need-live_states-live-requires
live-states-requires c κs = search rules

plan-of-requires : tie.Need-plan_of-p-requires
plan-of-requires c κs =
    let fit = passed c.before.before.before.before.before.before.is_sized.result (ap not c.before.before.before.before.before.if-not-is_sized.false) c.before.before.before.before.before.before.is_sized.ensures.0 in
    fit.few

moves-requires : tie.Need-moves-requires
moves-requires c κs =
    let fit = passed c.before.before.before.before.before.before.before.before.is_sized.result (ap not c.before.before.before.before.before.before.before.if-not-is_sized.false) c.before.before.before.before.before.before.before.before.is_sized.ensures.0 in
    omega arith

first-clock-requires : tie.Need-first_clock-first-requires
first-clock-requires c κs = search rules

second-clock-requires : tie.Need-second_clock-second-requires
second-clock-requires c κs = search rules

reset-all-requires : tie.Need-reset_all-requires
reset-all-requires c κs =
    let second = c in
    let first = second in
    let moves = first in
    let a = c.before.before.before.before.before.before.before.before.before.before.before.before.before.before.before.before.before.before.before.before.before.before.before.before.before.args in
    let fit = passed {A = Lengths (length a.cur.now) a.size (length a.marks.now) (length a.acc.now) (length a.one.now) (length a.two.now) a.h} c.before.before.before.before.before.before.before.before.before.before.before.before.before.before.before.before.is_sized.result (ap not c.before.before.before.before.before.before.before.before.before.before.before.before.before.before.before.if-not-is_sized.false) c.before.before.before.before.before.before.before.before.before.before.before.before.before.before.before.before.is_sized.ensures.0 in (
      record {
        few = fit.few;
        four = moves.before.before.before.before.before.before.before.moves.ensures.size ∙ fit.sets;
        first = fit.single;
        second = fit.spare;
      },
      first.before.before.before.before.first_clock-first.ensures.0,
      second.before.before.before.second_clock-second.ensures.0 ∙ sym first.before.before.before.before.first_clock-first.ensures.1,
      omega (arith, first.before.before.before.before.first_clock-first.ensures.1, fit.first),
      omega (arith, second.before.before.before.second_clock-second.ensures.1, fit.second),
    )

cast-tick : tie.Need-overflow_cast-h
cast-tick c = search rules

tick-requires : tie.Need-tick-requires
tick-requires c κs = search rules

same_length : tie.Need-shape_of-cur
same_length c = search rules

same-length-2 : tie.Need-shape_of-acc
same-length-2 c = search rules

same-length-3 : tie.Need-shape_of-one
same-length-3 c = search rules

same-length-4 : tie.Need-shape_of-two
same-length-4 c = search rules

returns-2 : tie.Need-returns
returns-2 c =
    let tick = c in
    let reset = tick in
    let second = reset in
    let first = second in
    let moves = first in
    let plan = moves in
    let live = plan in
    let sized = live in
    let a = sized.before.before.before.before.before.before.before.before.before.before.before.before.before.before.before.before.before.before.before.before.before.before.before.before.before.before.before.before.before.before.before.before.before.before.before.before.before.before.before.before.args in
    let fit = passed {A = Lengths (length a.cur.now) a.size (length a.marks.now) (length a.acc.now) (length a.one.now) (length a.two.now) a.h} sized.before.before.before.before.before.before.before.before.before.before.before.before.before.before.before.before.before.before.before.before.before.before.before.before.before.before.before.before.before.before.before.is_sized.result (ap not live.before.before.before.before.before.before.before.before.before.before.before.before.before.before.before.before.before.before.before.before.before.before.before.before.before.before.before.before.before.before.if-not-is_sized.false) sized.before.before.before.before.before.before.before.before.before.before.before.before.before.before.before.before.before.before.before.before.before.before.before.before.before.before.before.before.before.before.before.is_sized.ensures.0 in (
      tick.before.before.before.before.tick.ensures.1.size,
      reset.before.before.before.before.before.before.before.before.before.before.before.before.before.before.reset_all.ensures.0 ∙ moves.before.before.before.before.before.before.before.before.before.before.before.before.before.before.before.before.before.before.before.before.before.before.moves.ensures.size,
      tick.before.before.before.before.tick.ensures.0.size ∙ reset.before.before.before.before.before.before.before.before.before.before.before.before.before.before.reset_all.ensures.2,
      reset.before.before.before.before.before.before.before.before.before.before.before.before.before.before.reset_all.ensures.3,
      λ m n given within sized.
          advanced a.table.now a.offsets.now a.h a.size (length a.cur.now) a.marks.now a.planes.now a.heard
          live.before.before.before.before.before.before.before.before.before.before.before.before.before.before.before.before.before.before.before.before.before.before.before.before.before.live_states-live.result plan.before.before.before.before.before.before.before.before.before.before.before.before.before.before.before.before.before.before.before.before.before.before.before.before.plan_of-p.result plan.before.before.before.before.before.before.before.before.before.before.before.before.before.before.before.before.before.before.before.before.before.before.before.before.plan_of-p.ensures a.cur.now live.before.before.before.before.before.before.before.before.before.before.before.before.before.before.before.before.before.before.before.before.before.before.before.before.before.live_states-live.ensures
          first.before.before.before.before.before.before.before.before.before.before.before.before.before.before.before.before.before.before.before.first_clock-first.result.values second.before.before.before.before.before.before.before.before.before.before.before.before.before.before.before.before.before.before.second_clock-second.result.values first.before.before.before.before.before.before.before.before.before.before.before.before.before.before.before.before.before.before.before.first_clock-first.ensures.1 second.before.before.before.before.before.before.before.before.before.before.before.before.before.before.before.before.before.before.second_clock-second.ensures.1
          a.acc.now moves.before.before.before.before.before.before.before.before.before.before.before.before.before.before.before.before.before.before.before.before.before.before.moves.new.out reset.before.before.before.before.before.before.before.before.before.before.before.before.before.before.reset_all.new.b reset.before.before.before.before.before.before.before.before.before.before.before.before.before.before.reset_all.new.one tick.before.before.before.before.tick.new.one tick.before.before.before.before.tick.new.cur
          fit.sets (reset.before.before.before.before.before.before.before.before.before.before.before.before.before.before.reset_all.ensures.2 ∙ fit.single) refl
          moves.before.before.before.before.before.before.before.before.before.before.before.before.before.before.before.before.before.before.before.before.before.before.moves.ensures reset.before.before.before.before.before.before.before.before.before.before.before.before.before.before.reset_all.ensures.1 tick.before.before.before.before.tick.ensures.0 tick.before.before.before.before.tick.ensures.1 m n given within,
    )

pub advance_spec : {M : Type 1} → statement M
advance_spec =
    tie.close
    (tie.spec
    is-sized-requires
    returns
    sub-low-first
    part-low-first-start
    part-low-first-end
    mul-high-first
    mul-high-first-2
    sub-high-first
    part-high-first-start
    part-high-first-end
    mul-low-second
    mul-low-second-2
    mul-low-second-3
    sub-low-second
    part-low-second-start
    part-low-second-end
    mul-high-second
    mul-high-second-2
    mul-high-second-3
    sub-high-second
    part-high-second-start
    part-high-second-end
    live-states-requires
    plan-of-requires
    moves-requires
    first-clock-requires
    second-clock-requires
    reset-all-requires
    cast-tick
    tick-requires
    same_length
    same-length-2
    same-length-3
    same-length-4
    returns-2)
