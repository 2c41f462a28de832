-- What the engine ensures computes to P2's answer and bytes once all that `run` opens is open.
use Prim.Native.Nat.{ℕ}
use mathlib.Core.Path.{ap}
use mathlib.Core.List.{List}
use lib.ListN.{take, drop}
use borrow.Author.Rules.{rules}
use Rattle.model.specs.Validation.{scratch_left, room_left}
use Rattle.examples.proofs.Examples.{run_of}
use Rattle.fixed_witness.proofs.main.Statement.{statement}
use Rattle.fixed_witness.proofs.main.Tie as tie

slice-aggregate-validate : tie.Need-slice_bounds-validate-end-3
slice-aggregate-validate c = search rules

slice-aggregate-validate-2 : tie.Need-slice_bounds-validate-end-4
slice-aggregate-validate-2 c = search rules

validate-requires : tie.Need-validate-verdict-requires
validate-requires c κs = search rules

accepted-requires : tie.Need-accepted-requires
accepted-requires c κs = search rules

expect-requires : tie.Need-expect-requires
unfolding run_of scratch_left room_left
expect-requires c κs = c.accepted.ensures.1 c.before.before.before.validate-verdict.ensures.answered

sub_same : tie.Need-slice_bounds-same-count
sub_same c = search rules

part-same-start : tie.Need-slice_bounds-same-start
part-same-start c = search rules

part-same-end : tie.Need-slice_bounds-same-end
part-same-end c = search rules

same-requires : tie.Need-same-requires
same-requires c κs = search rules

expect-requires-2 : tie.Need-expect-requires-2
unfolding run_of scratch_left room_left
expect-requires-2 c κs =
    c.same.ensures.1 (ap (λ (l : List ℕ). take 10 (drop 0 l)) c.before.before.before.before.before.before.before.before.validate-verdict.ensures.written)

sub-same-2 : tie.Need-slice_bounds-same-count-2
sub-same-2 c = search rules

part-same-start-2 : tie.Need-slice_bounds-same-start-2
part-same-start-2 c = search rules

part-same-end-2 : tie.Need-slice_bounds-same-end-3
part-same-end-2 c = search rules

same-requires-2 : tie.Need-same-requires-2
same-requires-2 c κs = search rules

expect-requires-3 : tie.Need-expect-requires-3
unfolding run_of scratch_left room_left
expect-requires-3 c κs =
    c.same-2.ensures.1 (ap (λ (l : List ℕ). take 80 (drop 10 l)) c.before.before.before.before.before.before.before.before.before.before.before.before.before.validate-verdict.ensures.written)

sub-same-3 : tie.Need-slice_bounds-same-count-3
sub-same-3 c = search rules

part-same-start-3 : tie.Need-slice_bounds-same-start-3
part-same-start-3 c = search rules

part-same-end-3 : tie.Need-slice_bounds-same-end-5
part-same-end-3 c = search rules

same-requires-3 : tie.Need-same-requires-3
same-requires-3 c κs = search rules

expect-requires-4 : tie.Need-expect-requires-4
unfolding run_of scratch_left room_left
expect-requires-4 c κs =
    c.same-3.ensures.1 (ap (λ (l : List ℕ). take 12 (drop 0 l)) c.before.before.before.before.before.before.before.before.before.before.before.before.before.before.before.before.before.before.validate-verdict.ensures.cleared)

sub-same-4 : tie.Need-slice_bounds-same-count-4
sub-same-4 c = search rules

part-same-start-4 : tie.Need-slice_bounds-same-start-4
part-same-start-4 c = search rules

part-same-end-4 : tie.Need-slice_bounds-same-end-7
part-same-end-4 c = search rules

same-requires-4 : tie.Need-same-requires-4
same-requires-4 c κs = search rules

expect-requires-5 : tie.Need-expect-requires-5
unfolding run_of scratch_left room_left
expect-requires-5 c κs =
    c.same-4.ensures.1 (ap (λ (l : List ℕ). take 88 (drop 12 l)) c.before.before.before.before.before.before.before.before.before.before.before.before.before.before.before.before.before.before.before.before.before.before.before.validate-verdict.ensures.cleared)

returns : tie.Need-returns
returns c = search rules

pub main_spec : {M : Type 1} → statement M
main_spec =
    tie.close
    (tie.spec
    slice-aggregate-validate
    slice-aggregate-validate-2
    validate-requires
    accepted-requires
    expect-requires
    sub_same
    part-same-start
    part-same-end
    same-requires
    expect-requires-2
    sub-same-2
    part-same-start-2
    part-same-end-2
    same-requires-2
    expect-requires-3
    sub-same-3
    part-same-start-3
    part-same-end-3
    same-requires-3
    expect-requires-4
    sub-same-4
    part-same-start-4
    part-same-end-4
    same-requires-4
    expect-requires-5
    returns)
