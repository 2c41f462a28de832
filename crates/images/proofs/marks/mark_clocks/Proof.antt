use Prim.Native.Nat.{ℕ}
use native.Mathlib.Omega.{arith}
use mathlib.Core.Path.{refl, sym, subst, ◌∙◌}
use mathlib.Core.Bool.{false≢true}
use borrow.Author.Rules.{rules}
use lib.ListN.{length}
use Rattle.firings.specs.Ready.{Marked}
use Rattle.images.specs.Buffers.{Lengths}
use Rattle.images.proofs.MarkLaws.{marked_all}
use Rattle.images.proofs.marks.mark_clocks.Statement.{statement}
use Rattle.images.proofs.marks.mark_clocks.Tie as tie

abbrev start : tie.After-is_sized → tie.Start
start c = c.before.before.before.before

lengths : (c : tie.Else-not-is_sized) → let a = (start c.before).args in Lengths (length a.one.now) 0 (length a.marks.now) (length a.marks.now) (length a.one.now) (length a.two.now) a.h
lengths c = c.before.is_sized.ensures.0 (c.if-not-is_sized.false)

is-sized-requires : tie.Need-is_sized-requires
is-sized-requires c κs = search rules

returns : tie.Need-returns-then-not-is_sized
returns c =
    let s = start c.before in
    let a = s.args in (
      refl,
      refl,
      refl,
      λ m n f z.
          absurd
          (false≢true
          (sym (c.if-not-is_sized.true)
          ∙ c.before.is_sized.ensures.1
          (record {
            few = omega arith;
            narrow = omega arith;
            marked = omega arith;
            sets = omega arith;
            single = refl;
            spare = omega arith;
            first = omega (arith, f.first);
            second = omega (arith, f.second);
          }))),
    )

first-clock-requires : tie.Need-first_clock-first-requires
first-clock-requires c κs = search rules

second-clock-requires : tie.Need-second_clock-second-requires
second-clock-requires c κs = search rules

clear-requires : tie.Need-clear-requires
clear-requires c κs = search rules

mark-clock-requires : tie.Need-mark_clock-requires
mark-clock-requires c κs =
    let clear = c.before.before.before.before.before in
    let l = lengths clear.before.before.before.before in
    let first = clear.before.before.before.first_clock-first.ensures in (
      record {
        few = l.few;
        four = clear.clear.ensures.size ∙ l.sets;
        first = refl;
        second = l.spare;
      },
      omega arith,
      omega arith,
      omega (arith, l.first),
    )

mark-clock-requires-2 : tie.Need-mark_clock-requires-2
mark-clock-requires-2 c κs =
    let one = c.before.before.before.before.before.before.before.before.before in
    let clear = one.before.before.before.before.before.before in
    let l = lengths clear.before.before.before.before in
    let second = clear.before.before.second_clock-second.ensures in (
      record {
        few = l.few;
        four = one.mark_clock.ensures.1 ∙ clear.clear.ensures.size ∙ l.sets;
        first = one.mark_clock.ensures.2;
        second = one.mark_clock.ensures.3 ∙ l.spare;
      },
      omega arith,
      omega (arith, second.0, l.first),
      omega (arith, second.1, l.second),
    )

same_length : tie.Need-shape_of-marks
same_length c = search rules

same-length-2 : tie.Need-shape_of-one
same-length-2 c = search rules

same-length-3 : tie.Need-shape_of-two
same-length-3 c = search rules

returns-2 : tie.Need-returns
returns-2 c =
    let two = c.before.before.before.before.before.before in
    let one = two.before.before.before.before.before.before.before.before.before.before in
    let clear = one.before.before.before.before.before.before in
    let a = (start clear.before.before.before.before.before).args in
    let l = lengths clear.before.before.before.before in
    let first = clear.before.before.before.first_clock-first in
    let second = clear.before.before.second_clock-second in (
      two.mark_clock-2.ensures.1 ∙ one.mark_clock.ensures.1 ∙ clear.clear.ensures.size,
      two.mark_clock-2.ensures.2 ∙ one.mark_clock.ensures.2,
      two.mark_clock-2.ensures.3 ∙ one.mark_clock.ensures.3,
      λ m n f z.
          subst (λ (k : ℕ). Marked m k two.mark_clock-2.new.marks) z.first
          (marked_all m (length a.one.now) first.result.weight first.result.values second.result.weight second.result.values
          first.ensures.0
          (first.ensures.1 ∙ f.first)
          (second.ensures.0 ∙ f.first)
          (second.ensures.1 ∙ f.second)
          a.marks.now
          clear.clear.new.a
          one.mark_clock.new.marks
          two.mark_clock-2.new.marks
          l.sets
          clear.clear.ensures
          one.mark_clock.ensures.0
          one.mark_clock.ensures.1
          two.mark_clock-2.ensures.0),
    )

pub mark_clocks_spec : {M : Type 1} → statement M
mark_clocks_spec =
    tie.close
    (tie.spec
    is-sized-requires
    returns
    first-clock-requires
    second-clock-requires
    clear-requires
    mark-clock-requires
    mark-clock-requires-2
    same_length
    same-length-2
    same-length-3
    returns-2)
