use Prim.Native.Nat.{◌*◌}
use native.Mathlib.Omega.{arith}
use mathlib.Core.Path.{◌∙◌}
use borrow.Author.Rules.{rules}
use Rattle.images.proofs.SetLaws.{set_near}
use Rattle.images.proofs.MarkLaws.{highest_moved}
use Rattle.images.proofs.marks.mark_highest.Statement.{statement}
use Rattle.images.proofs.marks.mark_highest.Tie as tie

abbrev start : tie.After-at_most → tie.Start
start c = c.before.before.before.before.before.before.before

sub-at-most : tie.Need-overflow_sub-clock
sub-at-most c = search rules

at-most-requires : tie.Need-at_most-requires
at-most-requires c κs = search rules

complement-requires : tie.Need-complement-requires
complement-requires c κs = search rules

mul-or-range : tie.Need-overflow_mul-n
mul-or-range c = search rules

mul-or-range-2 : tie.Need-overflow_mul-n-2
mul-or-range-2 c =
    let s = start c.before.before.before.before.before.before.before.before.before in
    omega (arith, set_near s.args.n s.args.r s.requires.0.few s.requires.1)

mul-or-range-3 : tie.Need-overflow_mul-n-3
mul-or-range-3 c = search rules

or-range-requires : tie.Need-or_range-requires
or-range-requires c κs = search rules

same_length : tie.Need-shape_of-marks
same_length c = search rules

same-length-2 : tie.Need-shape_of-one
same-length-2 c = search rules

same-length-3 : tie.Need-shape_of-two
same-length-3 c = search rules

returns : tie.Need-returns
returns c =
    let range = c.before.before in
    let flip = range.before.before.before.before in
    let most = flip.before.before.before.before.before.before in
    let s = start most in
    let a = s.args in (
      highest_moved (64 * a.n * a.r) a.n a.clock.weight a.clock.values a.one.now flip.complement.new.a a.marks.now range.or_range.new.dst
          s.requires.0.first
          most.at_most.new.a
          s.requires.3
          (most.at_most.ensures.2 (omega arith) (omega arith) s.requires.2 s.requires.3)
          flip.complement.ensures
          (range.or_range.ensures.1 (omega (arith, set_near a.n a.r s.requires.0.few s.requires.1)) (omega arith) (omega arith) (omega arith)),
      flip.complement.ensures.size ∙ most.at_most.ensures.0,
      most.at_most.ensures.1,
    )

pub mark_highest_spec : {M : Type 1} → statement M
mark_highest_spec =
    tie.close
    (tie.spec
    sub-at-most
    at-most-requires
    complement-requires
    mul-or-range
    mul-or-range-2
    mul-or-range-3
    or-range-requires
    same_length
    same-length-2
    same-length-3
    returns)
