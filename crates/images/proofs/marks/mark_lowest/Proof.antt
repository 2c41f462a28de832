use Prim.Native.Nat.{◌*◌}
use native.Mathlib.Omega.{arith}
use borrow.Author.Rules.{rules}
use Rattle.images.proofs.SetLaws.{set_near}
use Rattle.images.proofs.MarkLaws.{lowest_moved}
use Rattle.images.proofs.marks.mark_lowest.Statement.{statement}
use Rattle.images.proofs.marks.mark_lowest.Tie as tie

abbrev start : tie.After-at_most → tie.Start
start c = c.before.before.before.before.before.before

at-most-requires : tie.Need-at_most-requires
at-most-requires c κs = search rules

mul-or-range : tie.Need-overflow_mul-n
mul-or-range c = search rules

mul-or-range-2 : tie.Need-overflow_mul-n-2
mul-or-range-2 c =
    let s = start c.before.before.before.before.before in
    omega (arith, set_near s.args.n s.args.r s.requires.0.few s.requires.1)

mul-or-range-3 : tie.Need-overflow_mul-n-3
mul-or-range-3 c = search rules

or-range-requires : tie.Need-or_range-requires
or-range-requires c κs = search rules

same_length : tie.Need-shape_of-marks
same_length c = search rules

same-length-2 : tie.Need-shape_of-one
same-length-2 c = search rules

same-length-3 : tie.Need-shape_of-two
same-length-3 c = search rules

returns : tie.Need-returns
returns c =
    let range = c.before.before in
    let most = range.before.before.before.before.before.before in
    let s = start most in
    let a = s.args in (
      lowest_moved (64 * a.n * a.r) a.n a.clock.weight a.clock.values a.one.now most.at_most.new.a a.marks.now range.or_range.new.dst
          s.requires.0.first
          (most.at_most.ensures.2 (omega arith) (omega arith) s.requires.2 s.requires.3)
          (range.or_range.ensures.1 (omega (arith, set_near a.n a.r s.requires.0.few s.requires.1)) (omega arith) (omega arith) (omega arith)),
      most.at_most.ensures.0,
      most.at_most.ensures.1,
    )

pub mark_lowest_spec : {M : Type 1} → statement M
mark_lowest_spec =
    tie.close
    (tie.spec
    at-most-requires
    mul-or-range
    mul-or-range-2
    mul-or-range-3
    or-range-requires
    same_length
    same-length-2
    same-length-3
    returns)
