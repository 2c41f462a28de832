use native.Mathlib.Omega.{arith}
use Rattle.firings.specs.Folded.{set_at, spread_by}
use Rattle.images.proofs.SetLaws.{set_near, put_set}
use borrow.Author.Rules.{rules}
use Rattle.images.proofs.sets.unreset_one.Statement.{statement}
use Rattle.images.proofs.sets.unreset_one.Tie as tie

spread-first-requires : tie.Need-spread_first-requires
spread-first-requires c κs = search rules

mul-or-range : tie.Need-overflow_mul-n
mul-or-range c = search rules

mul-or-range-2 : tie.Need-overflow_mul-n-2
mul-or-range-2 c = omega (arith, set_near c.before.before.before.before.before.before.before.before.before.before.before.before.args.n c.before.before.before.before.before.before.before.before.before.before.before.before.args.r c.before.before.before.before.before.before.before.before.before.before.before.before.requires.0.few c.before.before.before.before.before.before.before.before.before.before.before.before.requires.1)

mul-or-range-3 : tie.Need-overflow_mul-n-3
mul-or-range-3 c = search rules

or-range-requires : tie.Need-or_range-requires
or-range-requires c κs = search rules

same_length : tie.Need-shape_of-b
same_length c = search rules

same-length-2 : tie.Need-shape_of-one
same-length-2 c = search rules

same-length-3 : tie.Need-shape_of-two
same-length-3 c = search rules

returns : tie.Need-returns
returns c =
    let put = c in
    let spread = put in
    let s = spread in
    let a = s.before.before.before.before.before.before.before.before.before.before.before.before.before.before.before.args in
    let far = set_near a.n a.r s.before.before.before.before.before.before.before.before.before.before.before.before.before.before.before.requires.0.few s.before.before.before.before.before.before.before.before.before.before.before.before.before.before.before.requires.1 in (
      put_set a.n a.r (spread_by a.clock.weight a.clock.values a.n a.low.now (set_at a.b.now a.n 0)) a.one.now spread.before.before.before.before.before.before.before.before.spread_first.new.one a.b.now put.before.before.or_range.new.dst s.before.before.before.before.before.before.before.before.before.before.before.before.before.before.before.requires.0.first spread.before.before.before.before.before.before.before.before.spread_first.ensures.0
          (put.before.before.or_range.ensures.1 (omega arith) (omega arith) (omega arith) (omega arith)),
      spread.before.before.before.before.before.before.before.before.spread_first.ensures.0.size,
      spread.before.before.before.before.before.before.before.before.spread_first.ensures.1,
    )

pub unreset_one_spec : {M : Type 1} → statement M
unreset_one_spec =
    tie.close
    (tie.spec
    spread-first-requires
    mul-or-range
    mul-or-range-2
    mul-or-range-3
    or-range-requires
    same_length
    same-length-2
    same-length-3
    returns)
