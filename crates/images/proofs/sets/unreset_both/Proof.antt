use native.Mathlib.Omega.{arith}
use mathlib.Core.Path.{◌∙◌}
use Rattle.firings.specs.Folded.{set_at, spread_by}
use Rattle.images.proofs.SetLaws.{put_set, spread-both}
use borrow.Author.Rules.{rules}
use Rattle.images.proofs.sets.unreset_both.Statement.{statement}
use Rattle.images.proofs.sets.unreset_both.Tie as tie

spread-first-requires : tie.Need-spread_first-requires
spread-first-requires c κs = search rules

spread-again-requires : tie.Need-spread_again-requires
spread-again-requires c κs = search rules

mul-or-range : tie.Need-overflow_mul-n
mul-or-range c = search rules

mul-or-range-2 : tie.Need-overflow_mul-n-2
mul-or-range-2 c = search rules

mul-or-range-3 : tie.Need-overflow_mul-n-3
mul-or-range-3 c = search rules

or-range-requires : tie.Need-or_range-requires
or-range-requires c κs = search rules

same_length : tie.Need-shape_of-b
same_length c = search rules

same-length-2 : tie.Need-shape_of-one
same-length-2 c = search rules

same-length-3 : tie.Need-shape_of-two
same-length-3 c = search rules

returns : tie.Need-returns
returns c =
    let put = c.before.before in
    let again = put.before.before.before.before.before.before in
    let first = again.before.before.before.before.before.before.before in
    let s = first.before.before.before.before.before.before.before.before in
    let a = s.args in (
      put_set a.n 3
          (spread_by a.first.weight a.first.values a.n a.low_first.now (spread_by a.second.weight a.second.values a.n a.low_second.now (set_at a.b.now a.n 0)))
          a.one.now again.spread_again.new.one a.b.now put.or_range.new.dst s.requires.0.first
          (spread-both a.first.weight a.first.values a.second.weight a.second.values a.n a.low_first.now a.low_second.now a.b.now a.one.now first.spread_first.new.one again.spread_again.new.one s.requires.0.first first.spread_first.ensures.0 again.spread_again.ensures.0)
          (put.or_range.ensures.1 (omega arith) (omega arith) (omega arith) (omega arith)),
      again.spread_again.ensures.0.size ∙ first.spread_first.ensures.0.size,
      again.spread_again.ensures.1 ∙ first.spread_first.ensures.1,
    )

pub unreset_both_spec : {M : Type 1} → statement M
unreset_both_spec =
    tie.close
    (tie.spec
    spread-first-requires
    spread-again-requires
    mul-or-range
    mul-or-range-2
    mul-or-range-3
    or-range-requires
    same_length
    same-length-2
    same-length-3
    returns)
