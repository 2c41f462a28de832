use native.Mathlib.Omega.{arith}
use mathlib.Core.Path.{refl, ◌∙◌}
use Rattle.images.proofs.SetLaws.{set_near, fold_some, fold_none}
use borrow.Author.Rules.{rules}
use Rattle.images.proofs.sets.fold.Statement.{statement}
use Rattle.images.proofs.sets.fold.Tie as tie

mul-any-in : tie.Need-overflow_mul-n
mul-any-in c = search rules

mul-any-in-2 : tie.Need-overflow_mul-n-2
mul-any-in-2 c = omega (arith, set_near c.before.before.before.before.args.n c.before.before.before.before.args.from c.before.before.before.before.requires.0.few c.before.before.before.before.requires.1)

mul-any-in-3 : tie.Need-overflow_mul-n-3
mul-any-in-3 c = search rules

any-in-requires : tie.Need-any_in-requires
any-in-requires c κs = search rules

clear-requires : tie.Need-clear-requires
clear-requires c κs = search rules

mul-or-range : tie.Need-overflow_mul-n-then-any_in
mul-or-range c = search rules

mul-or-range-2 : tie.Need-overflow_mul-n-then-any_in-2
mul-or-range-2 c = omega (arith, set_near c.before.before.before.before.before.before.before.before.before.before.before.args.n c.before.before.before.before.before.before.before.before.before.before.before.args.from c.before.before.before.before.before.before.before.before.before.before.before.requires.0.few c.before.before.before.before.before.before.before.before.before.before.before.requires.1)

mul-or-range-3 : tie.Need-overflow_mul-n-then-any_in-3
mul-or-range-3 c = search rules

mul-or-range-4 : tie.Need-overflow_mul-n-then-any_in-4
mul-or-range-4 c = omega (arith, set_near c.before.before.before.before.before.before.before.before.before.before.before.args.n c.before.before.before.before.before.before.before.before.before.before.before.args.from c.before.before.before.before.before.before.before.before.before.before.before.requires.0.few c.before.before.before.before.before.before.before.before.before.before.before.requires.1)

mul-or-range-5 : tie.Need-overflow_mul-n-then-any_in-5
mul-or-range-5 c = search rules

or-range-requires : tie.Need-or_range-requires
or-range-requires c κs = search rules

spread-down-requires : tie.Need-spread_down-requires
spread-down-requires c κs = search rules

mul-or-range-6 : tie.Need-overflow_mul-n-then-any_in-6
mul-or-range-6 c = search rules

mul-or-range-7 : tie.Need-overflow_mul-n-then-any_in-7
mul-or-range-7 c = omega (arith, set_near c.before.before.before.before.before.before.before.before.before.before.before.before.before.before.before.before.before.before.before.before.before.before.args.n c.before.before.before.before.before.before.before.before.before.before.before.before.before.before.before.before.before.before.before.before.before.before.args.to c.before.before.before.before.before.before.before.before.before.before.before.before.before.before.before.before.before.before.before.before.before.before.requires.0.few c.before.before.before.before.before.before.before.before.before.before.before.before.before.before.before.before.before.before.before.before.before.before.requires.2)

mul-or-range-8 : tie.Need-overflow_mul-n-then-any_in-8
mul-or-range-8 c = search rules

or-range-requires-2 : tie.Need-or_range-requires-then-any_in
or-range-requires-2 c κs = search rules

same_length : tie.Need-shape_of-b-then-any_in
same_length c = search rules

same-length-2 : tie.Need-shape_of-one
same-length-2 c = search rules

same-length-3 : tie.Need-shape_of-two
same-length-3 c = search rules

returns : tie.Need-returns-then-any_in
returns c =
    let put = c in
    let down = put in
    let range = down in
    let clear = range in
    let s = clear in
    let a = s.before.before.before.before.before.before.before.before.before.before.before.before.before.before.before.before.before.before.before.before.before.before.before.before.before.args in
    let from = set_near a.n a.from s.before.before.before.before.before.before.before.before.before.before.before.before.before.before.before.before.before.before.before.before.before.before.before.before.before.requires.0.few s.before.before.before.before.before.before.before.before.before.before.before.before.before.before.before.before.before.before.before.before.before.before.before.before.before.requires.1 in
    let to = set_near a.n a.to s.before.before.before.before.before.before.before.before.before.before.before.before.before.before.before.before.before.before.before.before.before.before.before.before.before.requires.0.few s.before.before.before.before.before.before.before.before.before.before.before.before.before.before.before.before.before.before.before.before.before.before.before.before.before.requires.2 in
    let filled = range.before.before.before.before.before.before.before.before.before.before.before.before.before.or_range.ensures.1 (omega arith) (omega arith) (omega arith) (omega arith) in
    let long = range.before.before.before.before.before.before.before.before.before.before.before.before.before.or_range.ensures.0 ∙ clear.before.before.before.before.before.before.before.before.before.before.before.before.before.before.before.before.before.clear.ensures.size in (
      fold_some a.n a.from a.b.now a.one.now clear.before.before.before.before.before.before.before.before.before.before.before.before.before.before.before.before.before.clear.new.a range.before.before.before.before.before.before.before.before.before.before.before.before.before.or_range.new.dst s.before.before.before.before.before.before.before.before.before.before.before.before.before.before.before.before.before.before.before.before.before.before.before.before.before.requires.0.first clear.before.before.before.before.before.before.before.before.before.before.before.before.before.before.before.before.before.clear.ensures filled
          a.clock.weight a.clock.values a.to a.low.now down.before.before.before.before.before.before.before.before.spread_down.new.a put.before.before.or_range-then-any_in.new.dst
          (down.before.before.before.before.before.before.before.before.spread_down.ensures.2 (omega (arith, long, s.before.before.before.before.before.before.before.before.before.before.before.before.before.before.before.before.before.before.before.before.before.before.before.before.before.requires.0.first, s.before.before.before.before.before.before.before.before.before.before.before.before.before.before.before.before.before.before.before.before.before.before.before.before.before.requires.0.second)) s.before.before.before.before.before.before.before.before.before.before.before.before.before.before.before.before.before.before.before.before.before.before.before.before.before.requires.3)
          (put.before.before.or_range-then-any_in.ensures.1 (omega arith) (omega arith) (omega arith) (omega arith)),
      down.before.before.before.before.before.before.before.before.spread_down.ensures.0 ∙ long,
      down.before.before.before.before.before.before.before.before.spread_down.ensures.1,
    )

same-length-4 : tie.Need-shape_of-b-else-any_in
same-length-4 c = search rules

returns-2 : tie.Need-returns-else-any_in
returns-2 c =
    let s = c in
    let a = s.before.before.before.before.before.before.args in
    let from = set_near a.n a.from s.before.before.before.before.before.before.requires.0.few s.before.before.before.before.before.before.requires.1 in (
      fold_none a.n a.from a.b.now a.clock.weight a.clock.values a.to a.low.now c.before.any_in.result
          (c.before.any_in.ensures (omega arith) (omega (arith, s.before.before.before.before.before.before.requires.0.few))) c.if-any_in.false,
      refl,
      refl,
    )

pub fold_spec : {M : Type 1} → statement M
fold_spec =
    tie.close
    (tie.spec
    mul-any-in
    mul-any-in-2
    mul-any-in-3
    any-in-requires
    clear-requires
    mul-or-range
    mul-or-range-2
    mul-or-range-3
    mul-or-range-4
    mul-or-range-5
    or-range-requires
    spread-down-requires
    mul-or-range-6
    mul-or-range-7
    mul-or-range-8
    or-range-requires-2
    same_length
    same-length-2
    same-length-3
    returns
    same-length-4
    returns-2)
