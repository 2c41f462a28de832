use native.Mathlib.Omega.{arith}
use mathlib.Core.Path.{refl, ◌∙◌}
use Rattle.images.proofs.SetLaws.{spread-first, spread_none}
use borrow.Author.Rules.{rules}
use Rattle.images.proofs.sets.spread_first.Statement.{statement}
use Rattle.images.proofs.sets.spread_first.Tie as tie

clear-requires : tie.Need-clear-requires
clear-requires c κs = search rules

mul-or-range : tie.Need-overflow_mul-n
mul-or-range c = search rules

or-range-requires : tie.Need-or_range-requires
or-range-requires c κs = search rules

any-requires : tie.Need-any-requires
any-requires c κs = search rules

spread-up-requires : tie.Need-spread_up-requires
spread-up-requires c κs = search rules

same_length : tie.Need-shape_of-one-then-any
same_length c = search rules

same-length-2 : tie.Need-shape_of-two
same-length-2 c = search rules

returns : tie.Need-returns-then-any
returns c =
    let up = c.before.before.before.before in
    let range = up.before.before.before.before.before.before.before in
    let clear = range.before.before.before.before in
    let s = clear.before.before.before.before.before.before in
    let a = s.args in
    let long = range.or_range.ensures.0 ∙ clear.clear.ensures.size in (
      spread-first a.clock.weight a.clock.values a.n a.low.now a.b.now a.one.now clear.clear.new.a range.or_range.new.dst s.requires.0.first
          clear.clear.ensures (range.or_range.ensures.1 (omega arith) (omega arith) (omega arith) (omega arith)) up.spread_up.new.a
          (up.spread_up.ensures.2 (omega (arith, long, s.requires.0.first, s.requires.0.second)) s.requires.1),
      up.spread_up.ensures.1,
    )

same-length-3 : tie.Need-shape_of-one-else-any
same-length-3 c = search rules

returns-2 : tie.Need-returns-else-any
returns-2 c =
    let range = c.before.before.before.before in
    let clear = range.before.before.before.before in
    let s = clear.before.before.before.before.before.before in
    let a = s.args in (
      spread_none a.clock.weight a.clock.values a.n a.low.now a.b.now a.one.now clear.clear.new.a range.or_range.new.dst s.requires.0.first
          clear.clear.ensures (range.or_range.ensures.1 (omega arith) (omega arith) (omega arith) (omega arith)) c.before.any.result c.before.any.ensures c.if-any.false,
      refl,
    )

pub spread_first_spec : {M : Type 1} → statement M
spread_first_spec =
    tie.close
    (tie.spec
    clear-requires
    mul-or-range
    or-range-requires
    any-requires
    spread-up-requires
    same_length
    same-length-2
    returns
    same-length-3
    returns-2)
