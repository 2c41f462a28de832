use native.Mathlib.Omega.{arith}
use Rattle.images.proofs.SetLaws.{spread-again}
use borrow.Author.Rules.{rules}
use Rattle.images.proofs.sets.spread_again.Statement.{statement}
use Rattle.images.proofs.sets.spread_again.Tie as tie

keep-common-requires : tie.Need-keep_common-requires
keep-common-requires c κs = search rules

spread-up-requires : tie.Need-spread_up-requires
spread-up-requires c κs = search rules

same_length : tie.Need-shape_of-one
same_length c = search rules

same-length-2 : tie.Need-shape_of-two
same-length-2 c = search rules

returns : tie.Need-returns
returns c =
    let up = c.before.before.before.before in
    let cut = up.before.before.before.before.before in
    let s = cut.before.before.before.before.before in
    let a = s.args in (
      spread-again a.clock.weight a.clock.values a.n a.low.now a.one.now cut.keep_common.new.a up.spread_up.new.a s.requires.0
          cut.keep_common.ensures (up.spread_up.ensures.2 (omega (arith, cut.keep_common.ensures.size, s.requires.0, s.requires.1)) s.requires.2),
      up.spread_up.ensures.1,
    )

pub spread_again_spec : {M : Type 1} → statement M
spread_again_spec =
    tie.close (tie.spec keep-common-requires spread-up-requires same_length same-length-2 returns)
