use mathlib.Core.Path.{refl}
use Prim.Native.Nat.{◌*◌}
use Rattle.words.specs.Words.{up, below}
use Rattle.firings.specs.Folded.{set_at, spread_by}
use Rattle.images.proofs.UnsetLaws.{worth_some, worth_none}
use borrow.Author.Rules.{rules}
use Rattle.images.proofs.back.unset_both.Statement.{statement}
use Rattle.images.proofs.back.unset_both.Tie as tie

unreset-both-requires : tie.Need-unreset_both-requires
unreset-both-requires c κs = search rules

same_length : tie.Need-shape_of-sets
same_length c = search rules

same-length-2 : tie.Need-shape_of-one
same-length-2 c = search rules

same-length-3 : tie.Need-shape_of-two
same-length-3 c = search rules

returns : tie.Need-returns-then-worth
returns c =
    let put = c.before.before.before.before.before.before in
    let a = put.before.before.before.before.before.before.before.before.before.before.args in (
      worth_some a.worth (up (64 * a.n * 3) (below (64 * a.n)
          (spread_by a.first.weight a.first.values a.n a.low_first.now (spread_by a.second.weight a.second.values a.n a.low_second.now (set_at a.sets.now a.n 0)))))
          a.sets.now put.unreset_both.new.b put.before.before.before.before.if-worth.true put.unreset_both.ensures.0,
      put.unreset_both.ensures.1,
      put.unreset_both.ensures.2,
    )

returns-2 : tie.Need-returns-else-worth
returns-2 c =
    let a = c.before.before.before.before.before.before.args in (
      worth_none a.worth (up (64 * a.n * 3) (below (64 * a.n)
          (spread_by a.first.weight a.first.values a.n a.low_first.now (spread_by a.second.weight a.second.values a.n a.low_second.now (set_at a.sets.now a.n 0)))))
          a.sets.now c.if-worth.false,
      refl,
      refl,
    )

pub unset_both_spec : {M : Type 1} → statement M
unset_both_spec =
    tie.close
    (tie.spec unreset-both-requires same_length same-length-2 same-length-3 returns returns-2)
