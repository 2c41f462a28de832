use mathlib.Core.Path.{refl}
use Prim.Native.Nat.{◌*◌}
use Rattle.words.specs.Words.{up, below}
use Rattle.firings.specs.Folded.{set_at, spread_by}
use Rattle.images.proofs.UnsetLaws.{worth_some, worth_none}
use borrow.Author.Rules.{rules}
use Rattle.images.proofs.back.unset_one.Statement.{statement}
use Rattle.images.proofs.back.unset_one.Tie as tie

unreset-one-requires : tie.Need-unreset_one-requires
unreset-one-requires c κs = search rules

same_length : tie.Need-shape_of-sets
same_length c = search rules

same-length-2 : tie.Need-shape_of-one
same-length-2 c = search rules

same-length-3 : tie.Need-shape_of-two
same-length-3 c = search rules

returns : tie.Need-returns-then-worth
returns c =
    let put = c.before.before.before.before.before.before in
    let a = put.before.before.before.before.before.before.before.before.before.args in
    (worth_some a.worth (up (64 * a.n * a.r) (below (64 * a.n) (spread_by a.clock.weight a.clock.values a.n a.low.now (set_at a.sets.now a.n 0)))) a.sets.now put.unreset_one.new.b put.before.before.before.before.if-worth.true put.unreset_one.ensures.0, put.unreset_one.ensures.1, put.unreset_one.ensures.2)

returns-2 : tie.Need-returns-else-worth
returns-2 c =
    let a = c.before.before.before.before.before.args in
    (worth_none a.worth (up (64 * a.n * a.r) (below (64 * a.n) (spread_by a.clock.weight a.clock.values a.n a.low.now (set_at a.sets.now a.n 0)))) a.sets.now c.if-worth.false, refl, refl)

pub unset_one_spec : {M : Type 1} → statement M
unset_one_spec =
    tie.close
    (tie.spec unreset-one-requires same_length same-length-2 same-length-3 returns returns-2)
