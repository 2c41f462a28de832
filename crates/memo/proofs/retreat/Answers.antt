use Prim.Native.Nat.{ℕ, ◌+◌}
use lib.ListN.{length}
use mathlib.Core.Path.{◌≡◌, refl, sym, subst, ◌∙◌}
use Rattle.memo.specs.Known.{Stands}
use Rattle.memo.proofs.Entries.{recalled_back, kept_back, begun_changed, begun_tagged, begun_first, begun_second}
use Rattle.memo.proofs.retreat.Goals as goal

pub returns-then-holds : goal.returns-then-holds
returns-then-holds c =
    let a = c.args in
    let same = c.is_for.ensures c.if-is_for.true in
    let one : length a.next.now ≡ length a.row.now = c.if-next-n.true in (
      c.get.ensures.0,
      refl,
      refl,
      refl,
      refl,
      λ m n given within long sized known. (
        recalled_back m c.in-Some.at c.tag_of-tag.result a.heard c.tag_of-tag.ensures a.memo.now a.next.now a.row.now c.get.new.s one c.get.ensures.0 c.in-Some.ensures n
            within.words same.0 same.1
            (subst (λ (k : ℕ). Stands a.memo.now (c.in-Some.at + 1 + k) a.row.now) (sym one) (c.holds.ensures c.if-holds.true))
            c.get.ensures.1 known,
        known,
      ),
    )

pub returns-else-is_for : goal.returns-else-is_for
returns-else-is_for c =
    let a = c.args in
    let n = length a.row.now in
    let tag = c.tag_of-tag.result in
    let to = c.retreat.ensures in
    let b = c.begin.ensures in
    let p = c.put.ensures in
    let one : length a.next.now ≡ length a.row.now = c.if-next-n.true in (
      to.0,
      to.1,
      to.2,
      to.3,
      c.put-in-Some.ensures.0.size ∙ p.0.size ∙ b.0.size,
      λ m k given within long sized known.
          let is = to.4 m k given within sized in (
            is,
            kept_back m c.in-Some.at tag a.heard c.tag_of-tag.ensures a.memo.now a.next.now a.row.now c.retreat.new.row one to.0 c.in-Some.ensures c.put.new.memo c.put-in-Some.new.memo
                (begun_changed _ n tag _ _ _ _ _ one b.0 b.1 b.2 p.0 p.1)
                (begun_tagged _ n tag _ _ _ _ _ one b.0 b.1 b.2 p.0 p.1)
                (begun_first _ n tag _ _ _ _ _ one b.0 b.1 b.2 p.0 p.1)
                (begun_second _ n tag _ _ _ _ _ one b.0 b.1 b.2 p.0 p.1)
                c.put-in-Some.ensures.0 c.put-in-Some.ensures.1 k within.words is known,
          ),
    )
