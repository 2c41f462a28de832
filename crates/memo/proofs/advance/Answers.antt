use mathlib.Core.Path.{refl, ◌∙◌}
use Rattle.memo.proofs.Entries.{recalled, kept}
use Rattle.memo.proofs.advance.Goals as goal

pub returns-then-is_for : goal.returns-then-is_for
returns-then-is_for c =
    let a = c.args in
    let same = c.is_for.ensures c.if-is_for.true in (
      c.get.ensures.0,
      refl,
      refl,
      refl,
      refl,
      λ m n given within sized known. (
        recalled m c.in-Some.at c.tag_of-tag.result a.heard c.tag_of-tag.ensures a.memo.now a.cur.now c.get.new.s c.get.ensures.0 c.in-Some.ensures n within.words same.0
            same.1 c.get.ensures.1 known,
        known,
      ),
    )

pub returns : goal.returns
returns c =
    let a = c.args in
    let to = c.advance-2.ensures in (
      to.0,
      to.1,
      to.2,
      to.3,
      c.put.ensures.0.size ∙ c.begin.ensures.0.size,
      λ m n given within sized known.
          let is = to.4 m n given within sized in (
            is,
            kept m c.in-Some.at c.tag_of-tag.result a.heard c.tag_of-tag.ensures a.memo.now a.cur.now c.advance-2.new.cur to.0 c.in-Some.ensures c.begin.new.memo c.put.new.memo
                c.begin.ensures.0 c.begin.ensures.1 c.begin.ensures.2 c.put.ensures.0 c.put.ensures.1 n within.words is known,
          ),
    )
