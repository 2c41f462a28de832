use mathlib.Core.Path.{◌∙◌}
use Rattle.images.proofs.UnsetLaws.{unset_all}
use borrow.Author.Rules.{rules}
use Rattle.images.proofs.back.unset.Statement.{statement}
use Rattle.images.proofs.back.unset.Tie as tie

has-requires : tie.Need-has-requires
has-requires c κs = search rules

unset-one-requires : tie.Need-unset_one-requires
unset-one-requires c κs = search rules

has-requires-2 : tie.Need-has-requires-2
has-requires-2 c κs = search rules

unset-one-requires-2 : tie.Need-unset_one-requires-2
unset-one-requires-2 c κs = search rules

has-requires-3 : tie.Need-has-requires-3
has-requires-3 c κs = search rules

unset-both-requires : tie.Need-unset_both-requires
unset-both-requires c κs =
    let two = c.before.before.before.before.before.before.before.before.before.before in
    let one = two.before.before.before.before.before.before.before.before.before.before.before in
    let s = one.before.before.before.before.before.before.before.before.before.before in (
      record {
        few = s.requires.0.few;
        four = two.unset_one-2.ensures.0.size ∙ one.unset_one.ensures.0.size ∙ s.requires.0.four;
        first = two.unset_one-2.ensures.1 ∙ one.unset_one.ensures.1 ∙ s.requires.0.first;
        second = two.unset_one-2.ensures.2 ∙ one.unset_one.ensures.2 ∙ s.requires.0.second;
      },
      s.requires.1,
      s.requires.2,
    )

same_length : tie.Need-shape_of-sets
same_length c = search rules

same-length-2 : tie.Need-shape_of-one
same-length-2 c = search rules

same-length-3 : tie.Need-shape_of-two
same-length-3 c = search rules

returns : tie.Need-returns
returns c =
    let three = c.before.before.before.before.before.before in
    let two = three.before.before.before.before.before.before.before.before.before.before.before in
    let one = two.before.before.before.before.before.before.before.before.before.before.before in
    let s = one.before.before.before.before.before.before.before.before.before.before in
    let a = s.args in (
      unset_all a.n a.first.weight a.first.values a.second.weight a.second.values a.low_first.now a.low_second.now
          a.sets.now one.unset_one.new.sets two.unset_one-2.new.sets three.unset_both.new.sets
          one.before.before.before.before.has.result two.before.before.before.before.has-2.result three.before.before.before.before.has-3.result s.requires.0.four
          one.unset_one.ensures.0 two.unset_one-2.ensures.0 three.unset_both.ensures.0
          a.worth one.before.before.before.before.has.ensures two.before.before.before.before.has-2.ensures three.before.before.before.before.has-3.ensures,
      three.unset_both.ensures.1 ∙ two.unset_one-2.ensures.1 ∙ one.unset_one.ensures.1,
      three.unset_both.ensures.2 ∙ two.unset_one-2.ensures.2 ∙ one.unset_one.ensures.2,
    )

pub unset_spec : {M : Type 1} → statement M
unset_spec =
    tie.close
    (tie.spec
    has-requires
    unset-one-requires
    has-requires-2
    unset-one-requires-2
    has-requires-3
    unset-both-requires
    same_length
    same-length-2
    same-length-3
    returns)
