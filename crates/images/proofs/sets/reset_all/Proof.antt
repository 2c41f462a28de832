use mathlib.Core.Path.{◌∙◌}
use Rattle.images.proofs.SetLaws.{reset_by}
use borrow.Author.Rules.{rules}
use Rattle.images.proofs.sets.reset_all.Statement.{statement}
use Rattle.images.proofs.sets.reset_all.Tie as tie

fold-requires : tie.Need-fold-requires
fold-requires c κs = search rules

fold-requires-2 : tie.Need-fold-requires-2
fold-requires-2 c κs = search rules

fold-requires-3 : tie.Need-fold-requires-3
fold-requires-3 c κs = search rules

same_length : tie.Need-shape_of-b
same_length c = search rules

same-length-2 : tie.Need-shape_of-one
same-length-2 c = search rules

same-length-3 : tie.Need-shape_of-two
same-length-3 c = search rules

returns : tie.Need-returns
returns c =
    let third = c.before.before.before.before.before.before in
    let second = third.before.before.before.before.before.before.before.before.before.before in
    let first = second.before.before.before.before.before.before.before.before.before.before in
    let s = first.before.before.before.before.before.before.before.before.before in
    let a = s.args in (
      third.fold-3.ensures.0.size ∙ second.fold-2.ensures.0.size ∙ first.fold.ensures.0.size,
      reset_by a.n a.first.weight a.second.weight a.first.values a.second.values a.low_first.now a.low_second.now a.b.now first.fold.new.b second.fold-2.new.b third.fold-3.new.b s.requires.0.four s.requires.1 s.requires.2
          first.fold.ensures.0 second.fold-2.ensures.0 third.fold-3.ensures.0,
      third.fold-3.ensures.1 ∙ second.fold-2.ensures.1 ∙ first.fold.ensures.1,
      third.fold-3.ensures.2 ∙ second.fold-2.ensures.2 ∙ first.fold.ensures.2,
    )

pub reset_all_spec : {M : Type 1} → statement M
reset_all_spec =
    tie.close
    (tie.spec
    fold-requires
    fold-requires-2
    fold-requires-3
    same_length
    same-length-2
    same-length-3
    returns)
