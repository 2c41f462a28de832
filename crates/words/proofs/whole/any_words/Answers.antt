use Rattle.std.proofs.Common.{◌∙◌}
use Rattle.std.proofs.lemmas.List.{take_rest}
use Rattle.words.proofs.AnyBelow.{any_part}
use Rattle.words.proofs.whole.any_words.Goals as goal

pub returns : goal.returns
returns c = c.any.ensures ∙ any_part c.args.a.now _ c.args.k c.args.n c.min.result c.min-2.result (take_rest c.args.a.now c.min.result) c.min.ensures c.min-2.ensures
