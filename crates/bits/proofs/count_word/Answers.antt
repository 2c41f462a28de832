use Rattle.std.proofs.Common.{◌∙◌}
use Rattle.bits.proofs.Words.{word_tally}
use Rattle.bits.proofs.count_word.Goals as goal

pub returns : goal.returns
returns c = c.from.ensures ∙ word_tally c.args.s.now c.args.k c.word.result c.word.ensures
