use Rattle.words.proofs.Sets.{word_bits}
use Rattle.words.proofs.word_at.Goals as goal

pub returns : goal.returns
returns c = word_bits c.args.a.now c.args.at c.word.result c.word-2.result c.word.ensures.0 c.word-2.ensures.0 c.word.ensures.1
