use Rattle.words.specs.Words.{up}
use Rattle.shifts.proofs.Moved.{before-bits, before_none}
use Rattle.shifts.proofs.up.word_before.Goals as goal

pub returns-then-by-k : goal.returns-then-by-k
unfolding up
returns-then-by-k c = before-bits c.args.a.now c.args.k c.args.by c.word.result c.if-by-k.true c.word.ensures.0 c.word.ensures.1

pub returns-else-by-k : goal.returns-else-by-k
unfolding up
returns-else-by-k c = before_none c.args.a.now c.args.k c.args.by c.if-by-k.false
