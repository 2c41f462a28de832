use Rattle.words.proofs.Sets.{or_here}
use Rattle.words.proofs.or_word.Goals as goal

pub returns-then-k-a : goal.returns-then-k-a
returns-then-k-a c = or_here c.args.a.now c.args.k c.args.x c.if-k-a.true
