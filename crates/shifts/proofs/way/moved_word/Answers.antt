use Rattle.words.specs.Words.{mem}
use Rattle.shifts.proofs.way.moved_word.Goals as goal

pub returns-then-this-ne0 : goal.returns-then-this-ne0
returns-then-this-ne0 g c = c.join.ensures (mem c.args.a.now) c.args.w c.word_off.ensures c.word_off-then-this-ne0.ensures

pub returns-else-this-ne0 : goal.returns-else-this-ne0
returns-else-this-ne0 g c = c.join-else-this-ne0.ensures (mem c.args.a.now) c.args.w c.word_there.ensures c.word_there-else-this-ne0.ensures
