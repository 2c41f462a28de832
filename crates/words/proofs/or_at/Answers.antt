use Rattle.words.proofs.Sets.{or_two}
use Rattle.words.proofs.or_at.Goals as goal

pub returns : goal.returns
returns c = or_two c.args.at c.args.x c.args.a.now c.or_word.new.a c.or_word-2.new.a c.ranges.x.fits c.or_word.ensures c.or_word-2.ensures
