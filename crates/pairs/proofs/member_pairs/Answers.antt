use Rattle.std.proofs.Common.{sym}
use Rattle.pairs.proofs.PairCounts.{no_answers}
use Rattle.pairs.proofs.member_pairs.Goals as goal

pub returns-then-not-has : goal.returns-then-not-has
returns-then-not-has c = no_answers (λ x j. simp (sym c.has.ensures, c.if-not-has.true)) c.default.ensures
