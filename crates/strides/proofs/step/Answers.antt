use Rattle.std.proofs.Common.{rules}
use Rattle.words.specs.Words.{mem}
use Rattle.strides.specs.Strides.{with_moved}
use Rattle.strides.proofs.Moves.{is-is}
use Rattle.strides.proofs.step.Goals as goal

pub fill_within-requires-clause-fast : goal.fill_within-requires-clause-fast
fill_within-requires-clause-fast g c = λ w from to small. let h = c.inner.ensures w from to in search rules

pub returns : goal.returns
returns g c =
    let p = with_moved g.W.Way.moves c.args.k (mem c.args.a.now) in
    is-is p c.args.spare.now c.fill_within.new.dst c.args.a.now c.copy.new.dst (c.fill_within.ensures p (λ w x from to h. search rules) (λ w x from to h. search rules)) c.requires c.copy.ensures
