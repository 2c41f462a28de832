use Rattle.std.proofs.Common.{arith, rules}
use Rattle.words.specs.Words.{mem}
use Rattle.shifts.specs.Shifted.{moved, cut_and_kept}
use Rattle.shifts.proofs.way.shift.Goals as goal

pub fill_within-requires-clause-fast : goal.fill_within-requires-clause-fast
fill_within-requires-clause-fast g c = λ w from to small. let h = c.inner-inner.ensures w from (omega arith) in search rules

pub returns : goal.returns
returns g c =
    let a = c.args in
    c.fill_within.ensures (cut_and_kept (moved g.W.Way.moves a.k (mem a.src.now)) a.src.now a.keep.now a.cut.now) (λ w x from to h. search rules) (λ w x from to h. search rules)
