use Rattle.words.specs.Words.{mem}
use Rattle.shifts.specs.Shifted.{moved}
use Rattle.shifts.proofs.Moved.{kept-bits}
use Rattle.shifts.proofs.way.shifted_word.Goals as goal

pub returns : goal.returns
returns g c =
    let a = c.args in
    let z = c.read.ensures in
    let x = c.read-2.ensures in
    kept-bits (moved g.W.Way.moves a.k (mem a.src.now)) a.src.now a.keep.now a.cut.now a.w _ _ _ _ c.moved_word.ensures z.0 x.0 c.read-3.ensures.0 z.1 x.1
