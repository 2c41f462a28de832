use Rattle.std.proofs.Common.{arith}
use Rattle.words.proofs.Sets.{fill_word}
use Rattle.shifts.proofs.fills.fill.Goals as goal

pub loop-w-preserved : goal.loop-w-preserved
loop-w-preserved g c =
    let w = c.loop-w.w in
    λ p gives start.
    record { all = fill_word p c.loop-w.dst w c.f.result (omega arith) (gives w c.f.result (omega arith) (omega arith) c.f.ensures) (c.loop-w.invariant p gives start).all }
