use Rattle.std.proofs.Common.{arith}
use Rattle.backward.proofs.PruneLaws.{pruned-last}
use Rattle.backward.proofs.prune.prune.Goals as goal

pub returns-clause-pruned : goal.returns-clause-pruned
returns-clause-pruned c set given long layers sized next row t early =
    let a = c.args in
    let first = pruned-last a.table.now a.offsets.now a.recording.now a.g set layers next row sized (c.forget.ensures.1 _ _).1 given.ready.wide c.load.ensures in
    (c.loop-t.invariant set given (rw (c.from-cursor.ensures, c.word.ensures.0) first)).from t (omega arith) early
