use Rattle.std.proofs.Common.{◌+◌, ◌*◌, arith}
use Rattle.words.specs.Words.{meet}
use Rattle.words.proofs.Sets.{range_none, range_more, or_aligned, meet-bits}
use Rattle.ranges.proofs.or_words.Goals as goal

pub loop-j-init : goal.loop-j-init
loop-j-init c = range_none _ _ _ _ _ _

pub loop-j-preserved : goal.loop-j-preserved
loop-j-preserved c =
    let a = c.args in
    let j = c.loop-j.j in
    let s = 64 * a.p + a.r in
    let m = 64 * a.q + a.t in
    let x = c.pair in
    let y = c.pair-in-loop-j in
    range_more (64 * a.k) s m a.src.now a.mask.now (64 * j) 64 (64 * (j + 1)) (omega arith) a.dst.now c.loop-j.dst _ c.loop-j.invariant
    (or_aligned c.loop-j.dst (a.k + j) (64 * a.k + 64 * j) _ (meet a.src.now (s + 64 * j) a.mask.now (m + 64 * j)) (omega arith) (omega arith)
    (meet-bits a.src.now a.mask.now (64 * (a.p + j) + a.r) (s + 64 * j) (64 * (a.q + j) + a.t) (m + 64 * j) x.result y.result (omega arith) (omega arith) x.ensures y.ensures))
