use Rattle.std.proofs.Common.{◌≡◌, ◌+◌, ◌*◌, ◌/◌, ◌%◌, arith}
use Rattle.words.specs.Words.{Joined, up, below, meet}
use Rattle.words.proofs.Sets.{range_none, range_more}
use Rattle.ranges.proofs.or_slow.Goals as goal

pub loop-k-init : goal.loop-k-init
loop-k-init c = range_none _ _ _ _ _ _

pub loop-k-preserved : goal.loop-k-preserved
loop-k-preserved c =
    let a = c.args in
    range_more a.d a.s a.m a.src.now a.mask.now (64 * c.loop-k.k) 64 (64 * (c.loop-k.k + 1)) (omega arith) a.dst.now c.loop-k.dst c.or_rest.new.dst c.loop-k.invariant c.or_rest.ensures

pub returns : goal.returns
returns c =
    let a = c.args in
    let e : c.loop-k.k ≡ a.len / 64 = omega arith in
    let whole : Joined (up a.d (below (64 * (a.len / 64)) (meet a.src.now a.s a.mask.now a.m))) a.dst.now c.loop-k.dst = rw e at c.loop-k.invariant in
    range_more a.d a.s a.m a.src.now a.mask.now (64 * (a.len / 64)) (a.len % 64) a.len (omega arith) a.dst.now c.loop-k.dst c.or_rest-2.new.dst whole c.or_rest-2.ensures
