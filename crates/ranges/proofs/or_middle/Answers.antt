use Rattle.std.proofs.Common.{◌+◌, ◌-◌, ◌*◌, ◌/◌, ◌%◌, arith}
use Rattle.words.proofs.Sets.{range_more, moved}
use Rattle.ranges.proofs.or_middle.Goals as goal

pub returns : goal.returns
returns c =
    let a = c.args in
    let n = c.min-n.result in
    range_more a.d a.s a.m a.src.now a.mask.now (64 * n) (a.len - 64 * n) a.len (omega arith) a.dst.now c.or_words.new.dst c.or_slow.new.dst
    (moved (64 * (a.d / 64)) a.d (64 * (a.s / 64) + a.s % 64) a.s (64 * (a.m / 64) + a.m % 64) a.m (64 * n) a.src.now a.mask.now a.dst.now c.or_words.new.dst
    (omega arith) (omega arith) (omega arith) c.or_words.ensures)
    c.or_slow.ensures
