use Rattle.std.proofs.Common.{◌-◌, ◌%◌, arith}
use Rattle.words.proofs.Sets.{range_more}
use Rattle.ranges.proofs.or_long.Goals as goal

pub returns-else-len-lt256 : goal.returns-else-len-lt256
returns-else-len-lt256 c =
    let a = c.args in
    let h = (64 - a.d % 64) % 64 in
    range_more a.d a.s a.m a.src.now a.mask.now h (a.len - h) a.len (omega arith) a.dst.now c.or_rest.new.dst c.or_middle.new.dst c.or_rest.ensures c.or_middle.ensures
