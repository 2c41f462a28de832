use Rattle.std.proofs.Common.{◌^◌, ◌<◌}
use Rattle.std.proofs.Math.Nat.{lt_of_lt_of_le, div-eq_of_lt}
use Rattle.std.proofs.Math.Pow.{pow_mono}
use borrow.Author.Tests.{le-ltb}
use Rattle.guard.proofs.has_bit.Goals as goal

-- a mask is a byte
pub returns-else-i-lt8 : goal.returns-else-i-lt8
returns-else-i-lt8 c =
    let h : c.args.mask < 2 ^ c.args.i = lt_of_lt_of_le c.ranges.mask.fits (pow_mono c.if-i-lt8.false) in
    rw (div-eq_of_lt h, le-ltb _ _ c.if-i-lt8.false)
