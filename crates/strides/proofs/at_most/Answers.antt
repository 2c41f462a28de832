use Rattle.std.proofs.Common.{arith}
use native.Mathlib.Nat.{mul-pos}
use Rattle.strides.proofs.Digits.{low_none, digits}
use Rattle.strides.proofs.at_most.Goals as goal

pub repeat-requires : goal.repeat-requires
repeat-requires c =
    let a = c.args in
    let low = rw c.min.ensures at c.below.ensures in
    (omega arith, omega arith, mul-pos c.if-w-gt0.true c.if-r-gt0.true, low_none a.a.now c.below.new.a c.below.new.a a.w a.r a.n c.if-w-gt0.true c.if-r-gt0.true low)

pub returns-then-r-gt0 : goal.returns-then-r-gt0
returns-then-r-gt0 c =
    let a = c.args in
    let low = rw c.min.ensures at c.below.ensures in
    (omega arith, omega arith, λ h l hw hr. digits a.a.now c.below.new.a c.repeat.new.a a.w a.r a.n hw hr low c.repeat.ensures)
