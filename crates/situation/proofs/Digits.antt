-- The size of a number made of a digit and what stands above it.
use Prim.Native.Nat.{ℕ, ◌+◌, ◌*◌, ◌<◌}
use native.Mathlib.Omega.{arith}
use native.Mathlib.Nat.{mul-le-mul_left, mul_comm}
use lib.Arith.{digits_lt}

-- a digit and a radix below R, and above them a number below Q
pub below : (R Q d r q : ℕ) → d < R → r < R → q < Q → d + r * q < Q * R
below R Q d r q hd hr hq = omega (arith, digits_lt hq hd, mul-le-mul_left {m = r} {n = R} q (omega arith), mul_comm r q)
