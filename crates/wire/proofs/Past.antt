-- Past the end of bytes all numbers are 0.
use Prim.Native.Nat.{ℕ, ◌+◌, ◌≤◌}
use native.Mathlib.Omega.{arith}
use mathlib.Core.Path.{◌≡◌}
use mathlib.Core.List.{List}
use lib.ListN.{length, get_or-eq_default}
use Rattle.model.specs.Bytes.{word_at, long_at}

pub word_past : (s : List ℕ) (at : ℕ) → length s ≤ at → word_at s at ≡ 0
word_past s at h =
    let next : length s ≤ at + 1 = omega arith in
    omega (arith, get_or-eq_default s 0 h, get_or-eq_default s 0 next)

pub long-past : (s : List ℕ) (at : ℕ) → length s ≤ at → long_at s at ≡ 0
long-past s at h = omega (arith, word_past s at h, word_past s (at + 2) (omega arith))
