-- How many numbers are in a set.
use Rattle.std.specs.Prelude.{◌≡◌, ℕ, zero, suc, ◌+◌, ◌*◌, ◌%◌, ◌^◌, ◌≤◌, Bool, cond, List, length}
use Rattle.bits.specs.Member.{mem}

-- how many numbers below n pass
unfoldable pub tally : (ℕ → Bool) → ℕ → ℕ
tally p zero = 0
tally p (suc n) = cond (p n) 1 0 + tally p n

-- how many bits of the bytes are set
abbrev pub population : List ℕ → ℕ
population s = tally (mem s) (8 * length s)

-- r is the count of a set: "For a byte slice of any length up to 8,192, the largest S, the count is proved to be the number of its bits that are set".
-- Of any length it is that number modulo 2 ^ 64: a set of 2 ^ 61 bytes or more can have too many for a u64.
pub record Counted (s : List ℕ) (r : ℕ) : Type 0 where
  pub exact : length s ≤ 8192 → r ≡ population s
  pub wrapped : r ≡ population s % 2 ^ 64
