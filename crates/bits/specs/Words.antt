-- A set of numbers as words of 64: word k has the numbers from 64 * k on.
use Rattle.std.specs.Prelude.{◌≡◌, ℕ, ◌+◌, ◌*◌, ◌^◌, ◌<◌, Bool, List}
use Rattle.bits.specs.Member.{bit, mem}

-- the set has number j of word k
abbrev pub in_word : List ℕ → ℕ → ℕ → Bool
in_word s k j = mem s (64 * k + j)

-- r is word k of a set: its bits are the numbers of that word
pub record WordOf (s : List ℕ) (k r : ℕ) : Type 0 where
  pub fits : r < 2 ^ 64
  pub bits : (j : ℕ) → j < 64 → bit r j ≡ in_word s k j
