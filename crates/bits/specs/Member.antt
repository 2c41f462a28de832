-- A set of numbers in bytes: number i is bit i % 8 of byte i / 8.
use Rattle.std.specs.Prelude.{◌≡◌, ℕ, ◌*◌, ◌/◌, ◌%◌, ◌^◌, ◌<◌, ◌≤◌, Bool, true, List, length, ◌==◌, ◌≢◌, slice_index}

-- x has bit j
abbrev pub bit : ℕ → ℕ → Bool
bit x j = x / 2 ^ j % 2 == 1

unfoldable pub mem : List ℕ → ℕ → Bool
mem s i = bit (slice_index s (i / 8)) (i % 8)

-- a set before and after i is put in: i is there if there is a place for it, and no other number comes or goes
pub record PutIn (i : ℕ) (before after : List ℕ) : Type 0 where
  pub size : length after ≡ length before
  pub there : i < 8 * length before → mem after i ≡ true
  pub others : (k : ℕ) → (k ≢ i) → mem after k ≡ mem before k
  pub past : 8 * length before ≤ i → after ≡ before
