-- The words that an instant is worked out in.
use Rattle.std.specs.Prelude.{ℕ, ◌*◌, ◌≤◌, ◌<◌, ◌≡◌, List, length}
use Rattle.situation.specs.declared.Shape.{Shape}

-- four sets of n words, and two of one set
pub record Sized (n : ℕ) (b one two : List ℕ) : Type 0 where
  pub few : n ≤ 1024
  pub four : length b ≡ 4 * n
  pub first : length one ≡ n
  pub second : length two ≡ n

-- a buffer of which only the length is told
abbrev pub Kept : (before after : List ℕ) → Type 0
Kept before after = length after ≡ length before

-- lengths of marks, of four sets and of two single ones, for sets of n words and a table whose clocks have values
pub record Lengths (n size marks four one two : ℕ) (h : Shape) : Type 0 where
  pub few : n ≤ 1024
  pub narrow : size ≤ 65536
  pub marked : 4 * n ≤ marks
  pub sets : four ≡ 4 * n
  pub single : one ≡ n
  pub spare : two ≡ n
  pub first : 0 < h.first
  pub second : 0 < h.second
