-- A set of numbers in words: number i is bit i % 64 of word i / 64.
use Rattle.std.specs.Prelude.{ℕ, zero, suc, ◌+◌, ◌-◌, ◌*◌, ◌/◌, ◌%◌, ◌^◌, ◌<◌, ◌≤◌, ◌≡◌, List, Bool, false, ◌&&◌, ◌||◌, length, get_or, eqb, leb, ltb}

unfoldable pub bit : ℕ → ℕ → Bool
bit x j = eqb (x / 2 ^ j % 2) 1

unfoldable pub mem : List ℕ → ℕ → Bool
mem s i = bit (get_or s (i / 64) 0) (i % 64)

-- the bits of r are the w numbers of p from 0 on
pub record Bits (w : ℕ) (p : ℕ → Bool) (r : ℕ) : Type 0 where
  pub bits : (j : ℕ) → bit r j ≡ (ltb j w && p j)

-- a set before and after the numbers that p has are put in
pub record Joined (p : ℕ → Bool) (before after : List ℕ) : Type 0 where
  pub size : length after ≡ length before
  pub all : (i : ℕ) → i < 64 * length before → mem after i ≡ (mem before i || p i)

-- the numbers of p, moved up by d
unfoldable pub up : ℕ → (ℕ → Bool) → ℕ → Bool
up d p i = leb d i && p (i - d)

-- the numbers of p below n
unfoldable pub below : ℕ → (ℕ → Bool) → ℕ → Bool
below n p i = ltb i n && p i

-- some number below n passes
unfoldable pub any_below : (ℕ → Bool) → ℕ → Bool
any_below p zero = false
any_below p (suc n) = any_below p n || p n

-- the numbers of a and of b, each from a place on
unfoldable pub meet : List ℕ → ℕ → List ℕ → ℕ → ℕ → Bool
meet a s b m i = mem a (s + i) && mem b (m + i)

-- a set that is p up to its end
pub record Is (p : ℕ → Bool) (before after : List ℕ) : Type 0 where
  pub size : length after ≡ length before
  pub all : (i : ℕ) → i < 64 * length before → mem after i ≡ p i

-- .. below word w only, and as it was from there on
pub record Part (p : ℕ → Bool) (w : ℕ) (before after : List ℕ) : Type 0 where
  pub size : length after ≡ length before
  pub done : (i : ℕ) → i < 64 * w → mem after i ≡ p i
  pub rest : (i : ℕ) → 64 * w ≤ i → mem after i ≡ mem before i

-- a set that is p below word w
pub record Upto (p : ℕ → Bool) (w : ℕ) (s : List ℕ) : Type 0 where
  pub all : (i : ℕ) → i < 64 * w → mem s i ≡ p i
