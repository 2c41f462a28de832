-- Bytes and numbers: what stands at an offset, two-byte and four-byte numbers (big-endian), the bits of a mask, and lists made from a function of the index.
use Rattle.std.specs.Prelude.{ℕ, zero, suc, ◌+◌, ◌-◌, ◌*◌, ◌/◌, ◌%◌, ◌^◌, List, [], ◌∷◌, ◌++◌, Bool, eqb}
use lib.ListN.{get_or, replicate}

-- the byte at an offset, 0 past the end
abbrev pub byte_at : List ℕ → ℕ → ℕ
byte_at b i = get_or b i 0

-- "Multi-byte numbers are big-endian"
abbrev pub word_at : List ℕ → ℕ → ℕ
word_at b i = 256 * byte_at b i + byte_at b (i + 1)

abbrev pub word_bytes : ℕ → List ℕ
word_bytes n = n / 256 % 256 ∷ n % 256 ∷ []

-- four-byte numbers

abbrev pub long_at : List ℕ → ℕ → ℕ
long_at b i = 65536 * word_at b i + word_at b (i + 2)

abbrev pub long_bytes : ℕ → List ℕ
long_bytes n = n / 16777216 % 256 ∷ n / 65536 % 256 ∷ word_bytes n

-- "Bit 0 of a mask is number 0"
abbrev pub has_bit : ℕ → ℕ → Bool
has_bit mask i = eqb (mask / 2 ^ i % 2) 1

module _ {A : Type 0} where
  -- f 0, f 1, .. f (n - 1)
  unfoldable pub tab : (ℕ → A) → ℕ → List A
  tab f zero = []
  tab f (suc n) = tab f n ++ (f n ∷ [])

  -- f 0, f 1, .. f (n - 1), each a list, one behind the other
  unfoldable pub joined : (ℕ → List A) → ℕ → List A
  joined f zero = []
  joined f (suc n) = joined f n ++ f n

-- a list followed by zeros, size places in all
unfoldable pub padded : ℕ → List ℕ → List ℕ
padded size l = l ++ replicate (size - lib.ListN.length l) 0
