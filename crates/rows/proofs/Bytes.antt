-- Sets in words and in bytes. Assumes nothing.
use mathlib.Core.Path.{◌≡◌, refl, ap, ◌∙◌}
use mathlib.Core.Bool.{Bool, ◌&&◌}
use mathlib.Core.List.{List}
use Prim.Native.Nat.{ℕ, ◌+◌, ◌*◌, ◌/◌, ◌%◌, ◌^◌, ◌-◌, ◌≤◌, ◌<◌}
use native.Mathlib.Decide.{dec_lt}
use native.Mathlib.Omega.{arith}
use borrow.Author.Tests.{lt-ltb, le-ltb}
use lib.Dec.{ltb}
use lib.ListN.{length, get_or, take, set}
use lib.Seq.{get_or-set_same, get_or-set_other}
use borrow.Author.Count.{below_more}
use borrow.Rule.Slice.PartMut.{put_mid}
use Rattle.std.specs.Int.{w64, to_le_bytes}
use Rattle.std.proofs.lemmas.List.{length-take-le, get_or-take, get_or_append_left, get_or-append_right}
use Rattle.bits.specs.Member as bytes
use Rattle.bits.specs.Words.{WordOf}
use Rattle.words.specs.Words.{bit, mem, Bits}
use Rattle.rows.specs.Bytes.{Is8}
use Rattle.words.proofs.Bit.{bit_past, bit_shr, bit_mod}
use Rattle.words.proofs.Sets.{mem_at}

-- a bit of a byte is a bit of a number
byte_bit : (s : List ℕ) (i : ℕ) → bytes.mem s i ≡ bit (get_or s (i / 8) 0) (i % 8)
unfolding bytes.mem bit
byte_bit s i = refl

-- byte b of a set in words
abbrev pub byte_of : List ℕ → ℕ → ℕ
byte_of s b = get_or s (b / 8) 0 / 2 ^ (8 * (b % 8)) % 2 ^ 8

byte_of_bit : (s : List ℕ) (b j : ℕ) → j < 8 → bit (byte_of s b) j ≡ mem s (8 * b + j)
byte_of_bit s b j h =
    bit_mod (get_or s (b / 8) 0 / 2 ^ (8 * (b % 8))) 8 j
    ∙ ap (λ (t : Bool). ltb j 8 && t) (bit_shr (get_or s (b / 8) 0) (8 * (b % 8)) j)
    ∙ simp (lt-ltb j 8 h, mem_at s (8 * b + j) (b / 8) (8 * (b % 8) + j) (omega arith) (omega arith))

-- a row is known by its bytes
pub row_by_bytes : (s before row : List ℕ) → length row ≡ length before → ((b : ℕ) → b < length before → get_or row b 0 ≡ byte_of s b) → Is8 (mem s) before row
row_by_bytes s before row e h =
    record {
      size = e;
      all =
          λ i l. let at : 8 * (i / 8) + i % 8 ≡ i = omega arith in
          byte_bit row i ∙ ap (λ (x : ℕ). bit x (i % 8)) (h (i / 8) (omega arith)) ∙ byte_of_bit s (i / 8) (i % 8) (omega arith) ∙ ap (mem s) at;
    }

-- the bytes of a word as the library writes them
written : (x t : ℕ) → t < 8 → get_or (to_le_bytes w64 x) t 0 ≡ x / 2 ^ (8 * t) % 2 ^ 8
written x t h = grind arith

module _ (s row ys : List ℕ) where
  byte_written : (b : ℕ) → ys ≡ to_le_bytes w64 (get_or s (b / 8) 0) → get_or ys (b % 8) 0 ≡ byte_of s b
  byte_written b e = ap (λ (t : List ℕ). get_or t (b % 8) 0) e ∙ written (get_or s (b / 8) 0) (b % 8) (omega arith)

  -- one word more is written
  module _ (k n : ℕ) (e : ys ≡ to_le_bytes w64 (get_or s k 0)) (h : 8 * k + 8 ≤ length row) (done : (b : ℕ) → b < 8 * k → get_or row b 0 ≡ byte_of s b) where
    front : length (take (8 * k) row) ≡ 8 * k
    front = length-take-le (8 * k) row (omega arith)

    more_by : (b : ℕ) → b < 8 * (k + 1) → Dec (b < 8 * k) → get_or (put_mid (8 * k) n row ys) b 0 ≡ byte_of s b
    more_by b l (yes d) = get_or_append_left (take (8 * k) row) _ 0 b (omega (arith, front)) ∙ get_or-take (8 * k) row b 0 d ∙ done b d
    more_by b l (no d) =
        let word : k ≡ b / 8 = omega arith in
        let place : b - 8 * k ≡ b % 8 = omega arith in
        get_or-append_right (take (8 * k) row) _ (8 * k) b 0 front (omega arith)
        ∙ get_or_append_left ys _ 0 (b - 8 * k) (omega (arith, ap length e))
        ∙ ap (λ (t : ℕ). get_or ys t 0) place
        ∙ byte_written b (e ∙ ap (λ (i : ℕ). to_le_bytes w64 (get_or s i 0)) word)

    pub word_more : (b : ℕ) → b < 8 * (k + 1) → get_or (put_mid (8 * k) n row ys) b 0 ≡ byte_of s b
    word_more b l = more_by b l (dec_lt b (8 * k))

  -- one byte more
  pub byte_more : (w : ℕ) → ys ≡ to_le_bytes w64 (get_or s (w / 8) 0) → w < length row → ((b : ℕ) → b < w → get_or row b 0 ≡ byte_of s b) → (b : ℕ) → b < w + 1
      → get_or (set row w (get_or ys (w % 8) 0)) b 0 ≡ byte_of s b
  byte_more w e l done =
      below_more (λ b. get_or (set row w (get_or ys (w % 8) 0)) b 0 ≡ byte_of s b) w
      (λ b h. get_or-set_other row w b (get_or ys (w % 8) 0) 0 (λ q. omega arith) ∙ done b h)
      (get_or-set_same row w (get_or ys (w % 8) 0) 0 l ∙ byte_written w e)

-- a word read from a row
pub word_read : (row : List ℕ) (k x : ℕ) → WordOf row k x → Bits 64 (λ j. bytes.mem row (64 * k + j)) x
unfolding bit
word_read row k x w = record { bits = λ j. by j (dec_lt j 64) }
  where
    by : (j : ℕ) → Dec (j < 64) → bit x j ≡ (ltb j 64 && bytes.mem row (64 * k + j))
    by j (yes h) = w.bits j h ∙ simp (lt-ltb j 64 h)
    by j (no h) = bit_past 64 x j w.fits (omega arith) ∙ simp (le-ltb j 64 (omega arith))
