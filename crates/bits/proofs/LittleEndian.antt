-- Bytes as one number: its bits, its size, and how it is read from its last byte on. Assumes nothing.
use Rattle.std.proofs.Common.{◌≡◌, ℕ, suc, ◌+◌, ◌-◌, ◌*◌, ◌/◌, ◌%◌, ◌^◌, ◌<◌, ◌≤◌, eqb, List, [], ◌∷◌, length, get_or, drop, sym, refl, ap, ◌∙◌, lt_of_lt_of_le, pow-suc, arith, drop-cons, reverse, bit_or}
use native.Mathlib.Nat.{pow-le-pow_right}
use native.Mathlib.Decide.{dec_lt}
use lib.Pow.{field, mod-mod-pow}
use Rattle.std.specs.List.{fold}
use Rattle.std.specs.Int.{w64, from_le_bytes}
use Rattle.std.proofs.lemmas.Grind.{reverse_onto, or_after_shift, fold-append}
use Rattle.std.proofs.lemmas.List.{drop_all}
use Rattle.bits.specs.Member.{bit, mem}
use Rattle.bits.specs.LittleEndian.{little_endian}
use Rattle.bits.proofs.Laws.{bit_zero, bit_shr, mem_at, mem-past, mem-drop}

-- each is below 256
abbrev pub AreBytes : List ℕ → Type 0
AreBytes s = (i : ℕ) → get_or s i 0 < 256

-- the bits of a byte with others above it: its own, and then the others'
module _ (b m : ℕ) (small : b < 256) where
  bit_low : (j : ℕ) → j < 8 → bit (b + 256 * m) j ≡ bit b j
  bit_low j h =
      let above : 8 ≡ 7 - j + 1 + j = omega arith in
      let cut : (b + 256 * m) % 2 ^ 8 ≡ b = omega arith in
      ap (λ (x : ℕ). eqb x 1)
      (sym (mod-mod-pow ((b + 256 * m) / 2 ^ j) (7 - j) 1)
      ∙ ap (λ (x : ℕ). x % 2) (sym (field (b + 256 * m) (7 - j + 1) j)))
      ∙ ap (λ (n : ℕ). eqb ((b + 256 * m) % 2 ^ n / 2 ^ j % 2) 1) (sym above)
      ∙ ap (λ (x : ℕ). bit x j) cut

  bit_high : (j : ℕ) → bit (b + 256 * m) (8 + j) ≡ bit m j
  bit_high j =
      let rest : (b + 256 * m) / 2 ^ 8 ≡ m = omega arith in
      sym (bit_shr (b + 256 * m) 8 j) ∙ ap (λ (x : ℕ). bit x j) rest

mem-first : (b : ℕ) (s : List ℕ) (j : ℕ) → j < 8 → mem (b ∷ s) j ≡ bit b j
mem-first b s j h = ap (mem (b ∷ s)) (omega arith) ∙ mem_at (b ∷ s) 0 j h

-- the bits of a number made of bytes are the set in them
pub little_endian_bits : (s : List ℕ) → AreBytes s → (j : ℕ) → bit (little_endian s) j ≡ mem s j
unfolding little_endian
little_endian_bits [] small j = bit_zero 0 j refl ∙ sym (mem-past [] j (omega arith))
little_endian_bits (b ∷ s) small j = on (little_endian_bits s (λ i. small (suc i))) (dec_lt j 8)
  where
    on : ((i : ℕ) → bit (little_endian s) i ≡ mem s i) → Dec (j < 8) → bit (b + 256 * little_endian s) j ≡ mem (b ∷ s) j
    on rest (yes h) = bit_low b (little_endian s) (small 0) j h ∙ sym (mem-first b s j h)
    on rest (no h) =
        let e : j ≡ 8 + (j - 8) = omega arith in
        ap (bit (b + 256 * little_endian s)) e
        ∙ bit_high b (little_endian s) (small 0) (j - 8)
        ∙ rest (j - 8)
        ∙ mem-drop (b ∷ s) 1 (j - 8)
        ∙ ap (mem (b ∷ s)) (sym e)

-- n bytes make a number below 256 ^ n
little_endian_power : (s : List ℕ) → AreBytes s → little_endian s < 256 ^ length s
unfolding little_endian
little_endian_power [] small = omega arith
little_endian_power (b ∷ s) small = omega (arith, small 0, pow-suc 256 (length s), little_endian_power s (λ i. small (suc i)))

pub little_endian_below : (s : List ℕ) (n : ℕ) → AreBytes s → length s ≤ n → little_endian s < 256 ^ n
little_endian_below s n small h = lt_of_lt_of_le (little_endian_power s small) (pow-le-pow_right (omega arith) h)

-- a number read from its last byte on
pub read_all : (s : List ℕ) → AreBytes s → length s ≤ 8 → fold (λ x b. bit_or (x * 2 ^ 8 % 2 ^ 64) b) 0 (reverse s) ≡ little_endian s
unfolding little_endian
read_all [] small few = refl
read_all (b ∷ s) small few =
    let read = λ (x y : ℕ). bit_or (x * 2 ^ 8 % 2 ^ 64) y in
    let rest : little_endian s < 256 ^ 7 = little_endian_below s 7 (λ i. small (suc i)) (omega arith) in
    ap (fold read 0) (reverse_onto s b [])
    ∙ fold-append read 0 (reverse s) (b ∷ [])
    ∙ ap (λ (x : ℕ). read x b) (read_all s (λ i. small (suc i)) (omega arith))
    ∙ or_after_shift (little_endian s) 256 (2 ^ 64) b refl (small 0) (omega arith)
    ∙ omega arith

-- eight bytes as the library reads them
pub from_bytes : (s : List ℕ) → length s ≡ 8 → from_le_bytes w64 s ≡ little_endian s
unfolding little_endian
from_bytes s long =
    let at : (j : ℕ) → j < 8 → little_endian (drop j s) ≡ get_or s j 0 + 256 * little_endian (drop (suc j) s) = λ j l. ap little_endian (drop-cons s j 0 (omega arith)) in
    let none : little_endian (drop 8 s) ≡ 0 = ap little_endian (drop_all 8 s (omega arith)) in
    omega (arith, at 0 (omega arith), at 1 (omega arith), at 2 (omega arith), at 3 (omega arith), at 4 (omega arith), at 5 (omega arith), at 6 (omega arith), at 7 (omega arith))
