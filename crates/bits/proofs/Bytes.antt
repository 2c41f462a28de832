-- What the code does to one byte. Assumes nothing.
use Rattle.std.proofs.Common.{◌≡◌, ℕ, ◌*◌, ◌/◌, ◌%◌, ◌^◌, ◌<◌, eqb, List, length, get_or, set, sym, refl, ap, ◌∙◌, arith, length-set, get_or-set_other, get_or-set_same}
use native.Mathlib.Decide.{ℕ_discrete}
use Rattle.std.specs.Int.{w8}
use Rattle.std.proofs.lemmas.Nat.Bits.{bit_at_set_same, bit_at_set_other}
use lib.Bits.{bit_or}
use Rattle.bits.specs.Member.{bit, mem, PutIn}

-- the byte with bit i alone, as `1 << i` has it
abbrev one : ℕ → ℕ
one i = 1 * 2 ^ i % 256

-- one byte is set
module _ (s : List ℕ) (i v : ℕ) (h : i / 8 < length s) where
  mem-here : (k : ℕ) → k / 8 ≡ i / 8 → mem (set s (i / 8) v) k ≡ bit v (k % 8)
  unfolding mem
  mem-here k e =
      ap (λ (b : ℕ). bit b (k % 8)) (ap (λ (x : ℕ). get_or (set s (i / 8) v) x 0) e ∙ get_or-set_same s (i / 8) v 0 h)

  module _ (keep : (j : ℕ) → j < 8 → (j ≡ i % 8 → ⊥) → v / 2 ^ j % 2 ≡ get_or s (i / 8) 0 / 2 ^ j % 2) where
    mem-by : (k : ℕ) → (k ≡ i → ⊥) → Dec (k / 8 ≡ i / 8) → mem (set s (i / 8) v) k ≡ mem s k
    unfolding mem
    mem-by k ne (yes e) =
        mem-here k e
        ∙ ap (λ (x : ℕ). eqb x 1) (keep (k % 8) (omega arith) (λ q. ne (omega arith)))
        ∙ ap (λ (x : ℕ). bit (get_or s x 0) (k % 8)) (sym e)
    mem-by k ne (no d) = ap (λ (b : ℕ). bit b (k % 8)) (get_or-set_other s (i / 8) (k / 8) v 0 d)

    mem_other : (k : ℕ) → (k ≡ i → ⊥) → mem (set s (i / 8) v) k ≡ mem s k
    mem_other k ne = mem-by k ne (ℕ_discrete (k / 8) (i / 8))

pub put_in : (s : List ℕ) (i : ℕ) → i / 8 < length s → PutIn i s (set s (i / 8) (bit_or (get_or s (i / 8) 0) (one (i % 8))))
put_in s i h =
    let b = get_or s (i / 8) 0 in
    let place : i % 8 < 8 = omega arith in
    record {
      size = length-set s (i / 8) (bit_or b (one (i % 8)));
      there = λ l. mem-here s i (bit_or b (one (i % 8))) h i refl ∙ ap (λ (x : ℕ). eqb x 1) (bit_at_set_same w8 b (i % 8) place);
      others = mem_other s i (bit_or b (one (i % 8))) h (λ j l ne. bit_at_set_other w8 b (i % 8) place j ne);
      past = λ l. absurd (omega arith);
    }
