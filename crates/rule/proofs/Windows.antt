-- A mask as the code has it: bits of a byte, and a count of ones. Assumes nothing.
use Prim.Native.Nat.{ℕ, zero, suc, ◌+◌, ◌-◌, ◌*◌, ◌/◌, ◌%◌, ◌^◌, ◌≤◌}
use native.Mathlib.Nat.{mod-one, one-mul}
use native.Mathlib.Omega.{arith}
use mathlib.Core.Path.{◌≡◌, refl, sym, ap, ap₂, ◌∙◌}
use mathlib.Core.Bool.{Bool, true, false}
use lib.Bits.{bit_and, and_mask}
use lib.Count.{ones, ones_step}
use lib.Dec.{leb}
use lib.Pow.{shl_exact, field, mod-mod-pow}
use mir.Val.{bool_byte}
use Rattle.model.specs.Limits.{window_limit}
use Rattle.model.specs.Rule.{as_bit, masks, set_bits, window_behind, allows}
use Rattle.model.specs.declared.Rule.{Rule}
use Rattle.rule.specs.Within.{rows_in, within}
use Rattle.rule.proofs.Laws.{rows_same, rows_one, rows-many, masks_bounds}

pub shifted : (window : ℕ) → 1 ≤ window → window ≤ window_limit → (1 * 2 ^ (window - 1)) % 256 ≡ 2 ^ (rows_in window - 1)
shifted window some few =
    shl_exact {a = 1} 1 (window - 1) 8 (omega arith) (omega arith)
    ∙ one-mul (2 ^ (window - 1))
    ∙ ap (λ (n : ℕ). 2 ^ (n - 1)) (sym (rows_same window some few))

-- the lowest n bits that are set are the ones of what is left of a number where the others are cut off
bits_ones : (n window : ℕ) → set_bits n window ≡ ones (window % 2 ^ n)
unfolding set_bits ones
bits_ones zero window = ap ones (sym (mod-one window))
bits_ones (suc n) window =
    let e : n + 1 ≡ suc n = omega arith in
    ap₂ (λ (a b : ℕ). a + b)
    (sym (mod-mod-pow window n 1))
    (bits_ones n (window / 2) ∙ ap ones (sym (field window n 1)))
    ∙ sym (ones_step (window % 2 ^ (n + 1)))
    ∙ ap (λ (k : ℕ). ones (window % 2 ^ k)) e

bit_byte : (guess : Bool) → bool_byte guess ≡ as_bit guess
bit_byte true = refl
bit_byte false = refl

-- a number of rows, cut by the mask of all guesses
module _ (rule : Rule) (x all : ℕ) (is : all ≡ masks (within rule) - 1) where
  cut : bit_and x all ≡ x % masks (within rule)
  cut = ap (bit_and x) is ∙ and_mask x (rows_in rule.window - 1)

  pub behind : (window : ℕ) (guess : Bool) → x ≡ as_bit guess + 2 * window → bit_and x all ≡ window_behind (within rule) window guess
  unfolding window_behind
  behind window guess e = cut ∙ ap (λ (n : ℕ). n % masks (within rule)) e

  pub allows-more : (guess : Bool) → leb (bool_byte guess + ones (bit_and x all)) rule.most ≡ allows (within rule) x guess
  unfolding allows
  allows-more guess =
      ap₂ (λ (a b : ℕ). leb (a + b) rule.most) (bit_byte guess) (ap ones cut ∙ sym (bits_ones (rows_in rule.window - 1) x))

-- a window of one row
pub allows_one : (rule : Rule) (window : ℕ) (guess : Bool) → rule.window ≤ 1 → leb (bool_byte guess) rule.most ≡ allows (within rule) window guess
unfolding allows set_bits
allows_one rule window guess one =
    ap (λ (n : ℕ). leb n rule.most) (bit_byte guess ∙ omega (arith, ap (λ (n : ℕ). set_bits (n - 1) window) (rows_one rule.window one)))

-- what the code's proofs try
pub ruleset rows = (rows_one, rows-many, masks_bounds, shifted)

pub ruleset windows = (behind, allows_one, allows-more)
