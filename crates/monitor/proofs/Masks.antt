-- Variables after a firing, as one expression on masks.
use Prim.Native.Nat.{ℕ, zero, suc, ◌+◌, ◌-◌, ◌*◌, ◌/◌, ◌%◌, ◌^◌, ◌<◌, ◌≤◌}
use native.Mathlib.Omega.{arith}
use native.Mathlib.Nat.{pow-suc, mod-eq_of_lt, lt_of_lt_of_le}
use mathlib.Core.Path.{◌≡◌, refl, sym, ap, ap₂, ◌∙◌}
use mathlib.Core.Bool.{cond}
use lib.Dec.{eqb}
use lib.Arith.{mod-mul}
use lib.Pow.{pow_pos, pow_mono, shl_exact}
use Rattle.std.proofs.lemmas.Nat.{and-not, and_comm, and_or_self}
use lib.Bits.{bit_and, bit_or, bit_xor, or_add_and, xor_add_and, or_shr, xor_shr, or_mod, xor_mod, or_lt, xor_lt}
use Rattle.model.specs.Monitor.{changed}

unfoldable pub changed_mask : (v s c : ℕ) → ℕ
changed_mask v s c = bit_or (bit_xor (bit_or v c) c) s

below_two : (P : ℕ → Type 0) → P 0 → P 1 → (n : ℕ) → n < 2 → P n
below_two P p q zero h = p
below_two P p q (suc zero) h = q
below_two P p q (suc (suc n)) h = absurd (omega arith)

abbrev Bit : (v s c : ℕ) → Type 0
Bit v s c = changed_mask v s c ≡ cond (eqb s 1) 1 (cond (eqb c 1) 0 v)

bit : (v s c : ℕ) → v < 2 → s < 2 → c < 2 → Bit v s c
unfolding changed_mask
bit v s c hv hs hc =
    below_two (λ x. Bit x s c)
    (below_two (λ y. Bit 0 y c) (below_two (λ z. Bit 0 0 z) refl refl c hc) (below_two (λ z. Bit 0 1 z) refl refl c hc) s hs)
    (below_two (λ y. Bit 1 y c) (below_two (λ z. Bit 1 0 z) refl refl c hc) (below_two (λ z. Bit 1 1 z) refl refl c hc) s hs)
    v
    hv

module _ (v s c : ℕ) where
  half : changed_mask v s c / 2 ≡ changed_mask (v / 2) (s / 2) (c / 2)
  unfolding changed_mask
  half =
      or_shr (bit_xor (bit_or v c) c) s 1
      ∙ ap (λ (x : ℕ). bit_or x (s / 2)) (xor_shr (bit_or v c) c 1 ∙ ap (λ (x : ℕ). bit_xor x (c / 2)) (or_shr v c 1))

  low : changed_mask v s c % 2 ≡ changed_mask (v % 2) (s % 2) (c % 2)
  unfolding changed_mask
  low =
      or_mod (bit_xor (bit_or v c) c) s 1
      ∙ ap (λ (x : ℕ). bit_or x (s % 2)) (xor_mod (bit_or v c) c 1 ∙ ap (λ (x : ℕ). bit_xor x (c % 2)) (or_mod v c 1))

  pub changed_mask_byte : v < 256 → s < 256 → c < 256 → changed_mask v s c < 256
  unfolding changed_mask
  changed_mask_byte hv hs hc = or_lt 8 (bit_xor (bit_or v c) c) s (xor_lt 8 (bit_or v c) c (or_lt 8 v c hv hc) hc) hs

pub changed_mask_lem : (n v s c : ℕ) → changed n v s c ≡ changed_mask v s c % 2 ^ n
unfolding changed
changed_mask_lem zero v s c = omega arith
changed_mask_lem (suc n) v s c =
    let again : changed n (v / 2) (s / 2) (c / 2) ≡ changed_mask v s c / 2 % 2 ^ n = changed_mask_lem n (v / 2) (s / 2) (c / 2) ∙ ap (λ (x : ℕ). x % 2 ^ n) (sym (half v s c)) in
    let first : cond (eqb (s % 2) 1) 1 (cond (eqb (c % 2) 1) 0 (v % 2)) ≡ changed_mask v s c % 2 = sym (low v s c ∙ bit (v % 2) (s % 2) (c % 2) (omega arith) (omega arith) (omega arith)) in
    let whole : changed_mask v s c % 2 ^ suc n ≡ changed_mask v s c / 2 % 2 ^ n * 2 + changed_mask v s c % 2 =
    ap (λ (x : ℕ). changed_mask v s c % x) (pow-suc 2 n) ∙ mod-mul (changed_mask v s c) (pow_pos n) (omega arith) in
    omega (arith, again, first, whole)

-- what the code works out, of bytes
module _ (v s c : ℕ) (hv : v < 256) (hs : s < 256) (hc : c < 256) where
  masked : bit_or (bit_and v (255 - c)) s ≡ changed_mask v s c
  unfolding changed_mask
  masked =
      let cleared : bit_and v (255 - c) ≡ bit_xor (bit_or v c) c =
      omega (arith, and-not 8 c v hc hv, and_comm v (255 - c), and_comm v c, or_add_and v c, xor_add_and (bit_or v c) c, and_or_self c v) in
      ap (λ (x : ℕ). bit_or x s) cleared

  pub changed-few : (n : ℕ) → n < 8 → bit_or (bit_and v (255 - c)) s % (1 * 2 ^ n % 256) ≡ changed n v s c
  changed-few n h =
      let power : 1 * 2 ^ n % 256 ≡ 2 ^ n = shl_exact 1 n 8 (omega arith) (omega arith) ∙ omega arith in
      ap₂ (λ (x y : ℕ). x % y) masked power ∙ sym (changed_mask_lem n v s c)

  -- from eight variables on, a byte's are all
  pub changed-all : (n : ℕ) → 8 ≤ n → bit_or (bit_and v (255 - c)) s ≡ changed n v s c
  changed-all n h = masked ∙ sym (changed_mask_lem n v s c ∙ mod-eq_of_lt (lt_of_lt_of_le (changed_mask_byte v s c hv hs hc) (pow_mono h)))

pub ruleset changing = (changed-few, changed-all)
