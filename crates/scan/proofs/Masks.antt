-- Masks as numbers: how many bits they have, and whether two have one in common.
use Prim.Native.Nat.{ℕ, zero, suc, min, ◌+◌, ◌*◌, ◌/◌, ◌%◌, ◌^◌, ◌<◌, ◌≤◌}
use native.Mathlib.Omega.{arith}
use native.Mathlib.Nat.{pow-suc, div-lt_iff_lt-mul, lt_of_lt_of_le}
use mathlib.Core.Path.{◌≡◌, ap, ◌∙◌}
use mathlib.Core.Logic.{◌↔◌}
use mathlib.Core.Bool.{true, not, ◌&&◌}
use lib.Dec.{eqb, ltb}
use lib.Pow.{pow_pos, pow_mono}
use borrow.Author.Tests.{lt-ltb}
use lib.Bits.{bit_and, and_step}
use Rattle.std.proofs.lemmas.Bool.Decides.{nat_tests}
use Rattle.model.specs.Table.{apart}

low_bits : (x a b : ℕ) → a < 2 → b < 2 → eqb (x * 2 + min a b) 0 ≡ (not (eqb a 1 && eqb b 1) && eqb x 0)
low_bits x a b ha hb = grind (arith, nat_tests)

pub apart_masks : (n s c : ℕ) → s < 2 ^ n → c < 2 ^ n → eqb (bit_and s c) 0 ≡ apart n s c
unfolding apart
apart_masks zero s c hs hc = let e : s ≡ 0 = omega arith in rw e
apart_masks (suc n) s c hs hc =
    ap (λ x. eqb x 0) (and_step s c)
    ∙ low_bits _ (s % 2) (c % 2) (omega arith) (omega arith)
    ∙ ap (λ x. not (eqb (s % 2) 1 && eqb (c % 2) 1) && x) (apart_masks n (s / 2) (c / 2) (omega (arith, pow-suc 2 n)) (omega (arith, pow-suc 2 n)))

pub mask_fits : (mask count : ℕ) → eqb (mask / 2 ^ count) 0 ≡ ltb mask (2 ^ count)
mask_fits mask count =
    let below : (mask / 2 ^ count < 1) ↔ (mask < 1 * 2 ^ count) = div-lt_iff_lt-mul (pow_pos count) in
    let there = below.0 in
    let back = below.1 in
    grind (arith, nat_tests)

-- a byte has no bit from place 8 on
pub mask_small : (mask count : ℕ) → mask < 256 → 8 ≤ count → ltb mask (2 ^ count) ≡ true
mask_small mask count h k = lt-ltb _ _ (lt_of_lt_of_le h (pow_mono k))
