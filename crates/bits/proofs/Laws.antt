-- Laws of membership and of tallies. Assumes nothing.
use Rattle.std.proofs.Common.{◌≡◌, ℕ, zero, suc, ◌+◌, ◌*◌, ◌/◌, ◌%◌, ◌^◌, ◌<◌, ◌≤◌, Bool, true, false, cond, eqb, List, length, get_or, take, drop, replicate, sym, refl, ap, ◌∙◌, ap₂, zero-le, le_refl, add-zero, add-suc, mod-eq_of_lt, arith, get_or-drop, get_or-take, shr-shr}
use native.Mathlib.Nat.{zero-div}
use lib.ListN.{get_or-eq_default}
use Rattle.bits.specs.Member.{bit, mem}
use Rattle.bits.specs.Counting.{tally, population}

-- membership is a bit of a byte
pub mem_at : (s : List ℕ) (k j : ℕ) → j < 8 → mem s (8 * k + j) ≡ bit (get_or s k 0) j
unfolding mem
mem_at s k j h =
    let byte : (8 * k + j) / 8 ≡ k = omega arith in
    let place : (8 * k + j) % 8 ≡ j = omega arith in
    ap₂ (λ (x y : ℕ). bit (get_or s x 0) y) byte place

pub bit_zero : (b j : ℕ) → b ≡ 0 → bit b j ≡ false
bit_zero b j e = ap (λ (x : ℕ). bit x j) e ∙ ap (λ (x : ℕ). eqb (x % 2) 1) (zero-div (2 ^ j))

-- a number without its s lowest bits
pub bit_shr : (x s j : ℕ) → bit (x / 2 ^ s) j ≡ bit x (s + j)
bit_shr x s j = ap (λ (q : ℕ). eqb (q % 2) 1) (shr-shr x s j)

-- nothing is past the end
pub mem-past : (s : List ℕ) (i : ℕ) → 8 * length s ≤ i → mem s i ≡ false
unfolding mem
mem-past s i h = bit_zero (get_or s (i / 8) 0) (i % 8) (get_or-eq_default s 0 (omega arith))

zero_at : (n k : ℕ) → get_or (replicate n zero) k zero ≡ zero
zero_at zero k = refl
zero_at (suc n) zero = refl
zero_at (suc n) (suc k) = zero_at n k

-- nothing is in zeros
pub mem_zeros : (n i : ℕ) → mem (replicate n 0) i ≡ false
unfolding mem
mem_zeros n i = bit_zero (get_or (replicate n 0) (i / 8) 0) (i % 8) (zero_at n (i / 8))

-- the set in the bytes from a on
pub mem-drop : (s : List ℕ) (a i : ℕ) → mem (drop a s) i ≡ mem s (8 * a + i)
unfolding mem
mem-drop s a i =
    let byte : (8 * a + i) / 8 ≡ a + i / 8 = omega arith in
    let place : (8 * a + i) % 8 ≡ i % 8 = omega arith in
    ap (λ (b : ℕ). bit b (i % 8)) (get_or-drop a s (i / 8) 0) ∙ sym (ap₂ (λ (x y : ℕ). bit (get_or s x 0) y) byte place)

-- .. and in bytes a .. a + n
pub mem_part : (s : List ℕ) (a n i : ℕ) → i < 8 * n → mem (take n (drop a s)) i ≡ mem s (8 * a + i)
unfolding mem
mem_part s a n i h =
    let within : i / 8 < n = omega arith in
    ap (λ (b : ℕ). bit b (i % 8)) (get_or-take n (drop a s) (i / 8) 0 within) ∙ mem-drop s a i

-- tests that agree below n have the same tally
pub tally-same : (p q : ℕ → Bool) (n : ℕ) → ((k : ℕ) → k < n → p k ≡ q k) → tally p n ≡ tally q n
unfolding tally
tally-same p q zero h = refl
tally-same p q (suc n) h =
    ap₂ (λ (b : Bool) (m : ℕ). cond b 1 0 + m) (h n (le_refl (suc n))) (tally-same p q n (λ k l. h k (omega arith)))

one_le : (b : Bool) → cond b 1 0 ≤ 1
one_le true = le_refl 1
one_le false = zero-le

-- no more numbers pass than there are
pub tally_le : (p : ℕ → Bool) (n : ℕ) → tally p n ≤ n
unfolding tally
tally_le p zero = zero-le
tally_le p (suc n) = omega (arith, one_le (p n), tally_le p n)

-- where none below n passes, there is none to count
pub tally_none : (p : ℕ → Bool) (n : ℕ) → ((k : ℕ) → k < n → p k ≡ false) → tally p n ≡ 0
unfolding tally
tally_none p zero h = refl
tally_none p (suc n) h = ap₂ (λ (b : Bool) (m : ℕ). cond b 1 0 + m) (h n (le_refl (suc n))) (tally_none p n (λ k l. h k (omega arith)))

-- the numbers below n, and the m after them
pub tally-add : (p : ℕ → Bool) (n m : ℕ) → tally p (n + m) ≡ tally (λ k. p (n + k)) m + tally p n
unfolding tally
tally-add p n zero = rw add-zero (omega arith)
tally-add p n (suc m) = rw (add-suc, tally-add p n m) (omega arith)

-- `count` is exact below 2 ^ 61 bytes
pub population-fits : (s : List ℕ) → length s < 2 ^ 61 → population s % 2 ^ 64 ≡ population s
population-fits s h = mod-eq_of_lt (omega (arith, tally_le (mem s) (8 * length s)))
