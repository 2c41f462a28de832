-- Bits of numbers. Assumes nothing.
use mathlib.Core.Path.{◌≡◌, refl, sym, ap, subst, ◌∙◌}
use mathlib.Core.Bool.{Bool, false, not, ◌&&◌, ◌||◌, and-false}
use Prim.Native.Nat.{ℕ, zero, suc, ◌+◌, ◌-◌, ◌*◌, ◌/◌, ◌%◌, ◌^◌, ◌≤◌, ◌<◌}
use native.Mathlib.Nat.{mul-mod_left, div-eq_of_lt, zero-div, mul_assoc, lt_of_lt_of_le, mod-lt, pow-suc, div-one}
use native.Mathlib.Decide.{dec_lt}
use native.Mathlib.Omega.{arith}
use borrow.Author.Tests.{lt-ltb, le-ltb, le-leb, lt-leb}
use lib.Dec.{eqb, leb, ltb}
use lib.Pow.{pow_pos, pow_mono, pow-add, shl-shr, shr-shr, field, mod-mod-pow, ones_lt}
use lib.Bits.{bit_and, bit_or, or_shr, or_mod, and_shr, and_mod}
use Rattle.words.specs.Words.{bit}

digit_or : (x y : ℕ) → x < 2 → y < 2 → eqb (bit_or x y) 1 ≡ (eqb x 1 || eqb y 1)
digit_or zero y h l = refl
digit_or (suc zero) zero h l = refl
digit_or (suc zero) (suc zero) h l = refl
digit_or (suc zero) (suc (suc y)) h l = absurd (omega arith)
digit_or (suc (suc x)) y h l = absurd (omega arith)

digit_and : (x y : ℕ) → x < 2 → y < 2 → eqb (bit_and x y) 1 ≡ (eqb x 1 && eqb y 1)
digit_and zero y h l = refl
digit_and (suc zero) zero h l = refl
digit_and (suc zero) (suc zero) h l = refl
digit_and (suc zero) (suc (suc y)) h l = absurd (omega arith)
digit_and (suc (suc x)) y h l = absurd (omega arith)

digit_not : (x : ℕ) → x < 2 → eqb (1 - x) 1 ≡ not (eqb x 1)
digit_not zero h = refl
digit_not (suc zero) h = refl
digit_not (suc (suc x)) h = absurd (omega arith)

pub bit_or_lem : (a b j : ℕ) → bit (bit_or a b) j ≡ (bit a j || bit b j)
unfolding bit
bit_or_lem a b j =
    ap (λ (x : ℕ). eqb (x % 2) 1) (or_shr a b j)
    ∙ ap (λ (x : ℕ). eqb x 1) (or_mod (a / 2 ^ j) (b / 2 ^ j) 1)
    ∙ digit_or (a / 2 ^ j % 2) (b / 2 ^ j % 2) (omega arith) (omega arith)

pub bit_and_lem : (a b j : ℕ) → bit (bit_and a b) j ≡ (bit a j && bit b j)
unfolding bit
bit_and_lem a b j =
    ap (λ (x : ℕ). eqb (x % 2) 1) (and_shr a b j)
    ∙ ap (λ (x : ℕ). eqb x 1) (and_mod (a / 2 ^ j) (b / 2 ^ j) 1)
    ∙ digit_and (a / 2 ^ j % 2) (b / 2 ^ j % 2) (omega arith) (omega arith)

pub bit_zero : (j : ℕ) → bit 0 j ≡ false
unfolding bit
bit_zero j = ap (λ (x : ℕ). eqb (x % 2) 1) (zero-div (2 ^ j))

pub bit_past : (k x j : ℕ) → x < 2 ^ k → k ≤ j → bit x j ≡ false
unfolding bit
bit_past k x j h l = ap (λ (q : ℕ). eqb (q % 2) 1) (div-eq_of_lt (lt_of_lt_of_le h (pow_mono l)))

-- a shift down
pub bit_shr : (x s j : ℕ) → bit (x / 2 ^ s) j ≡ bit x (s + j)
unfolding bit
bit_shr x s j = ap (λ (q : ℕ). eqb (q % 2) 1) (shr-shr x s j)

-- a shift up
up_by : (x s j : ℕ) → Dec (j < s) → bit (x * 2 ^ s) j ≡ (leb s j && bit x (j - s))
unfolding bit
up_by x s j (yes h) =
    let n = s - j - 1 in
    let e : s ≡ n + 1 + j = omega arith in
    let p : x * 2 ^ s ≡ x * 2 ^ n * 2 * 2 ^ j =
    ap (λ (k : ℕ). x * 2 ^ k) e ∙ ap (λ (k : ℕ). x * k) (pow-add 2 (n + 1) j ∙ ap (λ (k : ℕ). k * 2 ^ j) (pow-add 2 n 1))
    ∙ sym (mul_assoc x (2 ^ n * 2) (2 ^ j)) ∙ ap (λ (k : ℕ). k * 2 ^ j) (sym (mul_assoc x (2 ^ n) 2)) in
    ap (λ (k : ℕ). eqb (k / 2 ^ j % 2) 1) p
    ∙ ap (λ (k : ℕ). eqb (k % 2) 1) (shl-shr (x * 2 ^ n * 2) j)
    ∙ ap (λ (k : ℕ). eqb k 1) (mul-mod_left (x * 2 ^ n) 2)
    ∙ sym (ap (λ (t : Bool). t && eqb (x / 2 ^ (j - s) % 2) 1) (lt-leb s j h))
up_by x s j (no h) =
    let l : s ≤ j = omega arith in
    let e : j ≡ s + (j - s) = omega arith in
    ap (λ (k : ℕ). eqb (x * 2 ^ s / 2 ^ k % 2) 1) e
    ∙ ap (λ (q : ℕ). eqb (q % 2) 1) (sym (shr-shr (x * 2 ^ s) s (j - s)) ∙ ap (λ (k : ℕ). k / 2 ^ (j - s)) (shl-shr x s))
    ∙ sym (ap (λ (t : Bool). t && eqb (x / 2 ^ (j - s) % 2) 1) (le-leb s j l))

pub bit_up : (x s j : ℕ) → bit (x * 2 ^ s) j ≡ (leb s j && bit x (j - s))
bit_up x s j = up_by x s j (dec_lt j s)

-- cut to k bits
mod_by : (x k j : ℕ) → Dec (j < k) → bit (x % 2 ^ k) j ≡ (ltb j k && bit x j)
unfolding bit
mod_by x k j (yes h) =
    let n = k - j - 1 in
    let e : k ≡ n + 1 + j = omega arith in
    ap (λ (m : ℕ). eqb (x % 2 ^ m / 2 ^ j % 2) 1) e
    ∙ ap (λ (q : ℕ). eqb (q % 2) 1) (field x (n + 1) j)
    ∙ ap (λ (q : ℕ). eqb q 1) (mod-mod-pow (x / 2 ^ j) n 1)
    ∙ sym (ap (λ (t : Bool). t && eqb (x / 2 ^ j % 2) 1) (lt-ltb j k h))
mod_by x k j (no h) =
    bit_past k (x % 2 ^ k) j (mod-lt x (pow_pos k)) (omega arith)
    ∙ sym (ap (λ (t : Bool). t && eqb (x / 2 ^ j % 2) 1) (le-ltb j k (omega arith)))

pub bit_mod : (x k j : ℕ) → bit (x % 2 ^ k) j ≡ (ltb j k && bit x j)
bit_mod x k j = mod_by x k j (dec_lt j k)

-- a shift up in a word
pub bit_shl : (x s j : ℕ) → bit (x * 2 ^ s % 2 ^ 64) j ≡ (ltb j 64 && (leb s j && bit x (j - s)))
bit_shl x s j = bit_mod (x * 2 ^ s) 64 j ∙ ap (λ (t : Bool). ltb j 64 && t) (bit_up x s j)

-- the complement in k bits
half_not : (p a : ℕ) → a < p * 2 → (p * 2 - 1 - a) / 2 ≡ p - 1 - a / 2
half_not p a h = omega arith

not_low : (p a : ℕ) → a < p * 2 → (p * 2 - 1 - a) % 2 ≡ 1 - a % 2
not_low p a h = omega arith

halve : (x j : ℕ) → x / 2 ^ suc j ≡ x / 2 / 2 ^ j
halve x j = ap (λ (n : ℕ). x / 2 ^ n) (omega arith) ∙ sym (shr-shr x 1 j)

not_at : (k a j : ℕ) → a < 2 ^ k → j < k → (2 ^ k - 1 - a) / 2 ^ j % 2 ≡ 1 - a / 2 ^ j % 2
not_at zero a j h l = absurd (omega arith)
not_at (suc k) a zero h l =
    let b : a < 2 ^ k * 2 = subst (λ (p : ℕ). a < p) (pow-suc 2 k) h in
    ap (λ (q : ℕ). q % 2) (div-one (2 ^ suc k - 1 - a))
    ∙ ap (λ (p : ℕ). (p - 1 - a) % 2) (pow-suc 2 k)
    ∙ not_low (2 ^ k) a b
    ∙ ap (λ (q : ℕ). 1 - q % 2) (sym (div-one a))
not_at (suc k) a (suc j) h l =
    let b : a < 2 ^ k * 2 = subst (λ (p : ℕ). a < p) (pow-suc 2 k) h in
    ap (λ (q : ℕ). q % 2) (halve (2 ^ suc k - 1 - a) j)
    ∙ ap (λ (p : ℕ). (p - 1 - a) / 2 / 2 ^ j % 2) (pow-suc 2 k)
    ∙ ap (λ (q : ℕ). q / 2 ^ j % 2) (half_not (2 ^ k) a b)
    ∙ not_at k (a / 2) j (omega arith) (omega arith)
    ∙ ap (λ (q : ℕ). 1 - q % 2) (sym (halve a j))

pub bit_not : (k a j : ℕ) → a < 2 ^ k → j < k → bit (2 ^ k - 1 - a) j ≡ not (bit a j)
unfolding bit
bit_not k a j h l = ap (λ (q : ℕ). eqb q 1) (not_at k a j h l) ∙ digit_not (a / 2 ^ j % 2) (omega arith)

-- the k low bits
mask_by : (k j : ℕ) → Dec (j < k) → bit (2 ^ k - 1) j ≡ ltb j k
mask_by k j (yes h) =
    let same : 2 ^ k - 1 ≡ 2 ^ k - 1 - 0 = omega arith in
    ap (λ (x : ℕ). bit x j) same ∙ bit_not k 0 j (pow_pos k) h ∙ ap not (bit_zero j) ∙ sym (lt-ltb j k h)
mask_by k j (no h) = bit_past k (2 ^ k - 1) j (ones_lt k) (omega arith) ∙ sym (le-ltb j k (omega arith))

pub bit_mask : (k j : ℕ) → bit (2 ^ k - 1) j ≡ ltb j k
bit_mask k j = mask_by k j (dec_lt j k)

-- all ones of a word, moved down
pub bit_low : (r j : ℕ) → r ≤ 64 → bit ((2 ^ 64 - 1) / 2 ^ (64 - r)) j ≡ ltb j r
bit_low r j h = bit_shr (2 ^ 64 - 1) (64 - r) j ∙ bit_mask 64 (64 - r + j) ∙ by (dec_lt j r)
  where
    by : Dec (j < r) → ltb (64 - r + j) 64 ≡ ltb j r
    by (yes l) = lt-ltb (64 - r + j) 64 (omega arith) ∙ sym (lt-ltb j r l)
    by (no l) = le-ltb (64 - r + j) 64 (omega arith) ∙ sym (le-ltb j r (omega arith))

-- `(x << 1) << t`, which is 0 at t = 63
module _ (x t j : ℕ) where
  twice_by : Dec (j < 64) → Dec (t < j) → bit (x * 2 ^ 1 % 2 ^ 64 * 2 ^ t % 2 ^ 64) j ≡ (ltb j 64 && (ltb t j && bit x (j - (t + 1))))
  twice_by (no h) d = bit_shl (x * 2 ^ 1 % 2 ^ 64) t j ∙ simp (le-ltb j 64 (omega arith))
  twice_by (yes h) (yes l) =
      let e : j - t - 1 ≡ j - (t + 1) = omega arith in
      bit_shl (x * 2 ^ 1 % 2 ^ 64) t j
      ∙ ap (λ (b : Bool). ltb j 64 && (leb t j && b)) (bit_shl x 1 (j - t))
      ∙ simp (lt-ltb j 64 h, le-leb t j (omega arith), lt-ltb (j - t) 64 (omega arith), le-leb 1 (j - t) (omega arith), lt-ltb t j l, e)
  twice_by (yes h) (no l) =
      bit_shl (x * 2 ^ 1 % 2 ^ 64) t j
      ∙ ap (λ (b : Bool). ltb j 64 && (leb t j && b)) (bit_shl x 1 (j - t))
      ∙ simp (lt-ltb j 64 h, lt-ltb (j - t) 64 (omega arith), lt-leb 1 (j - t) (omega arith), le-ltb t j (omega arith), and-false)

  pub bit_shl_twice : bit (x * 2 ^ 1 % 2 ^ 64 * 2 ^ t % 2 ^ 64) j ≡ (ltb j 64 && (ltb t j && bit x (j - (t + 1))))
  bit_shl_twice = twice_by (dec_lt j 64) (dec_lt t j)
