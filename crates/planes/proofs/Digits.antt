-- A guard's leaves by the digits of a number. Assumes nothing.
use mathlib.Core.Path.{◌≡◌, refl, sym, ap, ◌∙◌}
use mathlib.Core.Bool.{false, not}
use mathlib.Core.List.{[], ◌∷◌}
use Prim.Native.Nat.{ℕ, zero, suc, ◌+◌, ◌*◌, ◌/◌, ◌%◌, ◌^◌, ◌≤◌, ◌<◌}
use native.Mathlib.Nat.{div-one, mod-one, mod-eq_of_lt, one-mul, div-eq_of_lt, div-div-eq-div-mul, mul-le-mul, mul-pos}
use native.Mathlib.Decide.{dec_le}
use native.Mathlib.Omega.{arith}
use borrow.Author.Tests.{lt-ltb, le-ltb, le-leb, lt-leb}
use lib.Dec.{eqb, leb, ltb}
use lib.ListN.{get_or}
use lib.Pow.{pow_pos, pow_mono, pow-lt}
use Rattle.model.specs.Guard.{holds, at_most, at_least, variable}
use Rattle.planes.specs.Numbering.{holds_by, weight, values, Clocks}

clock_digit : (f s i x : ℕ) → get_or (x % f ∷ x / f % s ∷ []) i 0 ≡ x / weight f i % values f s i
unfolding weight values
clock_digit f s zero x = ap (λ (n : ℕ). n % f) (sym (div-one x))
clock_digit f s (suc zero) x = refl
clock_digit f s (suc (suc i)) x = sym (mod-one (x / 1))

leb_ltb : (d t : ℕ) → Dec (d ≤ t) → leb d t ≡ ltb d (t + 1)
leb_ltb d t (yes h) = le-leb d t h ∙ sym (lt-ltb d (t + 1) (omega arith))
leb_ltb d t (no h) = lt-leb d t (omega arith) ∙ sym (le-ltb d (t + 1) (omega arith))

leb_not : (d t : ℕ) → Dec (t ≤ d) → leb t d ≡ not (ltb d t)
leb_not d t (yes h) = le-leb t d h ∙ ap not (sym (le-ltb d t h))
leb_not d t (no h) = lt-leb t d (omega arith) ∙ ap not (sym (lt-ltb d t (omega arith)))

module _ (f s : ℕ) where
  pub at_most_by : (i t x : ℕ) → holds_by f s (at_most i t) x ≡ ltb (x / weight f i % values f s i) (t + 1)
  unfolding holds_by holds
  at_most_by i t x = ap (λ (d : ℕ). leb d t) (clock_digit f s i x) ∙ leb_ltb (x / weight f i % values f s i) t (dec_le (x / weight f i % values f s i) t)

  pub at_least_by : (i t x : ℕ) → holds_by f s (at_least i t) x ≡ not (ltb (x / weight f i % values f s i) t)
  unfolding holds_by holds
  at_least_by i t x = ap (λ (d : ℕ). leb t d) (clock_digit f s i x) ∙ leb_not (x / weight f i % values f s i) t (dec_le t (x / weight f i % values f s i))

  pub weight-some : Clocks f s → (i : ℕ) → 0 < weight f i
  unfolding weight
  weight-some c zero = omega arith
  weight-some c (suc zero) = c.some
  weight-some c (suc (suc i)) = omega arith

  pub values-some : Clocks f s → (i : ℕ) → 0 < values f s i
  unfolding values
  values-some c zero = c.some
  values-some c (suc zero) = c.some₁
  values-some c (suc (suc i)) = omega arith

two : (d : ℕ) → d < 2 → eqb d 1 ≡ not (ltb d 1)
two zero h = refl
two (suc zero) h = refl
two (suc (suc d)) h = absurd (omega arith)

module _ (f s v x : ℕ) where
  digit : x / (f * s) / 2 ^ v ≡ x / (f * s * 2 ^ v)
  digit = div-div-eq-div-mul x (f * s) (2 ^ v)

  pub variable_by : holds_by f s (variable v) x ≡ not (ltb (x / (f * s * 2 ^ v) % 2) 1)
  unfolding holds_by holds
  variable_by = ap (λ (d : ℕ). eqb (d % 2) 1) digit ∙ two (x / (f * s * 2 ^ v) % 2) (omega arith)

  -- a variable that stands above all numbers of the set
  pub variable_far : Clocks f s → 16 ≤ v → x < 65536 → holds_by f s (variable v) x ≡ false
  unfolding holds_by holds
  variable_far c h l = ap (λ (d : ℕ). eqb (d % 2) 1) (digit ∙ div-eq_of_lt small)
    where
      small : x < f * s * 2 ^ v
      small =
          let one : 1 ≤ f * s = mul-pos c.some c.some₁ in
          let more : 2 ^ 16 ≤ 2 ^ v = pow_mono h in
          omega (arith, mul-le-mul one more)

  pub variable_near : Clocks f s → v < 16 → f * s * 2 ^ v < 2 ^ 32
  variable_near c h =
      let product = mul-le-mul c.most c.most₁ in
      let low : v ≤ 15 = omega arith in
      let less : 2 ^ v ≤ 2 ^ 15 = pow_mono low in
      let most : f * s ≤ 66049 = omega arith in
      omega (arith, mul-le-mul most less)

  pub variable-some : Clocks f s → 0 < f * s * 2 ^ v
  variable-some c = mul-pos (mul-pos c.some c.some₁) (pow_pos v)

-- which clock a number names
module _ (f s i : ℕ) where
  pub weight_one : i ≡ 1 → weight f i ≡ f
  unfolding weight
  weight_one e = rw e

  pub weight_other : (i ≡ 1 → ⊥) → weight f i ≡ 1
  unfolding weight
  weight_other h = by i h
    where
      by : (j : ℕ) → (j ≡ 1 → ⊥) → weight f j ≡ 1
      by zero h = refl
      by (suc zero) h = absurd (h refl)
      by (suc (suc j)) h = refl

  pub values_zero : i ≡ 0 → values f s i ≡ f
  unfolding values
  values_zero e = rw e

  pub values_one : i ≡ 1 → values f s i ≡ s
  unfolding values
  values_one e = rw e

  pub values_other : (i ≡ 0 → ⊥) → (i ≡ 1 → ⊥) → values f s i ≡ 1
  unfolding values
  values_other h l = by i h l
    where
      by : (j : ℕ) → (j ≡ 0 → ⊥) → (j ≡ 1 → ⊥) → values f s j ≡ 1
      by zero h l = absurd (h refl)
      by (suc zero) h l = absurd (l refl)
      by (suc (suc j)) h l = refl

pub one_shifted : (t : ℕ) → t < 16 → 1 * 2 ^ t % 2 ^ 32 ≡ 2 ^ t
one_shifted t h =
    let low : t < 32 = omega arith in
    ap (λ (n : ℕ). n % 2 ^ 32) (one-mul (2 ^ t)) ∙ mod-eq_of_lt (pow-lt low)
