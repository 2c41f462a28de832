-- Tests and sets that agree where they are looked at give the same.
use Prim.Native.Nat.{ℕ, zero, suc, ◌+◌, ◌-◌, ◌*◌, ◌/◌, ◌%◌, ◌≤◌, ◌<◌}
use native.Mathlib.Decide.{dec_lt}
use native.Mathlib.Omega.{arith}
use mathlib.Core.Path.{◌≡◌, refl, sym, ap, ap₂, ◌∙◌}
use mathlib.Core.Bool.{Bool, true, false, ◌&&◌, ◌||◌}
use lib.Dec.{ltb, leb}
use borrow.Author.Tests.{ltb-true, leb-true, lt-ltb, le-ltb}
use Rattle.words.specs.Words.{up, below, any_below}
use Rattle.instants.proofs.DigitLaws.{low_mod, low_div}

-- a set has no number from b on
abbrev pub Within : ℕ → (ℕ → Bool) → Type 0
Within b s = (y : ℕ) → s y ≡ true → y < b

pub past_false : (b : ℕ) (s : ℕ → Bool) → Within b s → (y : ℕ) → b ≤ y → s y ≡ false
past_false b s h y l = by (s y) refl
  where
    by : (t : Bool) → s y ≡ t → s y ≡ false
    by true e = absurd (omega (arith, h y e))
    by false e = e

pub any_same : (p q : ℕ → Bool) (n : ℕ) → ((d : ℕ) → d < n → p d ≡ q d) → any_below p n ≡ any_below q n
unfolding any_below
any_same p q zero f = refl
any_same p q (suc n) f = ap₂ (λ (a b : Bool). a || b) (any_same p q n (λ d h. f d (omega arith))) (f n (omega arith))

pub below-same : (p q : ℕ → Bool) (n i : ℕ) → (i < n → p i ≡ q i) → below n p i ≡ below n q i
unfolding below
below-same p q n i f = by (ltb i n) refl
  where
    by : (b : Bool) → ltb i n ≡ b → (b && p i) ≡ (b && q i)
    by true h = f (ltb-true i n h)
    by false h = refl

pub up_same : (p q : ℕ → Bool) (d i : ℕ) → ((k : ℕ) → i ≡ d + k → p k ≡ q k) → up d p i ≡ up d q i
unfolding up
up_same p q d i f = by (leb d i) refl
  where
    by : (b : Bool) → leb d i ≡ b → (b && p (i - d)) ≡ (b && q (i - d))
    by true h = f (i - d) (omega (arith, leb-true d i h))
    by false h = refl

-- a set that is t below a bound, where t has nothing past it
pub below_all : (s t : ℕ → Bool) (b : ℕ) → ((y : ℕ) → y < b → s y ≡ t y) → Within b t → (y : ℕ) → below b s y ≡ t y
unfolding below
below_all s t b f h y = by (dec_lt y b)
  where
    by : Dec (y < b) → (ltb y b && s y) ≡ t y
    by (yes l) = rw (lt-ltb y b l) (f y l)
    by (no l) = rw (le-ltb y b (omega arith)) (sym (past_false b t h y (omega arith)))

-- a number has one quotient and one rest
pub one_way : (g q r x y : ℕ) → x < g → y < g → g * q + x ≡ g * r + y → (q ≡ r) × (x ≡ y)
one_way g q r x y h k e =
    let f : x + g * q ≡ y + g * r = omega arith in
    (sym (low_div x g q h) ∙ ap (λ (z : ℕ). z / g) f ∙ low_div y g r k, sym (low_mod x g q h) ∙ ap (λ (z : ℕ). z % g) f ∙ low_mod y g r k)
