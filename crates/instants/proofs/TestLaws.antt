-- What tests tell: of both and either, of some number below a bound, of sets that are moved up or cut, and of options.
use Prim.Native.Nat.{ℕ, zero, suc, ◌+◌, ◌-◌, ◌<◌}
use native.Mathlib.Nat.{not-suc-le-zero}
use native.Mathlib.Decide.{ℕ_discrete}
use native.Mathlib.Omega.{arith}
use mathlib.Core.Path.{◌≡◌, refl, ap, subst, ◌∙◌}
use mathlib.Core.Logic.{◌⊎◌, inl, inr}
use mathlib.Core.Bool.{Bool, true, false, cond, ◌&&◌, ◌||◌, or-true, false≢true}
use Rattle.std.specs.Prelude.{Option, Some, None}
use lib.Dec.{ltb, leb}
use borrow.Author.Tests.{ltb-true, leb-true, lt-ltb, le-leb}
use Rattle.words.specs.Words.{up, below, any_below}

pub both_are : (a b : Bool) → (a && b) ≡ true → (a ≡ true) × (b ≡ true)
both_are true b e = (refl, e)
both_are false b e = (e, cc)

pub both : {a b : Bool} → a ≡ true → b ≡ true → (a && b) ≡ true
both e f = rw (e, f)

pub either_is : (a b : Bool) → (a || b) ≡ true → (a ≡ true) ⊎ (b ≡ true)
either_is true b e = inl refl
either_is false b e = inr e

pub first-is : {a : Bool} (b : Bool) → a ≡ true → (a || b) ≡ true
first-is b e = rw e

pub second_is : (a : Bool) {b : Bool} → b ≡ true → (a || b) ≡ true
second_is a e = ap (λ (x : Bool). a || x) e ∙ or-true a

-- an option behind a test
pub cond-some : {A : Type 0} {a : A} (b : Bool) (o : Option A) → cond b o None ≡ Some a → (b ≡ true) × (o ≡ Some a)
cond-some true o e = (refl, e)
cond-some false o e = (cc, cc)

module _ (p : ℕ → Bool) where
  pub any_some : (n : ℕ) → any_below p n ≡ true → (d : ℕ) × (d < n) × (p d ≡ true)
  unfolding any_below
  any_some zero e = absurd (false≢true e)
  any_some (suc n) e = by (either_is (any_below p n) (p n) e) (any_some n)
    where
      by : (any_below p n ≡ true) ⊎ (p n ≡ true) → (any_below p n ≡ true → (d : ℕ) × (d < n) × (p d ≡ true)) → (d : ℕ) × (d < suc n) × (p d ≡ true)
      by (inl h) f = let (d, l, q) = f h in (d, omega arith, q)
      by (inr h) f = (n, omega arith, h)

  pub some_any : (n d : ℕ) → d < n → p d ≡ true → any_below p n ≡ true
  unfolding any_below
  some_any zero d h e = absurd (not-suc-le-zero h)
  some_any (suc n) d h e = by (ℕ_discrete d n) (some_any n d)
    where
      by : Dec (d ≡ n) → (d < n → p d ≡ true → any_below p n ≡ true) → (any_below p n || p n) ≡ true
      by (yes q) f = second_is (any_below p n) (subst (λ (i : ℕ). p i ≡ true) q e)
      by (no q) f = first-is (p n) (f (omega arith) e)

  pub up-some : (d i : ℕ) → up d p i ≡ true → (k : ℕ) × (i ≡ d + k) × (p k ≡ true)
  unfolding up
  up-some d i e = let (h, q) = both_are (leb d i) (p (i - d)) e in (i - d, omega (arith, leb-true d i h), q)

  pub some_up : (d i k : ℕ) → i ≡ d + k → p k ≡ true → up d p i ≡ true
  unfolding up
  some_up d i k e q =
      let back : k ≡ i - d = omega arith in
      both (le-leb d i (omega arith)) (subst (λ (j : ℕ). p j ≡ true) back q)

  pub below-some : (n i : ℕ) → below n p i ≡ true → (i < n) × (p i ≡ true)
  unfolding below
  below-some n i e = let (h, q) = both_are (ltb i n) (p i) e in (ltb-true i n h, q)

  pub some_below : (n i : ℕ) → i < n → p i ≡ true → below n p i ≡ true
  unfolding below
  some_below n i h q = both (lt-ltb i n h) q
