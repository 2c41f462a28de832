-- Small laws that several theorems cite: tests joined by "and" and "or", comparisons, lists made from a function of the index, and the first refusal of a list of tests.
use Prim.Native.Nat.{ℕ, zero, suc, ◌<◌, ◌≤◌}
use native.Mathlib.Nat.{not-suc-le-zero}
use native.Mathlib.Omega.{arith}
use mathlib.Core.Path.{◌≡◌, refl, sym, ap, ◌∙◌}
use mathlib.Core.Logic.{◌⊎◌, inl, inr}
use mathlib.Core.List.{[], ◌∷◌, ◌++◌}
use mathlib.Core.Bool.{Bool, true, false, cond, ◌&&◌, ◌||◌, false≢true}
use Rattle.std.specs.Prelude.{Option, Some, None, slice_get, Ok, Err}
use Rattle.std.proofs.lemmas.Option.{none-some, slice_get-get_or, slice_get_past}
use lib.ListN.{length, get_or, length-append, get_or-append, get_or-eq_default}
use lib.Seq.{get_or_at}
use lib.Dec.{leb}
use borrow.Author.Tests.{le-leb, lt-leb}
use native.Mathlib.Decide.{dec_lt, dec_le}
use Rattle.model.specs.Bytes.{tab}
use Rattle.model.specs.First.{unless, and_then, Reading}
use Rattle.model.specs.declared.Refusal.{Refusal}

pub and_left : (a b : Bool) → a && b ≡ true → a ≡ true
and_left true b e = refl
and_left false b e = e

pub and_right : (a b : Bool) → a && b ≡ true → b ≡ true
and_right true b e = e
and_right false b e = absurd (false≢true e)

pub both_true : (a b : Bool) → a ≡ true → b ≡ true → a && b ≡ true
both_true true b p q = q
both_true false b p q = p

pub or_cases : (a b : Bool) → a || b ≡ true → (a ≡ true) ⊎ (b ≡ true)
or_cases true b e = inl refl
or_cases false b e = inr e

pub or_left : (a b : Bool) → a ≡ true → a || b ≡ true
or_left true b e = refl
or_left false b e = absurd (false≢true e)

pub or_right : (a b : Bool) → b ≡ true → a || b ≡ true
or_right true b e = refl
or_right false b e = e

-- two tests that pass together are the same
pub same_test : (a b : Bool) → (a ≡ true → b ≡ true) → (b ≡ true → a ≡ true) → a ≡ b
same_test true b f g = sym (f refl)
same_test false true f g = absurd (false≢true (g refl))
same_test false false f g = refl

-- a test that must pass
pub cond-some : {A : Type 0} (b : Bool) (x : Option A) (a : A) → cond b x None ≡ Some a → (b ≡ true) × (x ≡ Some a)
cond-some true x a e = (refl, e)
cond-some false x a e = absurd (none-some a e)

-- comparisons that pass together
pub leb_same : (a b c d : ℕ) → (a ≤ b → c ≤ d) → (c ≤ d → a ≤ b) → leb a b ≡ leb c d
leb_same a b c d f g = on (dec_le a b) (dec_le c d)
  where
    on : Dec (a ≤ b) → Dec (c ≤ d) → leb a b ≡ leb c d
    on (yes p) (yes q) = le-leb a b p ∙ sym (le-leb c d q)
    on (yes p) (no q) = absurd (q (f p))
    on (no p) (yes q) = absurd (p (g q))
    on (no p) (no q) = lt-leb a b (omega arith) ∙ sym (lt-leb c d (omega arith))

pub unless-sound : (t : Bool) (r : Refusal) → unless t r ≡ Ok tt → t ≡ true
unless-sound true r e = refl
unless-sound false r e = cc

pub and_then-left : (a b : Reading) → and_then a b ≡ Ok tt → a ≡ Ok tt
and_then-left (Ok _) b e = refl
and_then-left (Err r) b e = e

pub and_then-right : (a b : Reading) → and_then a b ≡ Ok tt → b ≡ Ok tt
and_then-right (Ok _) b e = e
and_then-right (Err r) b e = cc

module _ {A : Type 0} (f : ℕ → A) where
  pub length-tab : (n : ℕ) → length (tab f n) ≡ n
  unfolding tab
  length-tab zero = refl
  length-tab (suc n) = length-append (tab f n) (f n ∷ []) ∙ omega (arith, length-tab n)

  pub get_or-tab : (d : A) (n i : ℕ) → i < n → get_or (tab f n) i d ≡ f i
  unfolding tab
  get_or-tab d zero i h = absurd (not-suc-le-zero h)
  get_or-tab d (suc n) i h = split (λ l. get_or-tab d n i l) (dec_lt i n)
    where
      split : (i < n → get_or (tab f n) i d ≡ f i) → Dec (i < n) → get_or (tab f n ++ (f n ∷ [])) i d ≡ f i
      split again (yes l) = get_or-append (tab f n) (f n ∷ []) d i (omega (arith, length-tab n)) ∙ again l
      split again (no l) =
          let e : i ≡ n = omega arith in
          rw e (get_or_at (tab f n) (f n) [] d n (length-tab n))

  pub get_or_tab_past : (d : A) (n i : ℕ) → n ≤ i → get_or (tab f n) i d ≡ d
  get_or_tab_past d n i h = get_or-eq_default (tab f n) d (omega (arith, length-tab n))

  pub get_elem_tab : (n i : ℕ) → i < n → slice_get (tab f n) i ≡ Some (f i)
  get_elem_tab n i h = slice_get-get_or (tab f n) i (f i) (omega (arith, length-tab n)) ∙ ap {B = Option A} Some (get_or-tab (f i) n i h)

  pub get_elem_tab_past : (n i : ℕ) → n ≤ i → slice_get (tab f n) i ≡ None
  get_elem_tab_past n i h = slice_get_past (tab f n) i (omega (arith, length-tab n))
