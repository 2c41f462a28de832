-- The union over a digit, at its lowest or over all its values, and the digit raised: each as the definition of an instant has it.
use Prim.Native.Nat.{ℕ, ◌+◌, ◌-◌, ◌*◌, ◌/◌, ◌%◌, ◌≤◌, ◌<◌}
use native.Mathlib.Nat.{div-eq_of_lt, mod-lt, zero-mod}
use native.Mathlib.Decide.{dec_lt}
use native.Mathlib.Omega.{arith}
use mathlib.Core.Path.{◌≡◌, refl, sym, ap, ap₂, ◌∙◌}
use mathlib.Core.List.{List}
use mathlib.Core.Bool.{Bool, true, false, not, ◌&&◌, ◌||◌, and_comm, and-false, and-true}
use lib.Dec.{leb}
use borrow.Author.Tests.{le-leb, eqb-true, eqb-false, eq-eqb}
use Rattle.model.proofs.Basics.{same_test}
use Rattle.words.specs.Words.{mem, up, below, any_below}
use Rattle.instants.specs.Digit.{digit, is_lowest, is_highest, zeroed, raised_set, zeroed_set}
use Rattle.instants.proofs.TestLaws.{both_are, both, any_some, some_any, up-some, some_up, below-some, some_below}
use Rattle.instants.proofs.DigitLaws.{built, digit_built, zeroed_built, as_built}
use Rattle.firings.specs.Folded.{folded_by, spread_by}
use Rattle.firings.proofs.SameLaws.{Within, any_same, below_all}

-- a list marks the numbers below b at which a digit is the lowest, or the highest
abbrev pub Lowest : (b w r : ℕ) → List ℕ → Type 0
Lowest b w r low = (i : ℕ) → i < b → mem low i ≡ is_lowest w r i

abbrev pub Highest : (b w r : ℕ) → List ℕ → Type 0
Highest b w r high = (i : ℕ) → i < b → mem high i ≡ is_highest w r i

module _ (w r n : ℕ) (low : List ℕ) (marks : Lowest (64 * n) w r low) (s t : ℕ → Bool) where
  pub folded_is : ((y : ℕ) → y < 64 * n → s y ≡ t y) → Within (64 * n) t → (i : ℕ) → i < 64 * n → folded_by w r n low s i ≡ zeroed_set w r t i
  unfolding folded_by zeroed_set
  folded_is e h i l =
      ap₂ (λ (a b : Bool). a && b)
      (any_same (λ d. below (64 * n) s (i + w * d)) (λ d. t (i + w * d)) r (λ d k. below_all s t (64 * n) e h (i + w * d)))
      (marks i l)
      ∙ and_comm (any_below (λ d. t (i + w * d)) r) (is_lowest w r i)

pub zeroed-within : (w r b : ℕ) (t : ℕ → Bool) → Within b t → Within b (zeroed_set w r t)
unfolding zeroed_set
zeroed-within w r b t h y e =
    let (a, q) = both_are (is_lowest w r y) (any_below (λ d. t (y + w * d)) r) e in
    let (d, l, k) = any_some (λ d. t (y + w * d)) r q in
    omega (arith, h (y + w * d) k)

-- where a digit is not 0, its weight is in the number
heavy : (w r x : ℕ) → 0 < w → is_lowest w r x ≡ false → w ≤ x
heavy w r x h e = by (dec_lt x w)
  where
    by : Dec (x < w) → w ≤ x
    by (yes l) = absurd (eqb-false (digit w r x) 0 e (ap (λ (y : ℕ). y % r) (div-eq_of_lt l) ∙ zero-mod r))
    by (no l) = omega arith

module _ (w r b : ℕ) (weight : 0 < w) (low high : List ℕ) (lowest : Lowest b w r low) (highest : Highest b w r high) where
  pub raised_is : (s : List ℕ) (t : ℕ → Bool) → ((y : ℕ) → y < b → mem s y ≡ t y)
      → (i : ℕ) → i < b → ((up w (mem s) i && not (mem low i)) || (mem s i && mem high i)) ≡ raised_set w r t i
  unfolding raised_set up
  raised_is s t e i l = ap₂ (λ (x y : Bool). x || y) (by (is_lowest w r i) refl) (ap₂ (λ (x y : Bool). x && y) (e i l) (highest i l) ∙ and_comm (t i) (is_highest w r i))
    where
      by : (x : Bool) → is_lowest w r i ≡ x → ((leb w i && mem s (i - w)) && not (mem low i)) ≡ (not (is_lowest w r i) && t (i - w))
      by true f = simp (lowest i l, f, and-false)
      by false f =
          let h : w ≤ i = heavy w r i weight f in
          simp (lowest i l, f, le-leb w i h, and-true) (e (i - w) (omega arith))

-- what is put in at the lowest and spread over all values is asked of the number with the digit 0
module _ (w r n : ℕ) (pw : 0 < w) (pr : 0 < r) (low : List ℕ) (marks : Lowest (64 * n) w r low) (s : ℕ → Bool) where
  abbrev at_low : ℕ → Bool
  at_low y = s y && mem low y

  -- a number whose digit is 0, and d values more of it
  zeroed_plus : (d : ℕ) → d < r → (y : ℕ) → digit w r y ≡ 0 → zeroed w r (y + w * d) ≡ y
  zeroed_plus d h = as_built w r pw pr (λ y. digit w r y ≡ 0 → zeroed w r (y + w * d) ≡ y) on
    where
      on : (l e k : ℕ) → l < w → e < r → digit w r (built w r l e k) ≡ 0 → zeroed w r (built w r l e k + w * d) ≡ built w r l e k
      on l e k f g q =
          let none : e ≡ 0 = sym (digit_built w r l e k f g) ∙ q in
          let at : built w r l e k + w * d ≡ built w r l d k = ap (λ (x : ℕ). built w r l x k + w * d) none ∙ omega arith in
          ap (zeroed w r) at ∙ zeroed_built w r pw pr l d k f h ∙ ap (λ (x : ℕ). built w r l x k) (sym none)

  zeroed_low : (i : ℕ) → digit w r (zeroed w r i) ≡ 0
  zeroed_low = as_built w r pw pr (λ i. digit w r (zeroed w r i) ≡ 0) (λ l d h f g. ap (digit w r) (zeroed_built w r pw pr l d h f g) ∙ digit_built w r l 0 h f pr)

  zeroed-back : (i : ℕ) → i ≡ w * digit w r i + zeroed w r i
  zeroed-back =
      as_built w r pw pr (λ i. i ≡ w * digit w r i + zeroed w r i)
      (λ l d h f g.
      sym (ap₂ (λ (x y : ℕ). w * x + y) (digit_built w r l d h f g) (zeroed_built w r pw pr l d h f g) ∙ omega arith))

  spread-to : (i : ℕ) → i < 64 * n → spread_by w r n low s i ≡ true → s (zeroed w r i) ≡ true
  unfolding spread_by
  spread-to i h e =
      let (d, few, q) = any_some (λ d. up (w * d) (below (64 * n) at_low) i) r e in
      let (y, there, p) = up-some (below (64 * n) at_low) (w * d) i q in
      let (l, member) = below-some at_low (64 * n) y p in
      let (a, b) = both_are (s y) (mem low y) member in
      let at : i ≡ y + w * d = omega arith in
      let same : zeroed w r i ≡ y = ap (zeroed w r) at ∙ zeroed_plus d few y (eqb-true (digit w r y) 0 (sym (marks y l) ∙ b)) in
      ap s same ∙ a

  spread-from : (i : ℕ) → i < 64 * n → s (zeroed w r i) ≡ true → spread_by w r n low s i ≡ true
  unfolding spread_by
  spread-from i h e =
      let y : ℕ = zeroed w r i in
      let l : y < 64 * n = omega (arith, zeroed-back i) in
      some_any (λ d. up (w * d) (below (64 * n) at_low) i) r (digit w r i) (mod-lt (i / w) pr)
      (some_up (below (64 * n) at_low) (w * digit w r i) i y (zeroed-back i)
      (some_below at_low (64 * n) y l (both e (marks y l ∙ eq-eqb (digit w r y) 0 (zeroed_low i)))))

  pub spread-is : (i : ℕ) → i < 64 * n → spread_by w r n low s i ≡ s (zeroed w r i)
  spread-is i h = same_test (spread_by w r n low s i) (s (zeroed w r i)) (spread-to i h) (spread-from i h)

pub zeroed_least : (w r i : ℕ) → zeroed w r i ≤ i
unfolding zeroed
zeroed_least w r i = omega arith
