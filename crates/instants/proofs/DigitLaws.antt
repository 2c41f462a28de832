-- What raising a digit and making it 0 do with a number, and with a set.
use Prim.Native.Nat.{ℕ, zero, suc, ◌+◌, ◌-◌, ◌*◌, ◌/◌, ◌%◌, ◌<◌, min}
use native.Mathlib.Nat.{add-mul-mod_self_left, add-mul-div_left, mod-eq_of_lt, div-eq_of_lt, zero-add, mod-lt, mod-add-div}
use native.Mathlib.Decide.{ℕ_discrete}
use native.Mathlib.Omega.{arith}
use mathlib.Core.Path.{◌≡◌, sym, ap, subst, ◌∙◌}
use mathlib.Core.Logic.{⊎_elim}
use mathlib.Core.Bool.{Bool, true, not, ◌&&◌}
use borrow.Author.Tests.{eqb-true, eqb-false, eq-eqb, ne_eqb, not-true}
use Rattle.words.specs.Words.{any_below}
use Rattle.instants.specs.Digit.{digit, is_lowest, is_highest, raised, zeroed, raised_set, zeroed_set}
use Rattle.instants.proofs.TestLaws.{both_are, both, either_is, first-is, second_is, any_some, some_any}

-- a number by its part l below the digit's weight w, the digit d, of r values, and the part h above
abbrev pub built : (w r l d h : ℕ) → ℕ
built w r l d h = l + w * (d + r * h)

pub low_mod : (d r q : ℕ) → d < r → (d + r * q) % r ≡ d
low_mod d r q h = add-mul-mod_self_left d r q ∙ mod-eq_of_lt h

pub low_div : (d r q : ℕ) → d < r → (d + r * q) / r ≡ q
low_div d r q h = add-mul-div_left d q (omega arith) ∙ ap (λ (x : ℕ). x + q) (div-eq_of_lt h) ∙ zero-add q

pub digit_built : (w r l d h : ℕ) → l < w → d < r → digit w r (built w r l d h) ≡ d
digit_built w r l d h f g = ap (λ (x : ℕ). x % r) (low_div l w (d + r * h) f) ∙ low_mod d r h g

pub rebuilt : (w r x : ℕ) → built w r (x % w) (digit w r x) (x / w / r) ≡ x
rebuilt w r x = ap (λ (y : ℕ). x % w + w * y) (mod-add-div (x / w) r) ∙ mod-add-div x w

-- one value more of the digit, and none
one_more : (w r l d h : ℕ) → built w r l d h + w ≡ built w r l (suc d) h
one_more w r l d h = omega arith

none_left : (w r l d h : ℕ) → built w r l d h ≡ built w r l 0 h + w * d
none_left w r l d h = omega arith

minus : (x y z : ℕ) → x ≡ y + z → x - z ≡ y
minus x y z e = omega arith

module _ (w r : ℕ) where
  raised_highest : (x : ℕ) → digit w r x + 1 ≡ r → raised w r x ≡ x
  unfolding raised
  raised_highest x e = rw (eq-eqb (digit w r x + 1) r e)

  raised_other : (x : ℕ) → (digit w r x + 1 ≡ r → ⊥) → raised w r x ≡ x + w
  unfolding raised
  raised_other x e = rw (ne_eqb (digit w r x + 1) r e)

module _ (w r : ℕ) (pw : 0 < w) (pr : 0 < r) where
  module _ (l d h : ℕ) (low : l < w) (less : d < r) where
    pub raised_built : raised w r (built w r l d h) ≡ built w r l (min (d + 1) (r - 1)) h
    raised_built = by (ℕ_discrete (d + 1) r)
      where
        is : digit w r (built w r l d h) ≡ d
        is = digit_built w r l d h low less

        by : Dec (d + 1 ≡ r) → raised w r (built w r l d h) ≡ built w r l (min (d + 1) (r - 1)) h
        by (yes e) =
            let top : d ≡ min (d + 1) (r - 1) = omega arith in
            raised_highest w r (built w r l d h) (omega (arith, is)) ∙ ap (λ (x : ℕ). built w r l x h) top
        by (no e) =
            let next : suc d ≡ min (d + 1) (r - 1) = omega arith in
            raised_other w r (built w r l d h) (λ q. e (omega (arith, is))) ∙ one_more w r l d h ∙ ap (λ (x : ℕ). built w r l x h) next

    pub zeroed_built : zeroed w r (built w r l d h) ≡ built w r l 0 h
    unfolding zeroed
    zeroed_built =
        ap (λ (x : ℕ). built w r l d h - w * x) (digit_built w r l d h low less) ∙ minus (built w r l d h) (built w r l 0 h) (w * d) (none_left w r l d h)

  -- every number is built of such parts
  pub as_built : (P : ℕ → Type 0) → ((l d h : ℕ) → l < w → d < r → P (built w r l d h)) → (x : ℕ) → P x
  as_built P f x = subst P (rebuilt w r x) (f (x % w) (digit w r x) (x / w / r) (mod-lt x pw) (mod-lt (x / w) pr))

  module _ (s : ℕ → Bool) where
    -- a set with the digit raised: the numbers raised from its members
    pub raised-from : (z : ℕ) → raised_set w r s z ≡ true → (x : ℕ) × (s x ≡ true) × (raised w r x ≡ z)
    unfolding raised_set
    raised-from = as_built (λ z. raised_set w r s z ≡ true → (x : ℕ) × (s x ≡ true) × (raised w r x ≡ z)) on
      where
        up : (l d h : ℕ) → l < w → d < r → not (is_lowest w r (built w r l d h)) ≡ true → s (built w r l d h - w) ≡ true
            → (x : ℕ) × (s x ≡ true) × (raised w r x ≡ built w r l d h)
        up l zero h f g e q = absurd (eqb-false (digit w r (built w r l 0 h)) 0 (not-true _ e) (digit_built w r l 0 h f g))
        up l (suc d) h f g e q =
            let lower : built w r l (suc d) h - w ≡ built w r l d h = minus (built w r l (suc d) h) (built w r l d h) w (sym (one_more w r l d h)) in
            let next : min (d + 1) (r - 1) ≡ suc d = omega arith in
            (built w r l d h, subst (λ (x : ℕ). s x ≡ true) lower q, raised_built l d h f (omega arith) ∙ ap (λ (x : ℕ). built w r l x h) next)

        on : (l d h : ℕ) → l < w → d < r → raised_set w r s (built w r l d h) ≡ true → (x : ℕ) × (s x ≡ true) × (raised w r x ≡ built w r l d h)
        on l d h f g e =
            ⊎_elim
            (λ q. let (a, b) = both_are (not (is_lowest w r (built w r l d h))) (s (built w r l d h - w)) q in up l d h f g a b)
            (λ q.
            let (a, b) = both_are (is_highest w r (built w r l d h)) (s (built w r l d h)) q in
            (built w r l d h, b, raised_highest w r (built w r l d h) (eqb-true _ r a)))
            (either_is (not (is_lowest w r (built w r l d h)) && s (built w r l d h - w)) (is_highest w r (built w r l d h) && s (built w r l d h)) e)

    pub raised-to : (x : ℕ) → s x ≡ true → raised_set w r s (raised w r x) ≡ true
    unfolding raised_set
    raised-to = as_built (λ x. s x ≡ true → raised_set w r s (raised w r x) ≡ true) on
      where
        on : (l d h : ℕ) → l < w → d < r → s (built w r l d h) ≡ true → raised_set w r s (raised w r (built w r l d h)) ≡ true
        on l d h f g e = by (ℕ_discrete (d + 1) r)
          where
            by : Dec (d + 1 ≡ r) → raised_set w r s (raised w r (built w r l d h)) ≡ true
            by (yes q) =
                let top : digit w r (built w r l d h) + 1 ≡ r = omega (arith, digit_built w r l d h f g) in
                subst (λ (z : ℕ). raised_set w r s z ≡ true) (sym (raised_highest w r (built w r l d h) top))
                (second_is (not (is_lowest w r (built w r l d h)) && s (built w r l d h - w)) (both (eq-eqb _ r top) e))
            by (no q) =
                let next : raised w r (built w r l d h) ≡ built w r l (suc d) h =
                raised_other w r (built w r l d h) (λ t. q (omega (arith, digit_built w r l d h f g))) ∙ one_more w r l d h in
                let lower : built w r l d h ≡ built w r l (suc d) h - w = sym (minus (built w r l (suc d) h) (built w r l d h) w (sym (one_more w r l d h))) in
                subst (λ (z : ℕ). raised_set w r s z ≡ true) (sym next)
                (first-is (is_highest w r (built w r l (suc d) h) && s (built w r l (suc d) h))
                (both
                (ap not (ne_eqb (digit w r (built w r l (suc d) h)) 0 (λ t. omega (arith, digit_built w r l (suc d) h f (omega arith)))))
                (subst (λ (y : ℕ). s y ≡ true) lower e)))

    -- a set with the digit 0: the numbers zeroed from its members
    pub zeroed-from : (z : ℕ) → zeroed_set w r s z ≡ true → (x : ℕ) × (s x ≡ true) × (zeroed w r x ≡ z)
    unfolding zeroed_set
    zeroed-from = as_built (λ z. zeroed_set w r s z ≡ true → (x : ℕ) × (s x ≡ true) × (zeroed w r x ≡ z)) on
      where
        at : (l d h : ℕ) → l < w → d < r → d ≡ 0 → any_below (λ i. s (built w r l d h + w * i)) r ≡ true
            → (x : ℕ) × (s x ≡ true) × (zeroed w r x ≡ built w r l d h)
        at l zero h f g e q =
            let (d, k, v) = any_some (λ i. s (built w r l 0 h + w * i)) r q in
            (built w r l d h, subst (λ (x : ℕ). s x ≡ true) (sym (none_left w r l d h)) v, zeroed_built l d h f k)
        at l (suc d) h f g e q = absurd (omega arith)

        on : (l d h : ℕ) → l < w → d < r → zeroed_set w r s (built w r l d h) ≡ true → (x : ℕ) × (s x ≡ true) × (zeroed w r x ≡ built w r l d h)
        on l d h f g e =
            let (a, b) = both_are (is_lowest w r (built w r l d h)) (any_below (λ i. s (built w r l d h + w * i)) r) e in
            at l d h f g (sym (digit_built w r l d h f g) ∙ eqb-true _ 0 a) b

    pub zeroed-to : (x : ℕ) → s x ≡ true → zeroed_set w r s (zeroed w r x) ≡ true
    unfolding zeroed_set
    zeroed-to = as_built (λ x. s x ≡ true → zeroed_set w r s (zeroed w r x) ≡ true) on
      where
        on : (l d h : ℕ) → l < w → d < r → s (built w r l d h) ≡ true → zeroed_set w r s (zeroed w r (built w r l d h)) ≡ true
        on l d h f g e =
            subst (λ (z : ℕ). zeroed_set w r s z ≡ true) (sym (zeroed_built l d h f g))
            (both (eq-eqb _ 0 (digit_built w r l 0 h f pr))
            (some_any (λ i. s (built w r l 0 h + w * i)) r d g (subst (λ (y : ℕ). s y ≡ true) (none_left w r l d h) e)))
