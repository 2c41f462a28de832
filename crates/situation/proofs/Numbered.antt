-- By the shape of a monitor, clocks, numbers and situations are those of the model, and each number and situation gives back the other.
use Prim.Native.Nat.{ℕ, ◌+◌, ◌/◌, ◌%◌, ◌^◌, ◌<◌, min}
use native.Mathlib.Nat.{mod-eq_of_lt, one-le-pow}
use native.Mathlib.Omega.{arith}
use mathlib.Core.Path.{◌≡◌, refl, ap, ap₂, ◌∙◌}
use mathlib.Core.List.{List, [], ◌∷◌}
use lib.ListN.{get_or}
use borrow.Author.Tests.{ne_eqb}
use Rattle.model.specs.Monitor.{Monitor}
use Rattle.model.specs.Size.{cap, size, largest_airtime}
use Rattle.model.specs.Situation.{InRange, capped, number, situation_of}
use Rattle.model.specs.Sane.{Sane}
use Rattle.model.specs.declared.Situation.{Situation}
use Rattle.model.proofs.Numbering.{pos_masks, number-below, back, forth}
use Rattle.situation.specs.declared.Shape.{Shape}
use Rattle.situation.specs.Numbering.{Fits, capped_by, number_by, digit_by, rest_by, situation_by}

-- a digit and what stands above it, where the radix and the number are the model's

digit_of : (x n : ℕ) {r q : ℕ} → x ≡ n → 0 < r → r ≡ q → digit_by r x ≡ n % q
unfolding digit_by
digit_of x n {r} e h f = (simp (ne_eqb r 0 (λ z. omega arith))) ∙ ap₂ (λ (y p : ℕ). y % p) e f

rest_by_lem : (x n : ℕ) {r q : ℕ} → x ≡ n → 0 < r → r ≡ q → rest_by r x ≡ n / q
unfolding rest_by
rest_by_lem x n {r} e h f = (simp (ne_eqb r 0 (λ z. omega arith))) ∙ ap₂ (λ (y p : ℕ). y / p) e f

module _ {h : Shape} {m : Monitor} (fits : Fits h m) where
  pub same-capped : (c : List ℕ) → capped_by h c ≡ capped m c
  unfolding capped_by capped
  same-capped c =
      ap₂ (λ (u v : ℕ). min (get_or c 0 0) u ∷ min (get_or c 1 0) v ∷ []) (omega (arith, fits.first)) (omega (arith, fits.second))

  pub same_number : (s : Situation) → number_by h s ≡ number m s
  unfolding number_by number
  same_number s = simp (fits.states, fits.masks, fits.first, fits.second, fits.windows)

  module _ (sane : Sane m) (small : largest_airtime m < 256) where
    pub same_situation : (n : ℕ) → n < size m → situation_by h n ≡ situation_of m n
    unfolding situation_by situation_of
    same_situation n below =
        let masks : 0 < h.masks = rw fits.masks (one-le-pow m.variables 2 (omega arith)) in
        let states : 0 < h.states = rw fits.states sane.states in
        let windows : 0 < h.windows = rw fits.windows (pos_masks m.rule) in
        let n1 : ℕ = n / (cap m 0 + 1) in
        let n2 : ℕ = n1 / (cap m 1 + 1) in
        let n3 : ℕ = n2 / 2 ^ m.variables in
        let n4 : ℕ = n3 / m.states in
        let r1 : ℕ = rest_by h.first n in
        let r2 : ℕ = rest_by h.second r1 in
        let r3 : ℕ = rest_by h.masks r2 in
        let r4 : ℕ = rest_by h.states r3 in
        let q1 : r1 ≡ n1 = rest_by_lem n n refl (omega arith) fits.first in
        let q2 : r2 ≡ n2 = rest_by_lem r1 n1 q1 (omega arith) fits.second in
        let q3 : r3 ≡ n3 = rest_by_lem r2 n2 q2 masks fits.masks in
        let q4 : r4 ≡ n4 = rest_by_lem r3 n3 q3 states fits.states in
        let q5 : rest_by h.windows r4 ≡ (situation_of m n).air = rest_by_lem r4 n4 q4 windows fits.windows in
        λ i.
        record {
          clocks = (ap₂ (λ (x y : ℕ). x ∷ y ∷ []) (digit_of n n refl (omega arith) fits.first) (digit_of r1 n1 q1 (omega arith) fits.second)) i;
          variables = digit_of r2 n2 q2 masks fits.masks i;
          state = digit_of r3 n3 q3 states fits.states i;
          window = digit_of r4 n4 q4 windows fits.windows i;
          air = (ap (λ (x : ℕ). x % 256) q5 ∙ mod-eq_of_lt (omega (arith, (forth sane n below).1.air))) i;
        }

    pub situation_number : (s : Situation) → InRange m s → situation_by h (number_by h s) ≡ s
    situation_number s r = ap (situation_by h) (same_number s) ∙ same_situation (number m s) (number-below r) ∙ back r

    pub number_situation : (n : ℕ) → n < size m → number_by h (situation_by h n) ≡ n
    number_situation n below = ap (number_by h) (same_situation n below) ∙ same_number (situation_of m n) ∙ (forth sane n below).0
