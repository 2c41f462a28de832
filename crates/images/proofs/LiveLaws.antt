-- States that have a situation in a set, window by window, and the mask of them, state by state. Assumes nothing.
use Prim.Native.Nat.{ℕ, ◌+◌, ◌*◌, ◌^◌, ◌<◌}
use native.Mathlib.Decide.{dec_lt, ℕ_discrete}
use native.Mathlib.Omega.{arith}
use mathlib.Core.Path.{◌≡◌, refl, sym, ap, ◌∙◌}
use mathlib.Core.List.{List}
use mathlib.Core.Bool.{Bool, true, false, ◌&&◌, ◌||◌, and-false, or-false, false≢true}
use borrow.Author.Tests.{lt-ltb, le-ltb, eq-eqb, ne_eqb}
use lib.Dec.{eqb, ltb}
use Rattle.words.specs.Words.{bit, any_below}
use Rattle.words.proofs.Bit.{bit_zero}
use Rattle.situation.specs.declared.Shape.{Shape}
use Rattle.instants.proofs.TestLaws.{some_any}
use Rattle.words.proofs.AnyBelow.{any_none}
use Rattle.std.specs.Bool.{MatchBool}
use Rattle.std.specs.List.{HoldsAt, AllWithin, range_with_len}
use Rattle.std.proofs.lemmas.List.FromFn.{length-range_with_len, get_or-range_with_len}
use lib.ListN.{length, get_or}
use Rattle.firings.proofs.Bounds.{product, rows_fit}
use Rattle.images.specs.Living.{numbers_of, in_window, is_live}

-- where none passes, no number does
pub none_is : (p : ℕ → Bool) (n d : ℕ) → any_below p n ≡ false → d < n → p d ≡ false
none_is p n d e l = by (p d) refl
  where
    by : (b : Bool) → p d ≡ b → p d ≡ false
    by true h = absurd (false≢true (sym e ∙ some_any p n d l h))
    by false h = h

-- how large numbers get
module _ (h : Shape) (a : h.first < 65536) (b : h.second < 65536) (c : h.masks < 256) where
  pub numbers_near : numbers_of h < 2 ^ 40
  numbers_near = product 4294967296 256 (h.first * h.second) h.masks (product 65536 65536 h.first h.second a b) c

  pub all_near : (states windows : ℕ) → states < 256 → windows < 256 → numbers_of h * (states * windows) < 2 ^ 56
  all_near states windows k l = product (2 ^ 40) 65536 (numbers_of h) (states * windows) numbers_near (product 256 256 states windows k l)

  pub place_near : (d : h.states < 256) (state w : ℕ) → state < 256 → w < 256 → numbers_of h * (state + h.states * w) < 2 ^ 56
  place_near d state w k l = product (2 ^ 40) 65536 (numbers_of h) (state + h.states * w) numbers_near (rows_fit h.masks h.states state w c d k l)

-- what is found in one of the windows, said of the numbers in a list
pub live_is : (h : Shape) (s : List ℕ) (state : ℕ) (found : Bool)
    → MatchBool found
    ((k : ℕ) × (k < length (range_with_len 0 h.windows)) × HoldsAt (λ w. in_window h s state w ≡ true) (range_with_len 0 h.windows) k)
    (AllWithin (λ w. in_window h s state w ≡ false) (range_with_len 0 h.windows) 0 (length (range_with_len 0 h.windows)))
    → found ≡ is_live h s state
unfolding is_live
live_is h s state true (k, l, p) =
    let few : k < h.windows = omega (arith, length-range_with_len 0 h.windows) in
    let at : get_or (range_with_len 0 h.windows) k 0 ≡ k = omega (arith, get_or-range_with_len 0 h.windows k 0 few) in
    sym (some_any (in_window h s state) h.windows k few (ap (in_window h s state) (sym at) ∙ p 0))
live_is h s state false none =
    sym
    (any_none (in_window h s state) h.windows
    (λ k l.
    let at : get_or (range_with_len 0 h.windows) k 0 ≡ k = omega (arith, get_or-range_with_len 0 h.windows k 0 l) in
    ap (in_window h s state) (sym at) ∙ none k 0 (omega arith) (omega (arith, length-range_with_len 0 h.windows))))

-- the mask, state by state
module _ (f : ℕ → Bool) where
  pub mask_none : (q : ℕ) → bit 0 q ≡ (ltb q 0 && f q)
  mask_none q = bit_zero q ∙ sym (ap (λ (b : Bool). b && f q) (le-ltb q 0 (omega arith)))

  module _ (state q : ℕ) (x : Bool) (e : x ≡ (ltb q state && f q)) where
    pub mask_over : f state ≡ false → x ≡ (ltb q (state + 1) && f q)
    mask_over d = e ∙ by (ℕ_discrete q state) (dec_lt q state)
      where
        by : Dec (q ≡ state) → Dec (q < state) → (ltb q state && f q) ≡ (ltb q (state + 1) && f q)
        by (yes k) l =
            let z : f q ≡ false = ap f k ∙ d in
            simp (z, and-false)
        by (no k) (yes l) = simp (lt-ltb q state l, lt-ltb q (state + 1) (omega arith))
        by (no k) (no l) = simp (le-ltb q state (omega arith), le-ltb q (state + 1) (omega arith))

    pub mask_more : f state ≡ true → (x || eqb state q) ≡ (ltb q (state + 1) && f q)
    mask_more d = ap (λ (b : Bool). b || eqb state q) e ∙ by (ℕ_discrete q state) (dec_lt q state)
      where
        by : Dec (q ≡ state) → Dec (q < state) → ((ltb q state && f q) || eqb state q) ≡ (ltb q (state + 1) && f q)
        by (yes k) l =
            let z : f q ≡ true = ap f k ∙ d in
            simp (z, le-ltb q state (omega arith), eq-eqb state q (sym k), lt-ltb q (state + 1) (omega arith))
        by (no k) (yes l) = simp (lt-ltb q state l, lt-ltb q (state + 1) (omega arith), ne_eqb state q (λ z. k (sym z)), or-false)
        by (no k) (no l) = simp (le-ltb q state (omega arith), le-ltb q (state + 1) (omega arith), ne_eqb state q (λ z. k (sym z)))
