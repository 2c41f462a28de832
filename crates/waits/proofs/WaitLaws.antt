-- Words of waits: what complement, intersection and the first so many are, and what an empty set says.
use Prim.Native.Nat.{ℕ, zero, suc, ◌+◌, ◌-◌, ◌*◌, ◌/◌, ◌%◌, ◌^◌, ◌<◌, ◌≤◌, min}
use native.Mathlib.Omega.{arith}
use native.Mathlib.Nat.{pow-suc, not-suc-le-zero}
use native.Mathlib.Decide.{dec_lt}
use mathlib.Core.Path.{◌≡◌, refl, sym, ap, ap₂, fun_ext, ◌∙◌}
use mathlib.Core.Bool.{Bool, true, false, cond, not, ◌&&◌, false≢true}
use mathlib.Core.List.{List, [], ◌∷◌}
use Rattle.std.specs.Prelude.{map}
use Rattle.std.proofs.lemmas.List.Sums.{AllPass-from_list_all}
use lib.ListN.{length, get_or}
use lib.Dec.{leb, ltb, eqb}
use lib.Bits.{bit_and, and_step}
use borrow.Author.Tests.{le-leb, lt-leb, lt-ltb, le-ltb, eqb-true, eqb-false}
use Rattle.model.specs.Readiness.{waited}
use Rattle.model.proofs.Basics.{leb_same}
use Rattle.model.proofs.ReadinessLaws.{waited-there}
use Rattle.waits.specs.Waits.{bits_of, word_of, waits_of, others, common, is_none}

-- bits

bits_agree : (n : ℕ) (p q : ℕ → Bool) → ((j : ℕ) → j < n → p j ≡ q j) → bits_of n p ≡ bits_of n q
unfolding bits_of
bits_agree zero p q h = refl
bits_agree (suc n) p q h =
    ap₂ (λ (b : Bool) (x : ℕ). cond b 1 0 + 2 * x) (h 0 (omega arith)) (bits_agree n (λ j. p (suc j)) (λ j. q (suc j)) (λ j l. h (suc j) (omega arith)))

none_bits : (n : ℕ) → bits_of n (λ j. false) ≡ 0
unfolding bits_of
none_bits zero = refl
none_bits (suc n) = omega (arith, none_bits n)

-- a set and its complement make up all
both_bits : (n : ℕ) (p : ℕ → Bool) → bits_of n (λ j. not (p j)) + bits_of n p + 1 ≡ 2 ^ n
unfolding bits_of
both_bits zero p = refl
both_bits (suc n) p = by (p 0) (both_bits n (λ j. p (suc j)))
  where
    by : (b : Bool) → bits_of n (λ j. not (p (suc j))) + bits_of n (λ j. p (suc j)) + 1 ≡ 2 ^ n
        → (cond (not b) 1 0 + 2 * bits_of n (λ j. not (p (suc j)))) + (cond b 1 0 + 2 * bits_of n (λ j. p (suc j))) + 1 ≡ 2 ^ suc n
    by true e = omega (arith, pow-suc 2 n)
    by false e = omega (arith, pow-suc 2 n)

halved : (b : Bool) (x : ℕ) → (cond b 1 0 + 2 * x) / 2 ≡ x
halved true x = omega arith
halved false x = omega arith

lowest : (b : Bool) (x : ℕ) → (cond b 1 0 + 2 * x) % 2 ≡ cond b 1 0
lowest true x = omega arith
lowest false x = omega arith

and_bits : (n : ℕ) (p q : ℕ → Bool) → bit_and (bits_of n p) (bits_of n q) ≡ bits_of n (λ j. p j && q j)
unfolding bits_of
and_bits zero p q = refl
and_bits (suc n) p q =
    let a : ℕ = bits_of n (λ j. p (suc j)) in
    let b : ℕ = bits_of n (λ j. q (suc j)) in
    and_step (cond (p 0) 1 0 + 2 * a) (cond (q 0) 1 0 + 2 * b)
    ∙ rw (halved (p 0) a, halved (q 0) b, lowest (p 0) a, lowest (q 0) b, and_bits n (λ j. p (suc j)) (λ j. q (suc j))) (by (p 0) (q 0) (bits_of n (λ j. p (suc j) && q (suc j))))
  where
    by : (b c : Bool) (x : ℕ) → x * 2 + min (cond b 1 0) (cond c 1 0) ≡ cond (b && c) 1 0 + 2 * x
    by true true x = omega arith
    by true false x = omega arith
    by false true x = omega arith
    by false false x = omega arith

ltb_suc : (j e : ℕ) → Dec (j < e) → ltb (suc j) (suc e) ≡ ltb j e
ltb_suc j e (yes h) = lt-ltb (suc j) (suc e) (omega arith) ∙ sym (lt-ltb j e h)
ltb_suc j e (no h) = le-ltb (suc j) (suc e) (omega arith) ∙ sym (le-ltb j e (omega arith))

first-bits : (n e : ℕ) → e ≤ n → bits_of n (λ j. ltb j e) + 1 ≡ 2 ^ e
unfolding bits_of
first-bits zero zero h = refl
first-bits zero (suc e) h = absurd (not-suc-le-zero h)
first-bits (suc n) zero h = omega (arith, bits_agree n (λ j. ltb (suc j) 0) (λ j. false) (λ j l. le-ltb (suc j) 0 (omega arith)), none_bits n)
first-bits (suc n) (suc e) h =
    rw (lt-ltb 0 (suc e) (omega arith))
    (omega (arith, pow-suc 2 e, first-bits n e (omega arith), bits_agree n (λ j. ltb (suc j) (suc e)) (λ j. ltb j e) (λ j l. ltb_suc j e (dec_lt j e))))

no_bits : (n : ℕ) (p : ℕ → Bool) → bits_of n p ≡ 0 → (j : ℕ) → j < n → p j ≡ false
unfolding bits_of
no_bits zero p e j h = absurd (not-suc-le-zero h)
no_bits (suc n) p e zero h = by (p 0) e
  where
    by : (b : Bool) → cond b 1 0 + 2 * bits_of n (λ j. p (suc j)) ≡ 0 → b ≡ false
    by true q = absurd (omega arith)
    by false q = refl
no_bits (suc n) p e (suc j) h = no_bits n (λ j. p (suc j)) (omega arith) j (omega arith)

some-bit : (n : ℕ) (p : ℕ → Bool) → (bits_of n p ≡ 0 → ⊥) → (j : ℕ) × (p j ≡ true)
unfolding bits_of
some-bit zero p h = absurd (h refl)
some-bit (suc n) p h = by (p 0) refl (λ f. some-bit n (λ j. p (suc j)) f) h
  where
    by : (b : Bool) → p 0 ≡ b → ((bits_of n (λ j. p (suc j)) ≡ 0 → ⊥) → (j : ℕ) × (p (suc j) ≡ true)) → (cond b 1 0 + 2 * bits_of n (λ j. p (suc j)) ≡ 0 → ⊥) → (j : ℕ) × (p j ≡ true)
    by true e later f = (0, e)
    by false e later f = let found = later (λ z. f (omega arith)) in (suc found.0, found.1)

-- words

-- words that are the same behind every start
same_words : (f g : ℕ → ℕ) → ((from : ℕ) → f from ≡ g from) → map f (0 ∷ 64 ∷ 128 ∷ 192 ∷ []) ≡ map g (0 ∷ 64 ∷ 128 ∷ 192 ∷ [])
same_words f g h = ap (λ (f : ℕ → ℕ). map f (0 ∷ 64 ∷ 128 ∷ 192 ∷ [])) (fun_ext h)

module _ (p : ℕ → Bool) where
  word_rest : (from : ℕ) → word_of (λ d. not (p d)) from ≡ 18446744073709551615 - word_of p from
  word_rest from = omega (arith, both_bits 64 (λ j. p (suc (from + j))))

  pub waits_not : waits_of (λ d. not (p d)) ≡ others (waits_of p)
  waits_not = same_words _ (λ from. 18446744073709551615 - word_of p from) word_rest

  word_none : (from : ℕ) → word_of p from ≡ 0 → (d : ℕ) → from < d → d ≤ from + 64 → p d ≡ false
  word_none from e d h k =
      let place : suc (from + (d - suc from)) ≡ d = omega arith in
      ap p (sym place) ∙ no_bits 64 (λ j. p (suc (from + j))) e (d - suc from) (omega arith)

  word_some : (from : ℕ) → (word_of p from ≡ 0 → ⊥) → (d : ℕ) × (1 ≤ d) × (p d ≡ true)
  word_some from h = let found = some-bit 64 (λ j. p (suc (from + j))) h in (suc (from + found.0), omega arith, found.1)

  -- no wait in an empty set passes
  pub none_waits : is_none (waits_of p) ≡ true → (d : ℕ) → 1 ≤ d → d ≤ 256 → p d ≡ false
  none_waits e d h k =
      let empty = AllPass-from_list_all (λ word. eqb word 0) (waits_of p) e in
      by (λ i l. eqb-true _ 0 (empty i 0 l)) (dec_lt d 65) (dec_lt d 129) (dec_lt d 193)
    where
      by : ((i : ℕ) → i < 4 → get_or (waits_of p) i 0 ≡ 0) → Dec (d < 65) → Dec (d < 129) → Dec (d < 193) → p d ≡ false
      by empty (yes a) y z = word_none 0 (empty 0 (omega arith)) d (omega arith) (omega arith)
      by empty (no a) (yes b) z = word_none 64 (empty 1 (omega arith)) d (omega arith) (omega arith)
      by empty (no a) (no b) (yes c) = word_none 128 (empty 2 (omega arith)) d (omega arith) (omega arith)
      by empty (no a) (no b) (no c) = word_none 192 (empty 3 (omega arith)) d (omega arith) (omega arith)

  -- some wait of words that are not all empty does
  words-some : (starts : List ℕ) → is_none (map (word_of p) starts) ≡ false → (d : ℕ) × (1 ≤ d) × (p d ≡ true)
  words-some [] e = absurd (false≢true (sym e))
  words-some (from ∷ starts) e = by (eqb (word_of p from) 0) refl (words-some starts) e
    where
      by : (b : Bool) → eqb (word_of p from) 0 ≡ b → (is_none (map (word_of p) starts) ≡ false → (d : ℕ) × (1 ≤ d) × (p d ≡ true)) → (b && is_none (map (word_of p) starts)) ≡ false
          → (d : ℕ) × (1 ≤ d) × (p d ≡ true)
      by true f later e = later e
      by false f later e = word_some from (eqb-false (word_of p from) 0 f)

  pub some-wait : is_none (waits_of p) ≡ false → (d : ℕ) × (1 ≤ d) × (p d ≡ true)
  some-wait e = words-some (0 ∷ 64 ∷ 128 ∷ 192 ∷ []) e

pub waits_and : (p q : ℕ → Bool) → waits_of (λ d. p d && q d) ≡ common (waits_of p) (waits_of q)
waits_and p q =
    same_words _ (λ from. bit_and (word_of p from) (word_of q from))
    (λ from. sym (and_bits 64 (λ j. p (suc (from + j))) (λ j. q (suc (from + j)))))

none_word : (from : ℕ) → word_of (λ d. false) from ≡ 0
none_word from = none_bits 64

all_word : (from : ℕ) → word_of (λ d. true) from ≡ 18446744073709551615
all_word from = omega (arith, word_rest (λ d. false) from, none_word from)

pub waits_none : 0 ∷ 0 ∷ 0 ∷ 0 ∷ [] ≡ waits_of (λ d. false)
waits_none = same_words (λ from. 0) _ (λ from. sym (none_word from))

pub waits_all : 18446744073709551615 ∷ 18446744073709551615 ∷ 18446744073709551615 ∷ 18446744073709551615 ∷ [] ≡ waits_of (λ d. true)
waits_all = same_words (λ from. 18446744073709551615) _ (λ from. sym (all_word from))

-- the waits up to last, word by word

module _ (last from : ℕ) where
  pub up_to_all : 64 + from ≤ last → word_of (λ d. leb d last) from ≡ 18446744073709551615
  up_to_all h = bits_agree 64 (λ j. leb (suc (from + j)) last) (λ j. true) (λ j l. le-leb (suc (from + j)) last (omega arith)) ∙ all_word from

  pub up_to_some : (e : ℕ) → e ≤ 64 → last - from ≡ e → word_of (λ d. leb d last) from + 1 ≡ 2 ^ e
  up_to_some e h q =
      ap (λ (x : ℕ). x + 1) (bits_agree 64 (λ j. leb (suc (from + j)) last) (λ j. ltb j e) (λ j l. by j (dec_lt j e))) ∙ first-bits 64 e h
    where
      by : (j : ℕ) → Dec (j < e) → leb (suc (from + j)) last ≡ ltb j e
      by j (yes l) = le-leb (suc (from + j)) last (omega arith) ∙ sym (lt-ltb j e l)
      by j (no l) = lt-leb (suc (from + j)) last (omega arith) ∙ sym (le-ltb j e (omega arith))

-- the waits after which a clock is at most, or at least, t

same_waits : (p q : ℕ → Bool) → ((d : ℕ) → p d ≡ q d) → waits_of p ≡ waits_of q
same_waits p q h = ap waits_of (fun_ext h)

module _ (c : List ℕ) (n t : ℕ) where
  abbrev most : ℕ → Bool
  most d = leb (get_or (waited d c) n 0) t

  abbrev least : ℕ → Bool
  least d = leb t (get_or (waited d c) n 0)

module _ (c : List ℕ) (n t reads : ℕ) (there : n < length c) (e : reads ≡ get_or c n 0) where
  pub past-most : t < reads → waits_of (λ d. false) ≡ waits_of (most c n t)
  past-most h = same_waits (λ d. false) (most c n t) (λ d. sym (lt-leb (get_or (waited d c) n 0) t (omega (arith, waited-there c n d there))))

  pub still-most : (last : ℕ) → reads ≤ t → last ≡ t - reads → waits_of (λ d. leb d last) ≡ waits_of (most c n t)
  still-most last h q =
      same_waits (λ d. leb d last) (most c n t)
      (λ d. leb_same d last (get_or (waited d c) n 0) t (λ l. omega (arith, waited-there c n d there)) (λ l. omega (arith, waited-there c n d there)))

-- at least t is not at most t - 1
pub least_most : (c : List ℕ) (n t less : ℕ) → 1 ≤ t → less ≡ t - 1 → others (waits_of (most c n less)) ≡ waits_of (least c n t)
least_most c n t less h e =
    sym (waits_not (most c n less))
    ∙ same_waits (λ d. not (most c n less d)) (least c n t) (λ d. by (get_or (waited d c) n 0) (dec_lt (get_or (waited d c) n 0) t))
  where
    by : (x : ℕ) → Dec (x < t) → not (leb x less) ≡ leb t x
    by x (yes l) = ap not (le-leb x less (omega arith)) ∙ sym (lt-leb t x l)
    by x (no l) = ap not (lt-leb x less (omega arith)) ∙ sym (le-leb t x (omega arith))
