-- A set repeated at a period, and the numbers by a digit. Assumes nothing.
use mathlib.Core.Path.{◌≡◌, refl, sym, ap, ap₂, subst, ◌∙◌}
use mathlib.Core.Bool.{Bool, false, ◌&&◌, ◌||◌, and-false, or-false}
use mathlib.Core.List.{List, ◌++◌}
use Prim.Native.Nat.{ℕ, ◌+◌, ◌-◌, ◌*◌, ◌/◌, ◌%◌, ◌^◌, ◌≤◌, ◌<◌, min}
use native.Mathlib.Nat.{mod-eq_of_lt, mod-lt, mod-le, mul-le-mul_left, mul-le-mul_right, mul_comm, add-mul, one-mul}
use native.Mathlib.Decide.{dec_lt}
use native.Mathlib.Omega.{arith}
use borrow.Author.Tests.{lt-ltb, le-ltb, le-leb, lt-leb}
use lib.Dec.{leb, ltb}
use borrow.Rule.Slice.PartMut.{same_len_mid}
use lib.ListN.{length, drop, take}
use lib.Seq.{length-take-le}
use lib.Arith.{mod-mul}
use Rattle.words.specs.Words.{mem, Is, Bits, bit}
use Rattle.words.proofs.Sets.{mem-past}
use Rattle.words.proofs.Bit.{bit_mask, bit_zero}
use Rattle.shifts.specs.Shifted.{upward}
use Rattle.strides.specs.Strides.{with_moved}
use Rattle.strides.proofs.Parts.{mem_part, mem-within, mem-behind}

ltb_same : (a b c d : ℕ) → (a < b → c < d) → (c < d → a < b) → Dec (a < b) → Dec (c < d) → ltb a b ≡ ltb c d
ltb_same a b c d f g (yes h) e = lt-ltb a b h ∙ sym (lt-ltb c d (f h))
ltb_same a b c d f g (no h) (yes l) = absurd (h (g l))
ltb_same a b c d f g (no h) (no l) = le-ltb a b (omega arith) ∙ sym (le-ltb c d (omega arith))

-- the words of the numbers below e
module _ (k e : ℕ) where
  below_by : (x m : ℕ) → ((j : ℕ) → bit x j ≡ ltb j m) → ((j : ℕ) → j < 64 → j < m → 64 * k + j < e) → ((j : ℕ) → j < 64 → 64 * k + j < e → j < m) → m ≤ 64
      → (j : ℕ) → Dec (j < 64) → bit x j ≡ (ltb j 64 && ltb (64 * k + j) e)
  below_by x m b f g h j (yes l) = b j ∙ ltb_same j m (64 * k + j) e (f j l) (g j l) (dec_lt j m) (dec_lt (64 * k + j) e) ∙ simp (lt-ltb j 64 l)
  below_by x m b f g h j (no l) = b j ∙ simp (le-ltb j m (omega arith), le-ltb j 64 (omega arith))

  below-bits : (x m : ℕ) → ((j : ℕ) → bit x j ≡ ltb j m) → ((j : ℕ) → j < 64 → j < m → 64 * k + j < e) → ((j : ℕ) → j < 64 → 64 * k + j < e → j < m) → m ≤ 64
      → Bits 64 (λ j. ltb (64 * k + j) e) x
  below-bits x m b f g h = record { bits = λ j. below_by x m b f g h j (dec_lt j 64) }

  pub below_all : k < e / 64 → Bits 64 (λ j. ltb (64 * k + j) e) (2 ^ 64 - 1)
  below_all h = below-bits (2 ^ 64 - 1) 64 (bit_mask 64) (λ j l m. omega arith) (λ j l m. l) (omega arith)

  pub below-some : k ≡ e / 64 → Bits 64 (λ j. ltb (64 * k + j) e) (2 ^ (e % 64) - 1)
  below-some h = below-bits (2 ^ (e % 64) - 1) (e % 64) (bit_mask (e % 64)) (λ j l m. omega arith) (λ j l m. omega arith) (omega arith)

  pub below_none : e / 64 < k → Bits 64 (λ j. ltb (64 * k + j) e) 0
  below_none h = below-bits 0 0 (λ j. bit_zero j ∙ sym (le-ltb j 0 (omega arith))) (λ j l m. absurd (omega arith)) (λ j l m. absurd (omega arith)) (omega arith)

-- only the first m words are joined, since nothing is further up
module _ (s y : List ℕ) (e m : ℕ) (h : m ≤ length s) (most : m < length s → e / 32 < m) (none : (i : ℕ) → e ≤ i → mem s i ≡ false)
    (x : Is (with_moved upward e (mem (take m s))) (take m s) y) (size : length y ≡ m) where
  size' : length (take m s) ≡ m
  size' = length-take-le m s h

  first : (i : ℕ) → i < 64 * m → mem (take m s) i ≡ mem s i
  first i l = let z : 64 * 0 + i ≡ i = omega arith in mem_part s 0 m i l ∙ ap (mem s) z

  grown_by : (i : ℕ) → i < 64 * length s → Dec (i < 64 * m) → mem (y ++ drop m s) i ≡ with_moved upward e (mem s) i
  grown_by i l (yes b) =
      let z : 64 * 0 + i ≡ i = omega arith in
      ap (λ (n : ℕ). mem (y ++ drop m s) n) (sym z)
      ∙ mem-within s y (drop m s) 0 (omega arith) i (omega arith)
      ∙ x.all i (omega (arith, size'))
      ∙ ap₂ (λ (p q : Bool). p || (leb e i && q)) (first i b) (first (i - e) (omega arith))
  grown_by i l (no b) =
      mem-behind s y 0 m (omega arith) size i (omega arith)
      ∙ (let far = most (omega arith) in simp (none i (omega arith), none (i - e) (omega arith), and-false))

  pub grown : Is (with_moved upward e (mem s)) s (y ++ drop m s)
  grown = record { size = same_len_mid 0 m s y (size ∙ sym size'); all = λ i l. grown_by i l (dec_lt i (64 * m)) }

-- one period, then two times as much
pub period_first : (s : List ℕ) (e : ℕ) → ((i : ℕ) → e ≤ i → mem s i ≡ false) → Is (λ x. ltb x e && mem s (x % e)) s s
period_first s e none = record { size = refl; all = λ i l. at i (dec_lt i e) }
  where
    at : (i : ℕ) → Dec (i < e) → mem s i ≡ (ltb i e && mem s (i % e))
    at i (yes l) = simp (lt-ltb i e l, mod-eq_of_lt l)
    at i (no l) = none i (omega arith) ∙ simp (le-ltb i e (omega arith))

module _ (s a b : List ℕ) (p e : ℕ) (again : (x : ℕ) → (e + x) % p ≡ x % p) (x : Is (λ i. ltb i e && mem s (i % p)) s a) where
  pub period_none : (i : ℕ) → e ≤ i → mem a i ≡ false
  period_none i l = by (dec_lt i (64 * length s))
    where
      by : Dec (i < 64 * length s) → mem a i ≡ false
      by (yes m) = x.all i m ∙ simp (le-ltb i e l)
      by (no m) = mem-past a i (subst (λ (n : ℕ). 64 * n ≤ i) (sym x.size) (omega arith))

  pub period_more : Is (with_moved upward e (mem a)) a b → Is (λ i. ltb i (2 * e) && mem s (i % p)) s b
  period_more y =
      record {
        size = y.size ∙ x.size;
        all = λ i l. y.all i (subst (λ (n : ℕ). i < 64 * n) (sym x.size) l) ∙ ap (λ (t : Bool). t || (leb e i && mem a (i - e))) (x.all i l) ∙ at i l (dec_lt i e) (dec_lt i (2 * e));
      }
    where
      at : (i : ℕ) → i < 64 * length s → Dec (i < e) → Dec (i < 2 * e) → ((ltb i e && mem s (i % p)) || (leb e i && mem a (i - e))) ≡ (ltb i (2 * e) && mem s (i % p))
      at i l (yes m) n = simp (lt-ltb i e m, lt-leb e i m, lt-ltb i (2 * e) (omega arith), or-false)
      at i l (no m) (yes n) =
          let back : e + (i - e) ≡ i = omega arith in
          simp (le-ltb i e (omega arith), le-leb e i (omega arith), lt-ltb i (2 * e) n)
          (x.all (i - e) (omega arith) ∙ simp (lt-ltb (i - e) e (omega arith)) (ap (mem s) (sym (again (i - e)) ∙ ap (λ (t : ℕ). t % p) back)))
      at i l (no m) (no n) =
          simp (le-ltb i e (omega arith), le-ltb i (2 * e) (omega arith), period_none (i - e) (omega arith), and-false)

-- a digit below n, by what is left at its period
module _ (w r n x : ℕ) (hw : 0 < w) (hr : 0 < r) where
  left : x % (w * r) ≡ x / w % r * w + x % w
  left = ap (λ (m : ℕ). x % m) (mul_comm w r) ∙ mod-mul x hr hw

  capped : min n r * w ≡ w * min n r
  capped = mul_comm (min n r) w

  digit-there : x % (w * r) < w * min n r → x / w % r < n
  digit-there l = by (dec_lt (x / w % r) (min n r))
    where
      by : Dec (x / w % r < min n r) → x / w % r < n
      by (yes h) = omega arith
      by (no h) = let m : min n r ≤ x / w % r = omega arith in absurd (omega (arith, left, capped, mul-le-mul_right w m))

  digit-back : x / w % r < n → x % (w * r) < w * min n r
  digit-back l =
      let small = mod-lt (x / w) hr in
      let rest = mod-lt x hw in
      let one : (x / w % r + 1) * w ≡ x / w % r * w + w = add-mul (x / w % r) 1 w ∙ ap (λ (m : ℕ). x / w % r * w + m) (one-mul w) in
      let m : x / w % r + 1 ≤ min n r = omega arith in
      omega (arith, left, capped, one, mul-le-mul_right w m)

  digit-below : ltb (x % (w * r)) (w * min n r) ≡ ltb (x / w % r) n
  digit-below = ltb_same (x % (w * r)) (w * min n r) (x / w % r) n digit-there digit-back (dec_lt (x % (w * r)) (w * min n r)) (dec_lt (x / w % r) n)

-- the numbers below w * min n r, repeated at w * r
module _ (s a b : List ℕ) (w r n : ℕ) (hw : 0 < w) (hr : 0 < r) (x : Is (λ i. ltb i (w * min n r)) s a) where
  inside : w * min n r ≤ w * r
  inside = let m : min n r ≤ r = omega arith in mul-le-mul_left w m

  pub low_none : (i : ℕ) → w * r ≤ i → mem a i ≡ false
  low_none i l = by (dec_lt i (64 * length s))
    where
      by : Dec (i < 64 * length s) → mem a i ≡ false
      by (yes m) = x.all i m ∙ le-ltb i (w * min n r) (omega (arith, inside))
      by (no m) = mem-past a i (subst (λ (k : ℕ). 64 * k ≤ i) (sym x.size) (omega arith))

  pub digits : Is (λ i. mem a (i % (w * r))) a b → Is (λ i. ltb (i / w % r) n) s b
  digits y =
      record {
        size = y.size ∙ x.size;
        all = λ i l. y.all i (subst (λ (k : ℕ). i < 64 * k) (sym x.size) l) ∙ x.all (i % (w * r)) (le-lt (i % (w * r)) i (mod-le i (w * r)) l) ∙ digit-below w r n i hw hr;
      }
    where
      le-lt : (m i : ℕ) → m ≤ i → i < 64 * length s → m < 64 * length s
      le-lt m i h l = omega arith
