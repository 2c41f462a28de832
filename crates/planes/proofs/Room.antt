-- The words that a guard's sets have in hand, and parts of them that are lent. Assumes nothing.
use mathlib.Core.Path.{◌≡◌, sym, ap, ap₂, subst, ◌∙◌}
use mathlib.Core.Bool.{Bool, not, ◌&&◌}
use mathlib.Core.List.{List, ◌++◌}
use Prim.Native.Nat.{ℕ, suc, ◌+◌, ◌-◌, ◌*◌, ◌/◌, ◌%◌, ◌≤◌, ◌<◌}
use native.Mathlib.Nat.{mul-le-mul_left, mul-one, mul-add}
use native.Mathlib.Omega.{arith}
use lib.ListN.{length, take, drop, length-drop, get_or-append}
use Rattle.std.proofs.lemmas.List.{get_or-take}
use lib.Seq.{length-take-le}
use Rattle.model.specs.Guard.{GuardRead}
use Rattle.words.specs.Words.{bit, mem, Is}
use Rattle.strides.proofs.Parts.{mem-before, mem-within}
use Rattle.planes.specs.Built.{Built, in_hand}
use Rattle.std.specs.Prelude.{Option}

module _ (n d at end : ℕ) where
  pub room_one : 0 < d → n ≤ n * in_hand d at end
  room_one h = let less : 1 ≤ in_hand d at end = omega arith in omega (arith, mul-one n, mul-le-mul_left n less)

  pub room_two : 1 < d → at + 1 < end → 2 * n ≤ n * in_hand d at end
  room_two h l = let less : 2 ≤ in_hand d at end = omega arith in omega (arith, mul-le-mul_left n less)

  -- the second guard of a conjunction, one less deep
  pub room_next : (c k : ℕ) → suc c ≡ d → at + 1 < k → at + 1 < end → n * in_hand c k end + n ≤ n * in_hand d at end
  room_next c k h l m =
      let less : in_hand c k end + 1 ≤ in_hand d at end = omega arith in
      omega (arith, mul-add n (in_hand c k end) 1, mul-one n, mul-le-mul_left n less)

-- the first n words, lent and back
module _ (s y : List ℕ) (n : ℕ) (h : n ≤ length s) where
  pub first-length : length (take n s) ≡ n
  first-length = length-take-le n s h

  first-there : (i : ℕ) → i < 64 * n → mem (take n s) i ≡ mem s i
  unfolding mem
  first-there i l = ap (λ (w : ℕ). bit w (i % 64)) (get_or-take n s (i / 64) 0 (omega arith))

  pub first_back : length y ≡ n → (i : ℕ) → i < 64 * n → mem (y ++ drop n s) i ≡ mem y i
  unfolding mem
  first_back e i l = ap (λ (w : ℕ). bit w (i % 64)) (get_or-append y (drop n s) 0 (i / 64) (omega arith))

  pub first_not : Is (λ i. not (mem (take n s) i)) (take n s) y → (i : ℕ) → i < 64 * n → mem (y ++ drop n s) i ≡ not (mem s i)
  first_not x i l = first_back (x.size ∙ first-length) i l ∙ x.all i (subst (λ (k : ℕ). i < 64 * k) (sym first-length) l) ∙ ap not (first-there i l)

  pub first_built : (f g : ℕ) (x : GuardRead) (r : Option ℕ) → length y ≡ length (take n s) → Built f g (length (take n s)) x r y → Built f g n x r (y ++ drop n s)
  first_built f g x r e b =
      record {
        ends = b.ends;
        all = λ o k p i l. first_back (e ∙ first-length) i l ∙ b.all o k p i (subst (λ (m : ℕ). i < 64 * m) (sym first-length) l);
      }

-- the words from word n on, lent and back
module _ (s y : List ℕ) (n : ℕ) (h : n ≤ length s) where
  pub rest-length : length (take (length s - n) (drop n s)) ≡ length s - n
  rest-length = length-take-le (length s - n) (drop n s) (omega (arith, length-drop n s))

  module _ (e : length y ≡ length (take (length s - n) (drop n s))) where
    pub rest-before : (i : ℕ) → i < 64 * n → mem (take n s ++ (y ++ drop (length s - n) (drop n s))) i ≡ mem s i
    rest-before i l = mem-before s y (drop (length s - n) (drop n s)) n h i l

    pub rest-within : (i : ℕ) → i < 64 * (length s - n) → mem (take n s ++ (y ++ drop (length s - n) (drop n s))) (64 * n + i) ≡ mem y i
    rest-within i l = mem-within s y (drop (length s - n) (drop n s)) n h i (subst (λ (k : ℕ). i < 64 * k) (sym (e ∙ rest-length)) l)

pub rest-common : (s y b : List ℕ) (n : ℕ) → 2 * n ≤ length s → length y ≡ length (take (length s - n) (drop n s))
    → ((i : ℕ) → i < 64 * n → mem b i ≡ (mem (take n s ++ (y ++ drop (length s - n) (drop n s))) i && mem (take n s ++ (y ++ drop (length s - n) (drop n s))) (64 * n + i)))
    → (i : ℕ) → i < 64 * n → mem b i ≡ (mem s i && mem y i)
rest-common s y b n h e is i l =
    let fits : n ≤ length s = omega arith in
    is i l ∙ ap₂ (λ (p q : Bool). p && q) (rest-before s y n fits e i l) (rest-within s y n fits e i (omega arith))
