-- What a guard answers is just what R-10 says, and nothing else is: past its largest bound, waiting changes no guard.
use Prim.Native.Nat.{ℕ, zero, suc, ◌+◌, ◌≤◌, ◌<◌}
use native.Mathlib.Omega.{arith}
use native.Mathlib.Nat.{not-suc-le-zero}
use native.Mathlib.Decide.{dec_lt, dec_le}
use mathlib.Core.Path.{◌≡◌, refl, sym, ap, ap₂, ◌∙◌}
use mathlib.Core.Logic.{◌⊎◌, inl, inr, ⊎_elim}
use mathlib.Core.List.{List, [], ◌∷◌}
use mathlib.Core.Bool.{Bool, true, false, cond, not, ◌&&◌, ◌||◌, false≢true}
use lib.ListN.{length, get_or}
use Rattle.model.specs.Guard.{Guard, always, at_most, at_least, variable, negation, conjunction, holds}
use Rattle.model.specs.Readiness.{waited, GuardAnswers, greatest_bound, comes_by, readiness}
use Rattle.model.specs.Pairs.{same_answer}
use Rattle.model.specs.declared.Readiness.{Readiness}
use Rattle.model.specs.declared.Readiness.TheVariants.{Yes, NotYet, NoMore}
use Rattle.model.proofs.Basics.{leb_same, or_cases}

-- a clock that is there reads d more after d ticks; one that is not reads 0

pub waited-there : (c : List ℕ) (i d : ℕ) → i < length c → get_or (waited d c) i 0 ≡ get_or c i 0 + d
waited-there [] i d h = absurd (not-suc-le-zero h)
waited-there (x ∷ c) zero d h = refl
waited-there (x ∷ c) (suc i) d h = waited-there c i d (omega arith)

pub waited-past : (c : List ℕ) (i d : ℕ) → length c ≤ i → get_or (waited d c) i 0 ≡ 0
waited-past [] i d h = refl
waited-past (x ∷ c) zero d h = absurd (not-suc-le-zero h)
waited-past (x ∷ c) (suc i) d h = waited-past c i d (omega arith)

reads_waited : (c : List ℕ) (i : ℕ) → ((d : ℕ) → get_or (waited d c) i 0 ≡ get_or c i 0 + d) ⊎ ((d : ℕ) → get_or (waited d c) i 0 ≡ 0)
reads_waited c i = by (dec_lt i (length c))
  where
    by : Dec (i < length c) → ((d : ℕ) → get_or (waited d c) i 0 ≡ get_or c i 0 + d) ⊎ ((d : ℕ) → get_or (waited d c) i 0 ≡ 0)
    by (yes h) = inl (λ d. waited-there c i d h)
    by (no h) = inr (λ d. waited-past c i d (omega arith))

-- past the largest bound, one wait is as good as another
pub settled : (g : Guard) (v : ℕ) (c : List ℕ) (d e : ℕ) → greatest_bound g < d → greatest_bound g < e → holds g v (waited d c) ≡ holds g v (waited e c)
unfolding holds greatest_bound
settled always v c d e h k = refl
settled (at_most i t) v c d e h k = by (reads_waited c i)
  where
    by : ((x : ℕ) → get_or (waited x c) i 0 ≡ get_or c i 0 + x) ⊎ ((x : ℕ) → get_or (waited x c) i 0 ≡ 0) → holds (at_most i t) v (waited d c) ≡ holds (at_most i t) v (waited e c)
    by (inl r) = leb_same (get_or (waited d c) i 0) t (get_or (waited e c) i 0) t (λ p. omega (arith, r d)) (λ p. omega (arith, r e))
    by (inr r) = leb_same (get_or (waited d c) i 0) t (get_or (waited e c) i 0) t (λ p. omega (arith, r d, r e)) (λ p. omega (arith, r d, r e))
settled (at_least i t) v c d e h k = by (reads_waited c i)
  where
    by : ((x : ℕ) → get_or (waited x c) i 0 ≡ get_or c i 0 + x) ⊎ ((x : ℕ) → get_or (waited x c) i 0 ≡ 0) → holds (at_least i t) v (waited d c) ≡ holds (at_least i t) v (waited e c)
    by (inl r) = leb_same t (get_or (waited d c) i 0) t (get_or (waited e c) i 0) (λ p. omega (arith, r e)) (λ p. omega (arith, r d))
    by (inr r) = leb_same t (get_or (waited d c) i 0) t (get_or (waited e c) i 0) (λ p. omega (arith, r d, r e)) (λ p. omega (arith, r d, r e))
settled (variable x) v c d e h k = refl
settled (negation g) v c d e h k = ap not (settled g v c d e h k)
settled (conjunction g f) v c d e h k = ap₂ ◌&&◌ (settled g v c d e (omega arith) (omega arith)) (settled f v c d e (omega arith) (omega arith))

neither : (a b : Bool) → a || b ≡ false → (a ≡ false) × (b ≡ false)
neither true b e = absurd (false≢true (sym e))
neither false b e = (refl, e)

module _ (g : Guard) (v : ℕ) (c : List ℕ) where
  comes : (n : ℕ) → comes_by n g v c ≡ true → (d : ℕ) × (1 ≤ d) × (holds g v (waited d c) ≡ true)
  unfolding comes_by
  comes zero e = absurd (false≢true e)
  comes (suc n) e = ⊎_elim (λ p. comes n p) (λ p. (suc n, omega arith, p)) (or_cases (comes_by n g v c) (holds g v (waited (suc n) c)) e)

  comes_not : (n : ℕ) → comes_by n g v c ≡ false → (d : ℕ) → 1 ≤ d → d ≤ n → holds g v (waited d c) ≡ false
  unfolding comes_by
  comes_not zero e d h k = absurd (not-suc-le-zero {n = d} (omega arith))
  comes_not (suc n) e d h k =
      let (before, last) = neither (comes_by n g v c) (holds g v (waited (suc n) c)) e in
      by (λ p. comes_not n before d h p) last (dec_le d n)
    where
      by : (d ≤ n → holds g v (waited d c) ≡ false) → holds g v (waited (suc n) c) ≡ false → Dec (d ≤ n) → holds g v (waited d c) ≡ false
      by earlier last (yes p) = earlier p
      by earlier last (no p) = let same : d ≡ suc n = omega arith in rw same last

  -- a guard that holds after none of the waits 1 to n, where n is above its largest bound, never will
  pub never : (n : ℕ) → greatest_bound g < n → ((d : ℕ) → 1 ≤ d → d ≤ n → holds g v (waited d c) ≡ false) → (d : ℕ) → 1 ≤ d → holds g v (waited d c) ≡ false
  never n b h d k = by (dec_le d n)
    where
      by : Dec (d ≤ n) → holds g v (waited d c) ≡ false
      by (yes p) = h d k p
      by (no p) = settled g v c d n (omega arith) b ∙ h n (omega arith) (omega arith)

  -- the function gives the answer
  pub answers : GuardAnswers g v c (readiness g v c)
  unfolding readiness
  answers = by (holds g v c) refl (comes_by (suc (greatest_bound g)) g v c) refl
    where
      by : (now : Bool) → holds g v c ≡ now → (later : Bool) → comes_by (suc (greatest_bound g)) g v c ≡ later → GuardAnswers g v c (cond now Yes (cond later NotYet NoMore))
      by true p later q = p
      by false p true q = (p, comes (suc (greatest_bound g)) q)
      by false p false q = (p, never (suc (greatest_bound g)) (omega arith) (comes_not (suc (greatest_bound g)) q))

  clash : {A : Type 0} {b : Bool} → b ≡ true → b ≡ false → A
  clash p q = absurd (false≢true (sym q ∙ p))

  -- there is but one answer
  one_answer : (a b : Readiness) → GuardAnswers g v c a → GuardAnswers g v c b → a ≡ b
  one_answer Yes Yes p q = refl
  one_answer Yes NotYet p q = clash p q.0
  one_answer Yes NoMore p q = clash p q.0
  one_answer NotYet Yes p q = clash q p.0
  one_answer NotYet NotYet p q = refl
  one_answer NotYet NoMore p q = let (d, h, e) = p.1 in clash e (q.1 d h)
  one_answer NoMore Yes p q = clash q p.0
  one_answer NoMore NotYet p q = let (d, h, e) = q.1 in clash e (p.1 d h)
  one_answer NoMore NoMore p q = refl

  pub answer-is : (a : Readiness) → GuardAnswers g v c a → a ≡ readiness g v c
  answer-is a h = one_answer a (readiness g v c) h answers

-- clocks at which a guard has the same value after every wait give it the same answer
pub same-readiness : (g : Guard) (v : ℕ) (b c : List ℕ) → holds g v b ≡ holds g v c → ((d : ℕ) → holds g v (waited d b) ≡ holds g v (waited d c)) → readiness g v b ≡ readiness g v c
same-readiness g v b c now later = answer-is g v c (readiness g v b) (by (readiness g v b) (answers g v b))
  where
    by : (a : Readiness) → GuardAnswers g v b a → GuardAnswers g v c a
    by Yes h = sym now ∙ h
    by NotYet h = let (d, k, e) = h.1 in (sym now ∙ h.0, (d, k, sym (later d) ∙ e))
    by NoMore h = (sym now ∙ h.0, λ d k. sym (later d) ∙ h.1 d k)

-- a guard answers yes just where it holds
pub yes_holds : (g : Guard) (v : ℕ) (c : List ℕ) → same_answer Yes (readiness g v c) ≡ holds g v c
unfolding readiness
yes_holds g v c = by (holds g v c) (comes_by (suc (greatest_bound g)) g v c)
  where
    by : (now later : Bool) → same_answer Yes (cond now Yes (cond later NotYet NoMore)) ≡ now
    by true later = refl
    by false true = refl
    by false false = refl
