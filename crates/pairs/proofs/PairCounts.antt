-- Counting pairs, one transition and one situation after the other.
use Prim.Native.Nat.{ℕ, zero, suc, ◌+◌, ◌*◌, ◌≤◌}
use native.Mathlib.Omega.{arith}
use native.Mathlib.Nat.{suc-mul}
use native.Mathlib.Numerals.{add-one}
use mathlib.Core.Path.{◌≡◌, refl, sym, ap, ◌∙◌}
use mathlib.Core.List.{List}
use mathlib.Core.Bool.{Bool, true, false, cond}
use Rattle.std.specs.Prelude.{Option, None}
use lib.Dec.{eqb}
use borrow.Author.Tests.{ne_eqb}
use Rattle.model.specs.Pairs.{how_many, pairs, is_answer, answer_in}
use Rattle.model.specs.declared.Readiness.{Readiness}
use Rattle.model.specs.declared.Readiness.TheVariants.{NotYet, NoMore}
use Rattle.model.specs.declared.Situation.{Situation}
use Rattle.pairs.specs.declared.Pairs.{Pairs}
use Rattle.pairs.specs.Pairing.{answers_as, Tallied}

-- numbers that pass

pub none_passed : (p : ℕ → Bool) → how_many p 0 ≡ 0
unfolding how_many
none_passed p = refl

pub few_pass : (p : ℕ → Bool) (n : ℕ) → how_many p n ≤ n
unfolding how_many
few_pass p zero = omega arith
few_pass p (suc n) = by (p n) (few_pass p n)
  where
    by : (b : Bool) → how_many p n ≤ n → how_many p n + cond b 1 0 ≤ suc n
    by true h = omega arith
    by false h = omega arith

none_pass : (p : ℕ → Bool) (n : ℕ) → ((j : ℕ) → p j ≡ false) → how_many p n ≡ 0
unfolding how_many
none_pass p zero h = refl
none_pass p (suc n) h = rw (h n) (omega (arith, none_pass p n h))

pub same_pass : (p q : ℕ → Bool) (n : ℕ) → ((j : ℕ) → p j ≡ q j) → how_many p n ≡ how_many q n
unfolding how_many
same_pass p q zero h = refl
same_pass p q (suc n) h = rw (same_pass p q n h, h n)

pub pass_more : (p : ℕ → Bool) (j : ℕ) → how_many p (j + 1) ≡ how_many p j + cond (p j) 1 0
unfolding how_many
pass_more p j = ap (how_many p) (add-one j)

pub ruleset passing = (none_passed, pass_more, few_pass)

-- no answer of one situation is counted

pub no_answers : {test : Readiness → ℕ → Bool} {l : ℕ} {r : Pairs} → ((a : Readiness) (j : ℕ) → test a j ≡ false) → (r.early ≡ 0) × (r.late ≡ 0) → Tallied test l r
no_answers {test} {l} none r =
    record { early = r.0 ∙ sym (none_pass (test NotYet) l (none NotYet)); late = r.1 ∙ sym (none_pass (test NoMore) l (none NoMore)) }

module _ (table offsets : List ℕ) (s : Situation) where
  pub says_nothing : (heard : Option ℕ) → heard ≡ None → (a : Readiness) (j : ℕ) → answers_as table offsets heard s a j ≡ false
  unfolding answer_in
  says_nothing heard e a j = rw e (by (eqb s.air 0))
    where
      by : (b : Bool) → is_answer a (cond b None None) ≡ false
      by true = refl
      by false = refl

  pub says_taken : (heard : Option ℕ) → (s.air ≡ 0 → ⊥) → (a : Readiness) (j : ℕ) → answers_as table offsets heard s a j ≡ false
  unfolding answer_in
  says_taken heard taken a j = rw (ne_eqb s.air 0 taken)

-- the situations of a row, one after the other: those below n are counted
pub record Counting (test : Readiness → ℕ → ℕ → Bool) (n l : ℕ) (r : Pairs) : Type 0 where
  pub early : r.early ≡ pairs (test NotYet) n l
  pub late : r.late ≡ pairs (test NoMore) n l

pub no_pairs : (p : ℕ → ℕ → Bool) (l : ℕ) → pairs p 0 l ≡ 0
unfolding pairs
no_pairs p l = refl

pub few-pairs : (p : ℕ → ℕ → Bool) (n l : ℕ) → l ≤ 64 → pairs p n l ≤ n * 64
unfolding pairs
few-pairs p zero l h = omega arith
few-pairs p (suc n) l h = omega (arith, few-pairs p n l h, few_pass (p n) l, suc-mul n 64)

pub pairs-more : (p : ℕ → ℕ → Bool) (n l : ℕ) → pairs p (n + 1) l ≡ pairs p n l + how_many (p n) l
unfolding pairs
pairs-more p n l = ap (λ (x : ℕ). pairs p x l) (add-one n)

pub ruleset counting = (no_pairs, pairs-more, few-pairs, few_pass)
