-- The test of R-8 finds just the reached states.
use Prim.Native.Nat.{ℕ, zero, suc, ◌<◌, ◌≤◌}
use native.Mathlib.Omega.{arith}
use mathlib.Core.Path.{◌≡◌, refl, sym, ap, subst, ◌∙◌}
use mathlib.Core.Logic.{◌↔◌, ◌⊎◌, inl, inr, ⊎_elim}
use mathlib.Core.List.Memᴰ
use mathlib.Core.List.{List, [], ◌∷◌, Memᴰ}
use mathlib.Core.Bool.{Bool, true, false, cond, false≢true}
use lib.ListN.{length}
use lib.Dec.{eqb}
use borrow.Author.Tests.{eqb-true, eq-eqb}
use Rattle.model.specs.Monitor.{Monitor, Transition}
use Rattle.model.specs.Reach.{Reached, initial, led, among, targets, reached_in, is_reached}
use Rattle.model.proofs.Basics.{or_cases, or_left, or_right}

-- lists of states

among_head : (s x : ℕ) (l : List ℕ) → s ≡ x → among s (x ∷ l) ≡ true
unfolding among
among_head s x l e = or_left (eqb s x) (among s l) (eq-eqb s x e)

among_tail : (s x : ℕ) (l : List ℕ) → among s l ≡ true → among s (x ∷ l) ≡ true
unfolding among
among_tail s x l e = or_right (eqb s x) (among s l) e

among_cases : (s x : ℕ) (l : List ℕ) → among s (x ∷ l) ≡ true → (s ≡ x) ⊎ (among s l ≡ true)
unfolding among
among_cases s x l e = ⊎_elim (λ q. inl (eqb-true s x q)) (λ q. inr q) (or_cases (eqb s x) (among s l) e)

among_none : (s : ℕ) → among s [] ≡ true → ⊥
unfolding among
among_none s e = false≢true e

-- one step

abbrev Within : List ℕ → List ℕ → Type 0
Within a b = (s : ℕ) → among s a ≡ true → among s b ≡ true

module _ (a : List ℕ) where
  targets-there : (ts : List Transition) (t : Transition) → Memᴰ t ts → among t.source a ≡ true → among t.target (targets ts a) ≡ true
  unfolding targets
  targets-there [] t i e = absurd (Memᴰ.not-nil i)
  targets-there (x ∷ ts) t i e = ⊎_elim (here (among x.source a) refl) (λ j. behind (among x.source a) (targets-there ts t j e)) (Memᴰ.cases_cons i)
    where
      here : (b : Bool) → among x.source a ≡ b → t ≡ x → among t.target (cond b (x.target ∷ targets ts a) (targets ts a)) ≡ true
      here true f q = among_head t.target x.target (targets ts a) (ap (λ (y : Transition). y.target) q)
      here false f q = absurd (false≢true (sym f ∙ ap (λ (y : Transition). among y.source a) (sym q) ∙ e))

      behind : (b : Bool) → among t.target (targets ts a) ≡ true → among t.target (cond b (x.target ∷ targets ts a) (targets ts a)) ≡ true
      behind true h = among_tail t.target x.target (targets ts a) h
      behind false h = h

  -- the transition by which a state is there
  targets-back : (ts : List Transition) (s : ℕ) → among s (targets ts a) ≡ true → (t : Transition) × Memᴰ t ts × (among t.source a ≡ true) × (s ≡ t.target)
  unfolding targets
  targets-back [] s e = absurd (among_none s e)
  targets-back (x ∷ ts) s e = go (among x.source a) refl (λ h. behind (targets-back ts s h)) e
    where
      By : List Transition → Type 0
      By us = (t : Transition) × Memᴰ t us × (among t.source a ≡ true) × (s ≡ t.target)

      behind : By ts → By (x ∷ ts)
      behind w = (w.0, Memᴰ.tail w.1, w.2, w.3)

      go : (b : Bool) → among x.source a ≡ b → (among s (targets ts a) ≡ true → By (x ∷ ts)) → among s (cond b (x.target ∷ targets ts a) (targets ts a)) ≡ true → By (x ∷ ts)
      go true f again h = ⊎_elim (λ q. (x, Memᴰ.head refl, f, q)) again (among_cases s x.target (targets ts a) h)
      go false f again h = again h

  targets-few : (ts : List Transition) → length (targets ts a) ≤ length ts
  unfolding targets
  targets-few [] = omega arith
  targets-few (x ∷ ts) = go (among x.source a) (targets-few ts)
    where
      go : (b : Bool) → length (targets ts a) ≤ length ts → length (cond b (x.target ∷ targets ts a) (targets ts a)) ≤ length (x ∷ ts)
      go true h = omega arith
      go false h = omega arith

-- from more states the same transitions start, or more
targets-more : (a b : List ℕ) → Within a b → (ts : List Transition) → (targets ts a ≡ targets ts b) ⊎ (length (targets ts a) < length (targets ts b))
unfolding targets
targets-more a b w [] = inl refl
targets-more a b w (x ∷ ts) = go (among x.source a) (among x.source b) (w x.source) (targets-more a b w ts)
  where
    with_first : Bool → List ℕ → List ℕ
    with_first c l = cond c (x.target ∷ targets ts l) (targets ts l)

    go : (c d : Bool) → (c ≡ true → d ≡ true) → (targets ts a ≡ targets ts b) ⊎ (length (targets ts a) < length (targets ts b))
        → (with_first c a ≡ with_first d b) ⊎ (length (with_first c a) < length (with_first d b))
    go true true h (inl e) = inl (ap (λ (l : List ℕ). x.target ∷ l) e)
    go true true h (inr l) = inr (omega arith)
    go true false h p = absurd (false≢true (h refl))
    go false true h (inl e) = inr (rw e (omega arith))
    go false true h (inr l) = inr (omega arith)
    go false false h p = p

-- any number of steps

module _ (ts : List Transition) where
  pub zero_there : (n : ℕ) → among 0 (reached_in n ts) ≡ true
  unfolding reached_in
  zero_there zero = among_head 0 0 [] refl
  zero_there (suc n) = among_head 0 0 (targets ts (reached_in n ts)) refl

  step-there : (n : ℕ) (t : Transition) → Memᴰ t ts → among t.source (reached_in n ts) ≡ true → among t.target (reached_in (suc n) ts) ≡ true
  unfolding reached_in
  step-there n t i e = among_tail t.target 0 (targets ts (reached_in n ts)) (targets-there (reached_in n ts) ts t i e)

  pub step_back : (n s : ℕ) → among s (reached_in (suc n) ts) ≡ true → (s ≡ 0) ⊎ ((t : Transition) × Memᴰ t ts × (among t.source (reached_in n ts) ≡ true) × (s ≡ t.target))
  unfolding reached_in
  step_back n s e = ⊎_elim (λ q. inl q) (λ h. inr (targets-back (reached_in n ts) ts s h)) (among_cases s 0 (targets ts (reached_in n ts)) e)

  pub zero_only : (s : ℕ) → among s (reached_in 0 ts) ≡ true → s ≡ 0
  unfolding reached_in
  zero_only s e = ⊎_elim (λ q. q) (λ h. absurd (among_none s h)) (among_cases s 0 [] e)

  rising : (n : ℕ) → Within (reached_in n ts) (reached_in (suc n) ts)
  rising zero s e = let q : s ≡ 0 = zero_only s e in rw q (zero_there 1)
  rising (suc n) s e =
      ⊎_elim (λ q. rw q (zero_there (suc (suc n)))) (λ w. rw w.3 (step-there (suc n) w.0 w.1 (rising n w.0.source w.2))) (step_back n s e)

  -- each further step adds a transition, or no step adds anything
  growing : (n : ℕ) → (reached_in (suc n) ts ≡ reached_in n ts) ⊎ (n < length (targets ts (reached_in n ts)))
  unfolding reached_in
  growing zero = go (targets ts (0 ∷ []))
    where
      go : (l : List ℕ) → (0 ∷ l ≡ 0 ∷ []) ⊎ (0 < length l)
      go [] = inl refl
      go (x ∷ l) = inr (omega arith)
  growing (suc n) =
      ⊎_elim (λ e. inl (ap (λ (l : List ℕ). 0 ∷ l) (sym e)))
      (λ more. ⊎_elim (λ e. inl (ap (λ (l : List ℕ). 0 ∷ targets ts l) e)) (λ h. inr (omega arith)) (growing n))
      (targets-more (reached_in n ts) (reached_in (suc n) ts) (rising n) ts)

  settled : reached_in (suc (length ts)) ts ≡ reached_in (length ts) ts
  settled = ⊎_elim (λ e. e) (λ h. absurd (omega (arith, targets-few (reached_in (length ts) ts) ts))) (growing (length ts))

module _ (m : Monitor) where
  reached_found : {s : ℕ} → Reached m s → is_reached m s ≡ true
  unfolding is_reached
  reached_found initial = zero_there m.transitions (length m.transitions)
  reached_found (led t i r) =
      let all : List Transition = m.transitions in
      subst (λ (l : List ℕ). among t.target l ≡ true) (settled all) (step-there all (length all) t i (reached_found r))

  reached_in_lem : (n s : ℕ) → among s (reached_in n m.transitions) ≡ true → Reached m s
  reached_in_lem zero s e = rw (zero_only m.transitions s e) initial
  reached_in_lem (suc n) s e =
      ⊎_elim (λ q. rw q initial) (λ w. rw w.3 (led w.0 w.1 (reached_in_lem n w.0.source w.2))) (step_back m.transitions n s e)

  -- a path of transitions leads to a state exactly if the test finds it
  pub reached_test : (s : ℕ) → Reached m s ↔ (is_reached m s ≡ true)
  unfolding is_reached
  reached_test s = (λ r. reached_found r, reached_in_lem (length m.transitions) s)
