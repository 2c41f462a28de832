-- The lowest state that is not found, and 17.
use Prim.Native.Nat.{ℕ, ◌<◌}
use mathlib.Core.Path.{◌≡◌, refl, ap, subst}
use mathlib.Core.Bool.{Bool, true, false}
use Rattle.model.specs.First.{unless, first_of, Reading}
use Rattle.model.specs.Reach.{lowest_missing}
use Rattle.std.specs.Prelude.{Ok, Err}
use Rattle.model.specs.declared.Refusal.TheVariants.{TableState}
use Rattle.model.proofs.Basics.{unless-sound}
use Rattle.model.proofs.Places.{tab-same}
use Rattle.model.proofs.Tests.{sound_unsound, first_passed, first-refused, passed_each, refused_which}

module _ (found : ℕ → Bool) where
  abbrev tested : ℕ → Reading
  tested s = unless (found s) (TableState s)

  passes : (s : ℕ) → found s ≡ true → tested s ≡ Ok tt
  passes s e = rw e

  pub all_found : (n : ℕ) → ((s : ℕ) → s < n → found s ≡ true) → lowest_missing found n ≡ Ok tt
  unfolding lowest_missing
  all_found n h = first_passed tested n (λ s l. passes s (h s l))

  pub found_all : (n : ℕ) → lowest_missing found n ≡ Ok tt → (s : ℕ) → s < n → found s ≡ true
  unfolding lowest_missing
  found_all n e s l = unless-sound (found s) (TableState s) (passed_each tested n e s l)

  pub one_missing : (n s : ℕ) → s < n → ((r : ℕ) → r < s → found r ≡ true) → found s ≡ false → lowest_missing found n ≡ Err (TableState s)
  unfolding lowest_missing
  one_missing n s l h e = first-refused tested n s (TableState s) l (λ r k. passes r (h r k)) (rw e)

  pub missing_one : (n s : ℕ) → lowest_missing found n ≡ Err (TableState s) → (s < n) × (found s ≡ false) × ((r : ℕ) → r < s → found r ≡ true)
  unfolding lowest_missing
  missing_one n s e =
      let w = refused_which tested n (TableState s) e in
      let here = refused w.0 (found w.0) refl w.3 in
      subst (λ (x : ℕ). (x < n) × (found x ≡ false) × ((r : ℕ) → r < x → found r ≡ true)) here.0
      (w.1, here.1, λ r l. unless-sound (found r) (TableState r) (w.2 r l))
    where
      refused : (i : ℕ) (b : Bool) → found i ≡ b → unless b (TableState i) ≡ Err (TableState s) → (i ≡ s) × (found i ≡ false)
      refused i true f q = absurd (sound_unsound (TableState s) q)
      refused i false f q = (cc, f)

pub missing_same : (f g : ℕ → Bool) → ((s : ℕ) → f s ≡ g s) → (n : ℕ) → lowest_missing f n ≡ lowest_missing g n
unfolding lowest_missing
missing_same f g h n = ap first_of (tab-same (tested f) (tested g) n (λ s l. ap (λ (b : Bool). unless b (TableState s)) (h s)))
