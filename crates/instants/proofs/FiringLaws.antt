-- Some firing passes a test exactly if the test holds of one.
use Prim.Native.Nat.{ℕ, ◌<◌}
use mathlib.Core.Path.{◌≡◌, refl, ap, ◌∙◌}
use mathlib.Core.Bool.{Bool, true, ◌&&◌, false≢true}
use Rattle.std.specs.Prelude.{Option, Some, None, slice_get}
use lib.ListN.{length}
use Rattle.model.specs.Rule.{masks, allows}
use Rattle.model.specs.Monitor.{Monitor, Transition}
use Rattle.std.proofs.lemmas.Option.{slice_get_within}
use Rattle.words.specs.Words.{any_below}
use Rattle.instants.specs.Grid.{assignments}
use Rattle.instants.specs.Firing.{fits, guessed, of_transition, some_firing}
use Rattle.instants.proofs.TestLaws.{both_are, both, any_some, some_any}

-- one that passes
pub record Found (m : Monitor) (recorded : Option ℕ) (f : Transition → (w v : ℕ) → Bool) : Type 0 where
  pub index : ℕ
  pub transition : Transition
  pub window : ℕ
  pub variables : ℕ
  pub listed : slice_get m.transitions index ≡ Some transition
  pub fit : fits recorded transition ≡ true
  pub allowed : allows m.rule window (guessed m recorded transition) ≡ true
  pub window-below : window < masks m.rule
  pub variables-below : variables < assignments m
  pub passes : f transition window variables ≡ true

of_some : (g : Transition → Bool) (o : Option Transition) → of_transition g o ≡ true → (t : Transition) × (o ≡ Some t) × (g t ≡ true)
of_some g None e = absurd (false≢true e)
of_some g (Some t) e = (t, refl, e)

module _ (m : Monitor) (recorded : Option ℕ) (f : Transition → (w v : ℕ) → Bool) where
  -- the test of one transition in one window, and of one window
  abbrev of_variables : (w : ℕ) → Transition → Bool
  of_variables w t = (fits recorded t && allows m.rule w (guessed m recorded t)) && any_below (λ v. f t w v) (assignments m)

  abbrev of_window : ℕ → Bool
  of_window w = any_below (λ j. of_transition (of_variables w) (slice_get m.transitions j)) (length m.transitions)

  pub firing_found : some_firing m recorded f ≡ true → Found m recorded f
  unfolding some_firing
  firing_found e =
      let (w, below, p) = any_some of_window (masks m.rule) e in
      let (j, few, q) = any_some (λ i. of_transition (of_variables w) (slice_get m.transitions i)) (length m.transitions) p in
      let (t, listed, g) = of_some (of_variables w) (slice_get m.transitions j) q in
      let (h, any) = both_are (fits recorded t && allows m.rule w (guessed m recorded t)) (any_below (λ v. f t w v) (assignments m)) g in
      let (fit, allowed) = both_are (fits recorded t) (allows m.rule w (guessed m recorded t)) h in
      let (v, small, passes) = any_some (λ v. f t w v) (assignments m) any in
      record {
        index = j;
        transition = t;
        window = w;
        variables = v;
        listed = listed;
        fit = fit;
        allowed = allowed;
        window-below = below;
        variables-below = small;
        passes = passes;
      }

  pub found_firing : Found m recorded f → some_firing m recorded f ≡ true
  unfolding some_firing
  found_firing r =
      some_any of_window (masks m.rule) r.window r.window-below
      (some_any (λ i. of_transition (of_variables r.window) (slice_get m.transitions i)) (length m.transitions) r.index
      (slice_get_within m.transitions r.index r.transition r.listed)
      (ap (of_transition (of_variables r.window)) r.listed
      ∙ both (both r.fit r.allowed) (some_any (λ v. f r.transition r.window v) (assignments m) r.variables r.variables-below r.passes)))
