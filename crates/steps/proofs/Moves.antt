-- What the step's code rests on: a rule is no part of how a monitor fires, and a row is added by a transition from the situation's state.
use Prim.Native.Nat.{ℕ}
use mathlib.Core.Path.{◌≡◌, refl}
use mathlib.Core.Bool.{Bool, false}
use Rattle.std.specs.Prelude.{Option, Some, None, is_some}
use native.Mathlib.Omega.{arith}
use Rattle.std.proofs.lemmas.Bool.Decides.{nat_tests}
use Rattle.model.specs.Monitor.{Monitor, under, fires, is_guess, within_rule}
use Rattle.model.specs.Situation.{add, sent, moved, step_by}
use Rattle.model.specs.declared.Config.{Config}
use Rattle.model.specs.declared.Rule.{Rule}
use Rattle.model.specs.declared.Situation.{Situation}
use Rattle.model.proofs.Basics.{get_elem_tab, get_elem_tab_past}
use Rattle.situation.specs.declared.Shape.{Shape}
use Rattle.situation.specs.Numbering.{capped_by}
use Rattle.steps.specs.Steps.{sent_by, trigger_from}

module _ (rule : Rule) (m : Monitor) where
  pub fires_under : (j k : ℕ) (c : Config) → fires (under rule m) j k c ≡ fires m j k c
  unfolding fires
  fires_under j k c = refl

  pub trigger_under : (state j : ℕ) → trigger_from (under rule m) state j ≡ trigger_from m state j
  unfolding trigger_from
  trigger_under state j = refl

pub ruleset records = (get_elem_tab, get_elem_tab_past)

module _ (m : Monitor) (s : Situation) where
  module _ (h : Shape) (j : ℕ) (recorded : Option ℕ) (unheard : is_some recorded ≡ false) where
    pub added_none : trigger_from m s.state j ≡ None → step_by m (capped_by h) recorded s (add j) ≡ None
    unfolding step_by moved trigger_from sent fires within_rule
    added_none e = grind (arith, nat_tests)

    pub added-row : (a : ℕ) (guess : Bool) → trigger_from m s.state j ≡ Some a → guess ≡ is_guess m a → sent_by h m guess j a s ≡ step_by m (capped_by h) recorded s (add j)
    unfolding step_by moved trigger_from sent_by
    added-row a guess e g = grind (arith, nat_tests)

pub ruleset adding_code = (added_none, added-row, trigger_under)
