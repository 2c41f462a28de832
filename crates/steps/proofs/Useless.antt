-- Moves that lead nowhere, so that the code need not try them.
use Prim.Native.Nat.{ℕ, ◌≤◌, ◌<◌}
use native.Mathlib.Omega.{arith}
use mathlib.Core.Path.{◌≡◌, refl}
use mathlib.Core.List.{List}
use Rattle.std.specs.Prelude.{Option, Some, None}
use Rattle.std.proofs.lemmas.Bool.Decides.{nat_tests}
use Rattle.model.specs.Monitor.{fires, within_rule}
use Rattle.model.specs.Table.{transitions_at}
use Rattle.model.specs.Situation.{Move, keep, rest, add, sent, moved, step_by}
use Rattle.model.specs.declared.Situation.{Situation}
use Rattle.model.proofs.Basics.{get_elem_tab_past}
use Rattle.monitor.specs.From.{monitor_from}
use Rattle.situation.specs.declared.Shape.{Shape}
use Rattle.steps.specs.Stepping.{arrive_by}

module _ (table offsets : List ℕ) (h : Shape) (s : Situation) where
  -- nothing is kept where nothing is recorded, nor by a transition that the table does not have

  pub no_keep : (j : ℕ) → arrive_by table offsets h None s (keep j) ≡ None
  unfolding step_by moved
  no_keep j = refl

  pub no_transition : (a j : ℕ) → transitions_at table ≤ j → arrive_by table offsets h (Some a) s (keep j) ≡ None
  unfolding step_by moved sent fires within_rule monitor_from
  no_transition a j e = grind (arith, nat_tests, get_elem_tab_past)

  -- nothing is added where a row is recorded, nor by a transition that the table does not have

  pub no_addition_there : (a j : ℕ) → arrive_by table offsets h (Some a) s (add j) ≡ None
  unfolding step_by moved
  no_addition_there a j = refl

  pub no_addition : (j : ℕ) → transitions_at table ≤ j → arrive_by table offsets h None s (add j) ≡ None
  unfolding step_by moved monitor_from
  no_addition j e = grind (arith, get_elem_tab_past)

  -- while the air is taken no row is kept or added
  pub air_taken : (heard : Option ℕ) (a : Move) → 0 < s.air → (a ≡ rest → ⊥) → arrive_by table offsets h heard s a ≡ None
  unfolding step_by moved sent
  air_taken heard a taken other = grind (arith, nat_tests)
