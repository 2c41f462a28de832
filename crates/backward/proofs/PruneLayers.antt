-- What remains of the possible situations where an instant goes back.
use Prim.Native.Nat.{ℕ, suc, ◌+◌, ◌-◌, ◌*◌, ◌≤◌, ◌<◌}
use native.Mathlib.Numerals.{add-one}
use native.Mathlib.Decide.{dec_lt}
use native.Mathlib.Omega.{arith}
use mathlib.Core.Path.{◌≡◌, refl, sym, ◌∙◌}
use mathlib.Core.Logic.{◌↔◌}
use mathlib.Core.List.{List}
use mathlib.Core.Bool.{Bool, true, false}
use Rattle.std.specs.Prelude.{Option, Some}
use lib.ListN.{get_or, get_or-eq_default}
use borrow.Author.Tests.{lt-ltb, le-ltb}
use Rattle.model.specs.Size.{size}
use Rattle.model.specs.Sane.{Sane}
use Rattle.model.specs.Monitor.{Monitor}
use Rattle.model.specs.Recording.{packets_at}
use Rattle.model.specs.Layers.{leads, alive}
use Rattle.model.specs.Situation.{step_by, capped, number, situation_of, step_number, move_of, move_limit, recorded_at, first_number}
use Rattle.model.proofs.Options.{map-eq-some_iff}
use Rattle.model.proofs.Basics.{and_right, both_true, same_test}
use Rattle.model.proofs.SetLaws.{member_within}
use Rattle.model.proofs.LayerLaws.{length-layer, layer_suc}
use Rattle.model.proofs.LeastLaws.{Enters, alive_suc, leads_enters}
use Rattle.model.proofs.Numbering.{numbered}
use Rattle.instants.specs.Backward.{backward}
use Rattle.instants.specs.Claims.{step_from}
use Rattle.instants.specs.Sourced.{Sourced}
use Rattle.instants.proofs.BackwardLaws.{backwards}
use Rattle.layers.specs.Into.{in_row}
use Rattle.measures.specs.declared.Measures.{Measures}
use Rattle.measures.specs.Setting.{monitor_by, Setting}
use Rattle.measures.proofs.Rows.{size_of, step_of, possible}
use Rattle.backward.specs.PruneRows.{remains, PrunedRow}

-- the situations from which the end can be reached
abbrev pub reaching : Monitor → (recording : List ℕ) → (left t : ℕ) → List Bool
reaching m recording = alive (size_of m) move_limit (step_of m recording)

module _ (table offsets recording : List ℕ) (g : Measures) (set : Setting table offsets recording g) where
  -- nothing is in a set past N
  pub past-size : (t z : ℕ) → g.size ≤ z → get_or (possible (monitor_by g table) recording t) z false ≡ false
  past-size t z l =
      let m = monitor_by g table in
      get_or-eq_default (possible m recording t) false (omega (arith, set.whole, length-layer (size_of m) move_limit (step_of m recording) (first_number m) t))

  pub in_row_pruned : (scratch : List ℕ) (t : ℕ) → PrunedRow (monitor_by g table) recording scratch g.row g.size g.last t
      → (z : ℕ) → in_row scratch (8 * g.row * t) g.size z ≡ remains (monitor_by g table) recording g.last t z
  in_row_pruned scratch t pruned z = on (dec_lt z g.size)
    where
      on : Dec (z < g.size) → in_row scratch (8 * g.row * t) g.size z ≡ remains (monitor_by g table) recording g.last t z
      on (yes l) = rw (lt-ltb z g.size l) (pruned z l)
      on (no l) = let past : g.size ≤ z = omega arith in rw (le-ltb z g.size past, past-size t z past) refl

-- a step from a number below N arrives below N
step-below : {m : Monitor} → Sane m → (recorded : Option ℕ) (n k z : ℕ) → n < size m → step_from m recorded n k ≡ Some z → z < size m
step-below {m} sane recorded n k z h e =
    let (x, q, r) = (map-eq-some_iff (number m) (step_by m (capped m) recorded (situation_of m n) (move_of k))).0 e in
    rw (← r) ((numbered sane).below x ((numbered sane).step recorded (move_of k) (situation_of m n) x ((numbered sane).forth n h).1 q))

-- of the possible situations, an instant backward gives exactly those from which the end can be reached
module _ (m : Monitor) (recording : List ℕ) (sane : Sane m) (sourced : Sourced m) {last t : ℕ} (early : t < last) (next : ℕ → Bool)
    (holds : (z : ℕ) → z < size m → next z ≡ remains m recording last (t + 1) z) (n : ℕ) (here : get_or (possible m recording t) n false ≡ true)
  where
    abbrev step : ℕ → ℕ → ℕ → Option ℕ
    step = step_of m recording

    abbrev after : List Bool
    after = reaching m recording (last - (t + 1)) (t + 1)

    inside : n < size m
    inside = omega (arith, member_within (possible m recording t) n here, length-layer (size m) move_limit (step_of m recording) (first_number m) t)

    leading : get_or (reaching m recording (last - t) t) n false ≡ leads (size m) move_limit step after (t + 1) n move_limit
    leading =
        let left : last - t ≡ suc (last - (t + 1)) = omega arith in
        rw (left, add-one t) (alive_suc (size m) move_limit (step_of m recording) (last - suc t) t n inside)

    given : (backward m (recorded_at (packets_at recording) (t + 1)) next n ≡ true)
        ↔ ((k : ℕ) × (z : ℕ) × (k < move_limit) × (step (t + 1) n k ≡ Some z) × (next z ≡ true))
    unfolding step_number
    given = (backwards m sane sourced (recorded_at (packets_at recording) (t + 1)) next).given n inside

    below : (k z : ℕ) → step (t + 1) n k ≡ Some z → z < size m
    unfolding step_number
    below k z e = step-below sane (recorded_at (packets_at recording) (t + 1)) n k z inside e

    enters : (leads (size m) move_limit step after (t + 1) n move_limit ≡ true) ↔ Enters (size m) move_limit step after (t + 1) n move_limit
    enters = leads_enters (size m) move_limit step after (t + 1) n move_limit

    arrives : (k z : ℕ) → k < move_limit → step (t + 1) n k ≡ Some z → get_or (possible m recording (t + 1)) z false ≡ true
    arrives k z few e = rw (add-one t) ((layer_suc (size m) move_limit (step_of m recording) (first_number m) t z).1 (n, k, inside, here, few, rw (add-one t) at e, below k z e))

    there : backward m (recorded_at (packets_at recording) (t + 1)) next n ≡ true → get_or (reaching m recording (last - t) t) n false ≡ true
    there e = let (k, z, few, q, r) = given.0 e in leading ∙ enters.1 (k, z, few, q, and_right _ _ (sym (holds z (below k z q)) ∙ r))

    back : get_or (reaching m recording (last - t) t) n false ≡ true → backward m (recorded_at (packets_at recording) (t + 1)) next n ≡ true
    back e = let (k, z, few, q, r) = enters.0 (sym leading ∙ e) in given.1 (k, z, few, q, holds z (below k z q) ∙ both_true _ _ (arrives k z few q) r)

    pub reached : backward m (recorded_at (packets_at recording) (t + 1)) next n ≡ get_or (reaching m recording (last - t) t) n false
    reached = same_test _ _ there back
