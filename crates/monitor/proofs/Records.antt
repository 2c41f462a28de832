-- What the bytes of a table's records say of the monitor that they give.
use Prim.Native.Nat.{ℕ, zero, suc, ◌+◌, ◌/◌, ◌%◌, ◌≤◌}
use native.Mathlib.Omega.{arith}
use Rattle.std.proofs.lemmas.Bool.Decides.{nat_tests}
use mathlib.Core.Path.{◌≡◌, refl, sym, ap, ◌∙◌}
use mathlib.Core.List.{List, [], ◌∷◌}
use mathlib.Core.Bool.{Bool, true, false, cond}
use Rattle.std.specs.Prelude.{Option, Some, None, slice_get}
use Rattle.std.specs.Option.{option_and_then}
use lib.ListN.{length, get_or}
use lib.Dec.{eqb}
use Rattle.model.specs.Bytes.{byte_at}
use Rattle.model.specs.Monitor.{Monitor, Transition, fires, tried, enabled, after, changed, reset}
use Rattle.model.specs.Pairs.{is_answer}
use Rattle.model.specs.declared.Readiness.TheVariants.{Yes}
use Rattle.model.specs.declared.Config.{Config}
use Rattle.model.specs.Table.{variables_at}
use Rattle.model.proofs.Basics.{get_or-tab, get_or_tab_past, get_elem_tab, get_elem_tab_past}
use Rattle.model.proofs.ReadinessLaws.{yes_holds}
use Rattle.monitor.specs.From.{transition_from, monitor_from, after_from}

-- the columns of the kinds, and the transitions
pub ruleset kinds = (get_or-tab, get_or_tab_past)

pub ruleset transitions = (get_elem_tab, get_elem_tab_past, yes_holds)

-- a transition fires just where it answers yes
module _ (b offsets : List ℕ) (j k : ℕ) (c : Config) where
  pub fires-some : (at : ℕ) (d : Config) → is_answer Yes (tried (monitor_from b offsets) j k c) ≡ true
      → at ≡ get_or offsets j 0 → d ≡ after_from b at c → fires (monitor_from b offsets) j k c ≡ Some d
  unfolding monitor_from tried fires
  fires-some at d t e g = grind (arith, nat_tests, transitions)

  pub fires_none : is_answer Yes (tried (monitor_from b offsets) j k c) ≡ false → fires (monitor_from b offsets) j k c ≡ None
  unfolding monitor_from tried fires
  fires_none t = grind (arith, nat_tests, transitions)

pub ruleset firing = (fires-some, fires_none)

-- a table has two places for clocks
pub reset_two : (mask : ℕ) (l : List ℕ) → length l ≡ 2 → reset mask l ≡ cond (eqb (mask % 2) 1) 0 (get_or l 0 0) ∷ cond (eqb (mask / 2 % 2) 1) 0 (get_or l 1 0) ∷ []
unfolding reset
reset_two mask [] h = absurd (omega arith)
reset_two mask (x ∷ []) h = absurd (omega arith)
reset_two mask (x ∷ y ∷ []) h = refl
reset_two mask (x ∷ y ∷ z ∷ l) h = absurd (omega arith)

-- the configuration after a record's transition, from the bytes that the code reads
pub after_with : (b : List ℕ) (at : ℕ) (c : Config) (state variables first second : ℕ) → length c.clocks ≡ 2 →
    state ≡ byte_at b (at + 1) → variables ≡ changed (variables_at b) c.variables (byte_at b (at + 3)) (byte_at b (at + 4)) →
    first ≡ cond (eqb (byte_at b (at + 5) % 2) 1) 0 (get_or c.clocks 0 0) → second ≡ cond (eqb (byte_at b (at + 5) / 2 % 2) 1) 0 (get_or c.clocks 1 0) →
    ◌≡◌ {A = Config} (record { state = state; variables = variables; clocks = first ∷ second ∷ [] }) (after_from b at c)
unfolding monitor_from transition_from
after_with b at c state variables first second h es ev ef eg =
    let clocks : first ∷ second ∷ [] ≡ reset (byte_at b (at + 5)) c.clocks = (λ i. ef i ∷ eg i ∷ []) ∙ sym (reset_two (byte_at b (at + 5)) c.clocks h) in
    λ i. record { state = es i; variables = ev i; clocks = clocks i }

-- a firing resets clocks or leaves them

reset-length : (mask : ℕ) (l : List ℕ) → length (reset mask l) ≡ length l
unfolding reset
reset-length mask [] = refl
reset-length mask (x ∷ l) = ap suc (reset-length (mask / 2) l)

reset-below : (mask : ℕ) (l : List ℕ) (i : ℕ) → get_or (reset mask l) i 0 ≤ get_or l i 0
unfolding reset
reset-below mask [] i = omega arith
reset-below mask (x ∷ l) zero = go (eqb (mask % 2) 1)
  where
    go : (t : Bool) → cond t 0 x ≤ x
    go true = omega arith
    go false = omega arith
reset-below mask (x ∷ l) (suc i) = reset-below (mask / 2) l i

module _ (m : Monitor) (j k : ℕ) (c d : Config) (e : fires m j k c ≡ Some d) where
  fired-clocks : (mask : ℕ) × (d.clocks ≡ reset mask c.clocks)
  unfolding fires
  fired-clocks = go (slice_get m.transitions j) e
    where
      go : (o : Option Transition) → option_and_then (λ t. cond (enabled t k c) (Some (after m t c)) None) o ≡ Some d → (mask : ℕ) × (d.clocks ≡ reset mask c.clocks)
      go None q = let z : ◌≡◌ {A = ℕ} 0 1 = cc in absurd (omega arith)
      go (Some t) q = on (enabled t k c) q
        where
          on : (b : Bool) → cond b (Some (after m t c)) None ≡ Some d → (mask : ℕ) × (d.clocks ≡ reset mask c.clocks)
          on false q = let z : ◌≡◌ {A = ℕ} 0 1 = cc in absurd (omega arith)
          on true q = let same : after m t c ≡ d = cc in (t.resets, ap (λ (x : Config). x.clocks) (sym same))

  pub fired-length : length d.clocks ≡ length c.clocks
  fired-length = ap length fired-clocks.1 ∙ reset-length fired-clocks.0 c.clocks

  pub fired-below : (i : ℕ) → get_or d.clocks i 0 ≤ get_or c.clocks i 0
  fired-below i = let h : get_or d.clocks i 0 ≡ get_or (reset fired-clocks.0 c.clocks) i 0 = ap (λ (l : List ℕ). get_or l i 0) fired-clocks.1 in
      omega (arith, reset-below fired-clocks.0 c.clocks i)
