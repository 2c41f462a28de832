-- One instant: moves as numbers, what is recorded there, and the transition that a sent row names.
use Prim.Native.Nat.{ℕ, ◌+◌, ◌-◌, ◌<◌}
use native.Mathlib.Omega.{arith}
use mathlib.Core.Path.{◌≡◌, refl, ap, ◌∙◌}
use mathlib.Core.List.{List, ◌∷◌}
use mathlib.Core.Bool.{cond, ◌&&◌}
use Rattle.std.specs.Prelude.{Option, Some, None, slice_get}
use Rattle.std.specs.Option.{option_map, option_and_then}
use Rattle.std.proofs.lemmas.Option.{none-some, slice_get_within}
use lib.Dec.{eqb}
use borrow.Author.Tests.{eqb-true, lt-ltb, le-ltb, eq-eqb, ne_eqb}
use Rattle.model.specs.Limits.{transition_limit}
use Rattle.model.specs.Guard.{holds}
use Rattle.model.specs.Monitor.{Monitor, Config, Transition, after, enabled, fires}
use Rattle.model.specs.Trace.{Packet}
use Rattle.model.specs.Situation.{keep, rest, add, trigger_of, recorded_at, rest_move, first_add, move_of}
use Rattle.model.specs.Sane.{Sane}
use Rattle.model.proofs.Basics.{and_left, and_right, cond-some}

-- moves as numbers

pub move_of-keep : (j : ℕ) → j < transition_limit → move_of j ≡ keep j
unfolding move_of
move_of-keep j h = rw (lt-ltb j rest_move)

pub move_of-rest : move_of rest_move ≡ rest
unfolding move_of
move_of-rest = refl

pub move_of-add : (j : ℕ) → move_of (first_add + j) ≡ add j
unfolding move_of
move_of-add j =
    let past : first_add + j ≡ rest_move → ⊥ = omega arith in
    let same : first_add + j - first_add ≡ j = omega arith in
    rw (le-ltb (first_add + j) rest_move (omega arith), ne_eqb (first_add + j) rest_move past, same)

pub move_rest : (k : ℕ) → k ≡ rest_move → move_of k ≡ rest
move_rest k e = ap move_of e ∙ move_of-rest

pub move_add : (k : ℕ) → rest_move < k → move_of k ≡ add (k - first_add)
move_add k h = let at : k ≡ first_add + (k - first_add) = omega arith in ap move_of at ∙ move_of-add (k - first_add)

-- what is recorded at an instant

pub recorded_here : (q : Packet) (r : List Packet) (t : ℕ) → q.time ≡ t → recorded_at (q ∷ r) t ≡ Some q.kind
unfolding recorded_at
recorded_here q r t e = rw (eq-eqb q.time t e, recorded_at)

pub recorded_later : (q : Packet) (r : List Packet) (t : ℕ) → (q.time ≡ t → ⊥) → recorded_at (q ∷ r) t ≡ recorded_at r t
unfolding recorded_at
recorded_later q r t e = rw (ne_eqb q.time t e, recorded_at)

-- a transition fires on its trigger, and is one of the table's

pub fires-trigger : (m : Monitor) (j k : ℕ) (c d : Config) → fires m j k c ≡ Some d → trigger_of m j ≡ Some k
unfolding fires
fires-trigger m j k c d e = go (slice_get m.transitions j) e
  where
    go : (o : Option Transition) → option_and_then (λ t. cond (enabled t k c) (Some (after m t c)) None) o ≡ Some d → option_map (λ t. t.trigger) o ≡ Some k
    go None h = absurd (none-some d h)
    go (Some t) h =
        ap {B = Option ℕ} Some
        (eqb-true t.trigger k (and_right (eqb t.source c.state) (eqb t.trigger k)
        (and_left (eqb t.source c.state && eqb t.trigger k) (holds t.guard c.variables c.clocks) (cond-some (enabled t k c) _ d h).0)))

pub trigger-number : (m : Monitor) → Sane m → (j k : ℕ) → trigger_of m j ≡ Some k → j < transition_limit
trigger-number m table j k e = go (slice_get m.transitions j) refl e
  where
    go : (o : Option Transition) → slice_get m.transitions j ≡ o → option_map (λ t. t.trigger) o ≡ Some k → j < transition_limit
    go None f g = absurd (none-some k g)
    go (Some t) f g = omega (arith, table.few, slice_get_within m.transitions j t f)
