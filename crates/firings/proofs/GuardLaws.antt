-- The planes of guards, number by number: each transition's guard at each variables and place.
use Prim.Native.Nat.{ℕ, ◌+◌, ◌*◌, ◌/◌, ◌%◌, ◌<◌}
use native.Mathlib.Nat.{add_comm, div-lt_iff_lt-mul, mul_comm, add-mul-div_left, add-mul-mod_self_left, mul-le-mul_left}
use native.Mathlib.Omega.{arith}
use mathlib.Core.Path.{◌≡◌, ap, ap₂, ◌∙◌}
use mathlib.Core.List.{List, [], ◌∷◌}
use Rattle.model.specs.Guard.{holds}
use Rattle.model.specs.Monitor.{Monitor, Transition}
use Rattle.monitor.specs.From.{transition_count}
use Rattle.words.specs.Words.{mem}
use Rattle.situation.specs.declared.Shape.{Shape}
use Rattle.instants.specs.Grid.{firsts, seconds, plane, assignments}
use Rattle.instants.proofs.DigitLaws.{low_mod, low_div}
use Rattle.firings.specs.Fired.{transition_by}
use Rattle.firings.specs.Ready.{Ready, Guarded, apart_by}
use Rattle.firings.proofs.PlanLaws.{transition-below, transition-is}

-- the parts of a number: f and s values of the clocks, place x, and v above
module _ (f s v x : ℕ) (pf : 0 < f) (l : x < f * s) where
  abbrev whole : ℕ
  whole = f * s * v + x

  above : whole / (f * s) ≡ v
  above = ap (λ (y : ℕ). y / (f * s)) (add_comm (f * s * v) x) ∙ low_div x (f * s) v l

  as_first : whole ≡ x + f * (s * v)
  as_first = omega arith

  lowest : whole % f ≡ x % f
  lowest = ap (λ (y : ℕ). y % f) as_first ∙ add-mul-mod_self_left x f (s * v)

  middle : whole / f % s ≡ x / f
  middle =
      let few : x / f < s = (div-lt_iff_lt-mul pf).1 (omega (arith, mul_comm f s)) in
      ap (λ (y : ℕ). y / f % s) as_first ∙ ap (λ (y : ℕ). y % s) (add-mul-div_left x (s * v) pf) ∙ low_mod (x / f) s v few

module _ {m : Monitor} {table offsets : List ℕ} {h : Shape} {size n : ℕ} (ready : Ready m table offsets h size n) (planes : List ℕ)
    (all : (j : ℕ) → j < transition_count table → (x : ℕ) → x < plane m * assignments m
    → mem planes (apart_by m * j + x) ≡ holds (transition_by table offsets j).guard (x / (h.first * h.second)) (x % h.first ∷ x / h.first % h.second ∷ [])) where
  pub planned_guards : Guarded m planes
  planned_guards j t e v x hv hx =
      all j (transition-below ready j t e) y room
      ∙ ap₂ (λ (a b : ℕ). holds (transition_by table offsets j).guard (y / (a * b)) (y % a ∷ y / a % b ∷ [])) ready.fits.first ready.fits.second
      ∙ ap (λ (u : Transition). holds u.guard (y / (f * s)) (y % f ∷ y / f % s ∷ [])) (transition-is ready j t e)
      ∙ ap (λ (a : ℕ). holds t.guard a (y % f ∷ y / f % s ∷ [])) (above f s v x (omega arith) hx)
      ∙ ap₂ (λ (a b : ℕ). holds t.guard v (a ∷ b ∷ [])) (lowest f s v x (omega arith) hx) (middle f s v x (omega arith) hx)
    where
      f : ℕ
      f = firsts m

      s : ℕ
      s = seconds m

      y : ℕ
      y = plane m * v + x

      room : y < plane m * assignments m
      room = omega (arith, mul-le-mul_left {m = v + 1} {n = assignments m} (plane m) (omega arith))
