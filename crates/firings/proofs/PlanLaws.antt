-- What a plan's numbers are where a table is sound, and how far the numbers of situations go.
use Prim.Native.Nat.{ℕ, zero, suc, ◌+◌, ◌*◌, ◌/◌, ◌%◌, ◌^◌, ◌≤◌, ◌<◌}
use native.Mathlib.Nat.{mul-le-mul_left, pow-succ'}
use native.Mathlib.Omega.{arith}
use mathlib.Core.Path.{◌≡◌, sym, ap, subst, ◌∙◌}
use mathlib.Core.List.{List, [], ◌∷◌}
use mathlib.Core.Bool.{Bool, true, false, cond}
use Rattle.std.specs.Prelude.{Some, slice_get}
use lib.ListN.{get_or}
use lib.Dec.{eqb}
use Rattle.model.specs.Rule.{masks, window_behind}
use Rattle.model.specs.Monitor.{Monitor, Transition, changed, airtime}
use Rattle.model.specs.Size as Size
use Rattle.model.specs.Table.{transitions_at}
use Rattle.model.proofs.Basics.{get_elem_tab}
use Rattle.std.proofs.lemmas.Option.{slice_get_within}
use Rattle.model.proofs.RuleLaws.{behind-below}
use Rattle.monitor.specs.From.{monitor_from, transition_count}
use Rattle.situation.specs.Ruled.{ruled_from}
use Rattle.situation.specs.declared.Shape.{Shape}
use Rattle.instants.specs.Grid.{firsts, seconds, plane, assignments, plane_at, free}
use Rattle.instants.specs.Firing.{source_at, target_at}
use Rattle.instants.proofs.PlaceLaws.{plane-below}
use Rattle.firings.specs.Fired.{place_by, here_by, there_by, transition_by}
use Rattle.firings.specs.Ready.{Ready, Planned}
use Rattle.firings.specs.declared.Plan.{Plan}

-- variables after a firing are variables
changed-below : (n v sets clears : ℕ) → changed n v sets clears < 2 ^ n
unfolding changed
changed-below zero v s c = omega arith
changed-below (suc n) v s c =
    let h : changed n (v / 2) (s / 2) (c / 2) < 2 ^ n = changed-below n (v / 2) (s / 2) (c / 2) in
    rw pow-succ' (by (eqb (s % 2) 1) (eqb (c % 2) 1) h)
  where
    by : (t u : Bool) → changed n (v / 2) (s / 2) (c / 2) < 2 ^ n → cond t 1 (cond u 0 (v % 2)) + 2 * changed n (v / 2) (s / 2) (c / 2) < 2 * 2 ^ n
    by true u h = omega arith
    by false true h = omega arith
    by false false h = omega arith

-- no airtime is larger than the largest
greatest_of : (l : List ℕ) (k : ℕ) → get_or l k 0 ≤ Size.greatest l
unfolding Size.greatest
greatest_of [] k = omega arith
greatest_of (a ∷ l) zero = omega arith
greatest_of (a ∷ l) (suc k) = omega (arith, greatest_of l k)

size_is : (m : Monitor) → Size.size m ≡ free m * (Size.largest_airtime m + 1)
unfolding Size.size Size.table_size free
size_is m = by m.states (assignments m) (Size.cap m 0 + 1) (Size.cap m 1 + 1) (Size.largest_airtime m + 1) (masks m.rule)
  where
    by : (t n f s a k : ℕ) → t * (n * (f * (s * a))) * k ≡ f * s * (n * (t * k)) * a
    by t n f s a k = omega arith

-- the values of the first clock divide it
pub size-first : (m : Monitor) → (k : ℕ) × (Size.size m ≡ firsts m * k)
unfolding free
size-first m =
    let rest : ℕ = assignments m * (m.states * masks m.rule) in
    (seconds m * rest * (Size.largest_airtime m + 1), size_is m ∙ by (firsts m) (seconds m) rest (Size.largest_airtime m + 1))
  where
    by : (f s r a : ℕ) → f * s * r * a ≡ f * (s * r * a)
    by f s r a = omega arith

-- where the air is taken by some packet, the number is a situation's
pub air-below : (m : Monitor) (k x : ℕ) → x < free m → free m * airtime m k + x < Size.size m
air-below m k x h =
    omega (arith, size_is m, mul-le-mul_left {m = airtime m k} {n = Size.largest_airtime m} (free m) (greatest_of m.airtimes k))

module _ {m : Monitor} {table offsets : List ℕ} {h : Shape} {size n : ℕ} (ready : Ready m table offsets h size n) where
  -- transition j is the one whose record starts at offset j

  pub transition_at_lem : (j : ℕ) → j < transition_count table → slice_get m.transitions j ≡ Some (transition_by table offsets j)
  unfolding monitor_from
  transition_at_lem j l =
      subst (λ (x : Monitor). slice_get x.transitions j ≡ Some (transition_by table offsets j)) ready.described
      (get_elem_tab (transition_by table offsets) (transitions_at table) j (omega arith))

  pub transition-below : (j : ℕ) (t : Transition) → slice_get m.transitions j ≡ Some t → j < transition_count table
  transition-below j t e = omega (arith, ready.counted, slice_get_within m.transitions j t e)

  pub transition-is : (j : ℕ) (t : Transition) → slice_get m.transitions j ≡ Some t → transition_by table offsets j ≡ t
  transition-is j t e = let f : Some (transition_by table offsets j) ≡ Some t = sym (transition_at_lem j (transition-below j t e)) ∙ e in cc

  -- the plane after a firing has numbers of situations
  pub target_below : (j : ℕ) (t : Transition) → slice_get m.transitions j ≡ Some t
      → (guess : Bool) (w v x : ℕ) → x < plane m → target_at m guess t w v + x < size
  unfolding target_at
  target_below j t e guess w v x l =
      let place : ℕ = plane_at m (changed m.variables v t.sets t.clears) t.target (window_behind m.rule w guess) in
      let low : place + x < free m =
      plane-below m t.target (changed m.variables v t.sets t.clears) (window_behind m.rule w guess) x
      (ready.sane.transition j t e).target
      (changed-below m.variables v t.sets t.clears)
      (behind-below m.rule w guess)
      l in
      omega (arith, ready.whole, air-below m t.trigger (place + x) low)

  -- the numbers of a plan
  module _ {p : Plan} (planned : Planned m h n p) where
    pub monitor_is : ruled_from p.shape table offsets ≡ m
    monitor_is = ap (λ (s : Shape). ruled_from s table offsets) planned.shape ∙ ready.described

    pub masks-is : p.shape.masks ≡ assignments m
    masks-is = ap (λ (s : Shape). s.masks) planned.shape ∙ ready.fits.masks

    pub windows-is : p.shape.windows ≡ masks m.rule
    windows-is = ap (λ (s : Shape). s.windows) planned.shape ∙ ready.fits.windows

    states-is : p.shape.states ≡ m.states
    states-is = ap (λ (s : Shape). s.states) planned.shape ∙ ready.fits.states

    place_is : (v state w : ℕ) → place_by p v state w ≡ plane_at m v state w
    unfolding place_by plane_at
    place_is v state w =
        by p.plane (plane m) p.shape.masks (assignments m) p.shape.states m.states planned.plane masks-is states-is
      where
        by : (a b c d e f : ℕ) → a ≡ b → c ≡ d → e ≡ f → a * (v + c * (state + e * w)) ≡ b * (v + d * (state + f * w))
        by a b c d e f i j k = cc

    pub here-is : (t : Transition) (w v : ℕ) → here_by p t w v ≡ source_at m t w v
    unfolding here_by source_at
    here-is t w v = place_is v t.source w

    pub there-is : (guess : Bool) (t : Transition) (w v : ℕ) → there_by p m guess t w v ≡ 64 * n * (t.resets % 4) + target_at m guess t w v
    unfolding there_by target_at
    there-is guess t w v =
        by p.gap (64 * n) p.free (free m) planned.gap planned.free
        (place_is (changed m.variables v t.sets t.clears) t.target (window_behind m.rule w guess))
      where
        by : (a b c d : ℕ) → a ≡ b → c ≡ d → {e f : ℕ} → e ≡ f
            → a * (t.resets % 4) + (e + c * airtime m t.trigger) ≡ b * (t.resets % 4) + (f + d * airtime m t.trigger)
        by a b c d i j k = cc
