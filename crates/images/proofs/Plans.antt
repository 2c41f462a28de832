-- Where a table is sound, the plan of its shape is one that goes by its numbers, and the mask of live states tells which states have nothing in a set.
use Rattle.std.specs.Prelude.{Option}
use Prim.Native.Nat.{ℕ, ◌+◌, ◌*◌, ◌/◌, ◌%◌, ◌^◌, ◌≤◌, ◌<◌}
use native.Mathlib.Decide.{dec_lt}
use native.Mathlib.Nat.{mul-le-mul_left, mod-eq_of_lt}
use native.Mathlib.Omega.{arith}
use mathlib.Core.Path.{◌≡◌, sym, ap, ◌∙◌}
use mathlib.Core.List.{List}
use mathlib.Core.Bool.{Bool, false, ◌&&◌}
use lib.Dec.{ltb}
use borrow.Author.Tests.{lt-ltb}
use Rattle.model.specs.Rule.{masks}
use Rattle.model.specs.Monitor.{Monitor}
use Rattle.model.specs.Size as Size
use Rattle.model.proofs.Numbering.{pos_masks}
use Rattle.words.specs.Words.{bit, mem, any_below}
use Rattle.situation.specs.declared.Shape.{Shape}
use Rattle.instants.specs.Grid.{plane, assignments, plane_at, free}
use Rattle.firings.specs.Ready.{Ready, Planned, Live}
use Rattle.firings.specs.declared.Plan.{Plan}
use Rattle.firings.proofs.PlanLaws.{air-below}
use Rattle.images.specs.Planning.{PlanOf}
use Rattle.images.specs.Living.{numbers_of, in_window, is_live}
use Rattle.images.proofs.LiveLaws.{none_is}

-- the situations of which the air is free are some of all
free-below : (m : Monitor) (size : ℕ) → size ≡ Size.size m → free m ≤ size
free-below m size e = by (dec_lt size (free m))
  where
    by : Dec (size < free m) → free m ≤ size
    by (yes l) = omega (arith, air-below m 0 size l)
    by (no l) = omega arith

module _ {m : Monitor} {table offsets : List ℕ} {h : Shape} {size n : ℕ} (ready : Ready m table offsets h size n) where
  plane-is : h.first * h.second ≡ plane m
  plane-is = by ready.fits.first ready.fits.second
    where
      by : {a b c d : ℕ} → a ≡ b → c ≡ d → a * c ≡ b * d
      by e f = cc

  pub numbers-is : numbers_of h ≡ plane m * assignments m
  numbers-is = by plane-is ready.fits.masks
    where
      by : {a b c d : ℕ} → a ≡ b → c ≡ d → a * c ≡ b * d
      by e f = cc

  free-is : numbers_of h * (h.states * h.windows) ≡ free m
  unfolding free
  free-is = by numbers-is ready.fits.states ready.fits.windows ∙ again (plane m) (assignments m) m.states (masks m.rule)
    where
      by : {a b c d e f : ℕ} → a ≡ b → c ≡ d → e ≡ f → a * (c * e) ≡ b * (d * f)
      by x y z = cc

      again : (a b c d : ℕ) → a * b * (c * d) ≡ a * (b * (c * d))
      again a b c d = omega arith

  -- states and windows are not none, so that one state's numbers in a window are no more than all
  some-rows : 1 ≤ m.states * masks m.rule
  some-rows =
      omega (arith, ready.sane.states, pos_masks m.rule, mul-le-mul_left {m = 1} {n = masks m.rule} m.states (pos_masks m.rule))

  pub numbers-within : plane m * assignments m ≤ size
  unfolding free
  numbers-within =
      omega (
        arith,
        free-below m size ready.whole,
        by (plane m) (assignments m) (m.states * masks m.rule),
        mul-le-mul_left {m = 1} {n = m.states * masks m.rule} (plane m * assignments m) some-rows,
      )
    where
      by : (a b c : ℕ) → a * b * c ≡ a * (b * c)
      by a b c = omega arith

  pub planned : {heard : Option ℕ} {live : ℕ} {back : Bool} {p : Plan} → PlanOf h heard live n back p → Planned m h n p
  planned q =
      record {
        shape = q.shape;
        plane = q.plane ∙ plane-is;
        free = q.free ∙ ap (λ (k : ℕ). k % 2 ^ 32) free-is ∙ mod-eq_of_lt (omega (arith, ready.narrow, free-below m size ready.whole));
        gap = q.gap;
        apart = q.apart ∙ ap (λ (k : ℕ). 64 * ((k + 63) / 64) % 2 ^ 32) numbers-is ∙ mod-eq_of_lt (omega (arith, ready.narrow, numbers-within));
      }

  pub living : (live : ℕ) (s : List ℕ) → h.states ≤ 64 → ((q : ℕ) → q < 64 → bit live q ≡ (ltb q h.states && is_live h s q)) → Live m live (mem s)
  unfolding is_live in_window plane_at
  living live s few told state w v x dead a b c d =
      let l : state < h.states = omega (arith, ready.fits.states) in
      let none : is_live h s state ≡ false = sym (ap (λ (t : Bool). t && is_live h s state) (lt-ltb state h.states l)) ∙ sym (told state (omega arith)) ∙ dead in
      let i : ℕ = plane m * v + x in
      let row : any_below (λ k. mem s (numbers_of h * (state + h.states * w) + k)) (numbers_of h) ≡ false =
      none_is (in_window h s state) h.windows w none (omega (arith, ready.fits.windows)) in
      let near : i < numbers_of h = omega (arith, numbers-is, mul-le-mul_left {m = v + 1} {n = assignments m} (plane m) (omega arith), by (plane m) v) in
      ap (mem s) (place (numbers_of h) h.states numbers-is ready.fits.states) ∙ none_is (λ k. mem s (numbers_of h * (state + h.states * w) + k)) (numbers_of h) i row near
    where
      by : (a v : ℕ) → a * (v + 1) ≡ a * v + a
      by a v = omega arith

      place : (a b : ℕ) → a ≡ plane m * assignments m → b ≡ m.states
          → plane m * (v + assignments m * (state + m.states * w)) + x ≡ a * (state + b * w) + (plane m * v + x)
      place a b e f = rw (e, f) (again (plane m) (assignments m) (state + m.states * w))
        where
          again : (a b c : ℕ) → a * (v + b * c) + x ≡ a * b * c + (a * v + x)
          again a b c = omega arith
