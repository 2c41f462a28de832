-- Resting, as the definition of an instant has it.
use Prim.Native.Nat.{ℕ, ◌+◌, ◌-◌, ◌*◌, ◌≤◌, ◌<◌}
use native.Mathlib.Nat.{add_comm, zero-add}
use native.Mathlib.Decide.{dec_lt}
use native.Mathlib.Omega.{arith}
use mathlib.Core.Path.{◌≡◌, sym, ap, ap₂, ◌∙◌}
use mathlib.Core.Logic.{⊎_elim}
use mathlib.Core.List.{List}
use mathlib.Core.Bool.{Bool, false, cond, ◌&&◌, ◌||◌, and_self, or-false}
use Rattle.std.specs.Prelude.{Option, Some, None}
use lib.Dec.{ltb, leb}
use borrow.Author.Tests.{ltb-true, lt-ltb, le-ltb, le-leb, lt-leb}
use Rattle.model.specs.Monitor.{Monitor, to_unit, airtime}
use Rattle.model.specs.Size as Size
use Rattle.words.specs.Words.{mem, up, below, meet}
use Rattle.instants.specs.Grid.{free}
use Rattle.instants.specs.Forward.{rests}
use Rattle.instants.specs.Backward.{rests_back}
use Rattle.instants.proofs.TestLaws.{both_are, either_is, up-some, below-some}
use Rattle.firings.specs.Rested.{ranged, rested, rested_back}
use Rattle.firings.specs.declared.Plan.{Plan}
use Rattle.firings.proofs.SameLaws.{Within, below-same, up_same}
use Rattle.firings.proofs.PlanLaws.{air-below}

module _ (src : List ℕ) where
  ranged-is : (d s length i : ℕ) → ranged src d s length i ≡ up d (below length (λ x. mem src (s + x))) i
  unfolding ranged meet
  ranged-is d s length i =
      up_same (below length (meet src s src s)) (below length (λ x. mem src (s + x))) d i
      (λ k e. below-same (meet src s src s) (λ x. mem src (s + x)) length k (λ l. and_self (mem src (s + k))))

  ranged_down : (s length i : ℕ) → ranged src 0 s length i ≡ (ltb i length && mem src (s + i))
  unfolding up below
  ranged_down s length i =
      let same : i - 0 ≡ i = omega arith in
      ranged-is 0 s length i ∙ rw (le-leb 0 i (omega arith), same)

  ranged-up : (d length i : ℕ) → ranged src d 0 length i ≡ (leb d i && (ltb (i - d) length && mem src (i - d)))
  unfolding up below
  ranged-up d length i = ranged-is d 0 length i ∙ ap (λ (x : ℕ). leb d i && (ltb (i - d) length && mem src x)) (zero-add (i - d))

module _ (m : Monitor) (src : List ℕ) where
  -- nothing is in the set from its size on
  module _ (size : ℕ) (past : (i : ℕ) → size ≤ i → mem src i ≡ false) where
    cut-none : (f i : ℕ) → (ltb i (size - f) && mem src (f + i)) ≡ mem src (i + f)
    cut-none f i = by (dec_lt i (size - f))
      where
        by : Dec (i < size - f) → (ltb i (size - f) && mem src (f + i)) ≡ mem src (i + f)
        by (yes l) = rw (lt-ltb i (size - f) l) (ap (mem src) (add_comm f i))
        by (no l) = rw (le-ltb i (size - f) (omega arith)) (sym (past (i + f) (omega arith)))

    pub rested-is : (p : Plan) → p.free ≡ free m → (recorded : Option ℕ) (i : ℕ) → rested p m recorded size src i ≡ rests m recorded (mem src) i
    unfolding rested rests
    rested-is p e None i =
        ap (λ (f : ℕ). ranged src 0 f (size - f) i || ranged src 0 0 f i) e
        ∙ ap₂ (λ (a b : Bool). a || b)
        (ranged_down src (free m) (size - free m) i ∙ cut-none (free m) i)
        (ranged_down src 0 (free m) i ∙ ap (λ (x : ℕ). ltb i (free m) && mem src x) (zero-add i))
    rested-is p e (Some k) i =
        ap (λ (f : ℕ). to_unit m k && ranged src (f * airtime m k) 0 f i) e
        ∙ ap (λ (b : Bool). to_unit m k && b)
        (ranged-is src (free m * airtime m k) 0 (free m) i
        ∙ up_same (below (free m) (λ x. mem src (0 + x))) (below (free m) (mem src)) (free m * airtime m k) i
        (λ x q. below-same (λ y. mem src (0 + y)) (mem src) (free m) x (λ l. ap (mem src) (zero-add x))))

  -- what is put there is a situation's number
  pub rests-within : (recorded : Option ℕ) → Within (Size.size m) (mem src) → Within (Size.size m) (rests m recorded (mem src))
  unfolding rests
  rests-within None h y e =
      ⊎_elim (λ q. omega (arith, h (y + free m) q))
      (λ q. let (l, b) = both_are (ltb y (free m)) (mem src y) q in omega (arith, air-below m 0 y (ltb-true y (free m) l)))
      (either_is (mem src (y + free m)) (ltb y (free m) && mem src y) e)
  rests-within (Some k) h y e =
      let (a, b) = both_are (to_unit m k) (up (free m * airtime m k) (below (free m) (mem src)) y) e in
      let (x, there, q) = up-some (below (free m) (mem src)) (free m * airtime m k) y b in
      let (l, c) = below-some (mem src) (free m) x q in
      omega (arith, air-below m k x l)

  -- .. and back, for a situation's number
  pub rested-back : (p : Plan) → p.free ≡ free m → (size : ℕ) (recorded : Option ℕ) (i : ℕ) → i < size
      → rested_back p m recorded size src i ≡ rests_back m recorded (mem src) i
  unfolding rested_back rests_back
  rested-back p e size None i l =
      ap (λ (f : ℕ). ranged src 0 0 f i || ranged src f 0 (size - f) i) e
      ∙ ap₂ (λ (a b : Bool). a || b)
      (ranged_down src 0 (free m) i ∙ ap (λ (x : ℕ). ltb i (free m) && mem src x) (zero-add i))
      (ranged-up src (free m) (size - free m) i)
      ∙ by (dec_lt i (free m))
    where
      f : ℕ
      f = free m

      by : Dec (i < f) → ((ltb i f && mem src i) || (leb f i && (ltb (i - f) (size - f) && mem src (i - f)))) ≡ mem src (cond (ltb i f) i (i - f))
      by (yes h) = simp (lt-ltb i f h, lt-leb f i h, or-false)
      by (no h) = simp (le-ltb i f (omega arith), le-leb f i (omega arith), lt-ltb (i - f) (size - f) (omega arith))
  rested-back p e size (Some k) i l =
      ap (λ (f : ℕ). to_unit m k && ranged src 0 (f * airtime m k) f i) e
      ∙ ap (λ (b : Bool). to_unit m k && b)
      (ranged_down src (free m * airtime m k) (free m) i ∙ ap (λ (x : ℕ). ltb i (free m) && mem src x) (add_comm (free m * airtime m k) i))
