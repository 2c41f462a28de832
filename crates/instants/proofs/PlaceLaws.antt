-- Where a situation's number lies: its plane, its place there and its air; what a tick and resets do with it.
use Prim.Native.Nat.{ℕ, suc, ◌+◌, ◌-◌, ◌*◌, ◌/◌, ◌%◌, ◌<◌, ◌≤◌, min}
use native.Mathlib.Nat.{mul_comm, mul-le-mul_left}
use native.Mathlib.Decide.{ℕ_discrete}
use native.Mathlib.Omega.{arith}
use mathlib.Core.Path.{◌≡◌, refl, sym, ap, ap₂, ◌∙◌}
use mathlib.Core.List.{[], ◌∷◌}
use mathlib.Core.Bool.{Bool, true, false, cond}
use lib.Arith.{digits_lt, mod-mul}
use lib.Dec.{eqb, ltb}
use borrow.Author.Tests.{lt-ltb, le-ltb}
use Rattle.model.specs.Rule.{masks}
use Rattle.model.specs.Monitor.{Monitor, reset}
use Rattle.model.specs.Size.{cap}
use Rattle.model.specs.Situation.{InRange, capped, tick, number}
use Rattle.model.specs.declared.Situation.{Situation}
use Rattle.instants.specs.Digit.{raised, zeroed}
use Rattle.instants.specs.Grid.{firsts, seconds, plane, assignments, plane_at, free}
use Rattle.instants.specs.Backward.{ticked, reset_by}
use Rattle.instants.proofs.DigitLaws.{built, raised_built, zeroed_built, as_built}

-- two digits, the lower first

low_built : (w r d h q : ℕ) → built 1 w 0 d (h + r * q) ≡ built w r d h q
low_built w r d h q = omega arith

module _ (w r c d h : ℕ) (low : c < w) (less : d < r) where
  low_raised : raised 1 w (built w r c d h) ≡ built w r (min (c + 1) (w - 1)) d h
  low_raised =
      ap (raised 1 w) (sym (low_built w r c d h))
      ∙ raised_built 1 w (omega arith) (omega arith) 0 c (d + r * h) (omega arith) low
      ∙ low_built w r (min (c + 1) (w - 1)) d h

  both-raised : raised w r (raised 1 w (built w r c d h)) ≡ built w r (min (c + 1) (w - 1)) (min (d + 1) (r - 1)) h
  both-raised =
      ap (raised w r) low_raised ∙ raised_built w r (omega arith) (omega arith) (min (c + 1) (w - 1)) d h (omega arith) less

  low_zeroed : zeroed 1 w (built w r c d h) ≡ built w r 0 d h
  low_zeroed =
      ap (zeroed 1 w) (sym (low_built w r c d h))
      ∙ zeroed_built 1 w (omega arith) (omega arith) 0 c (d + r * h) (omega arith) low
      ∙ low_built w r 0 d h

  -- made 0 where a test says so
  low_cond : (b : Bool) → cond b (zeroed 1 w (built w r c d h)) (built w r c d h) ≡ built w r (cond b 0 c) d h
  low_cond true = low_zeroed
  low_cond false = refl

  high_cond : (b : Bool) → cond b (zeroed w r (built w r c d h)) (built w r c d h) ≡ built w r c (cond b 0 d) h
  high_cond true = zeroed_built w r (omega arith) (omega arith) c d h low less
  high_cond false = refl

-- both digits made 0, each where a test says so
abbrev zeroed_by : (w r : ℕ) → (a b : Bool) → ℕ → ℕ
zeroed_by w r a b x = cond b (zeroed w r (cond a (zeroed 1 w x) x)) (cond a (zeroed 1 w x) x)

cond_below : (b : Bool) (c w : ℕ) → c < w → cond b 0 c < w
cond_below true c w h = omega arith
cond_below false c w h = h

zeroed_by_lem : (w r c d h : ℕ) → c < w → d < r → (a b : Bool) → zeroed_by w r a b (built w r c d h) ≡ built w r (cond a 0 c) (cond b 0 d) h
zeroed_by_lem w r c d h low less a b =
    ap (λ (x : ℕ). cond b (zeroed w r x) x) (low_cond w r c d h low less a) ∙ high_cond w r (cond a 0 c) d h (cond_below a c w low) less b

-- in either order
pub zeroed-both : (w r : ℕ) → 0 < w → 0 < r → (x : ℕ) → zeroed w r (zeroed 1 w x) ≡ zeroed 1 w (zeroed w r x)
zeroed-both w r pw pr =
    as_built w r pw pr (λ x. zeroed w r (zeroed 1 w x) ≡ zeroed 1 w (zeroed w r x))
    (λ l d h low less.
    ap (zeroed w r) (low_zeroed w r l d h low less)
    ∙ zeroed_built w r pw pr 0 d h pw less
    ∙ sym (ap (zeroed 1 w) (zeroed_built w r pw pr l d h low less) ∙ low_zeroed w r l 0 h low pr))

-- a lowest digit and the rest are below the product of their bounds

digit-below : (d r q n : ℕ) → d < r → q < n → d + r * q < r * n
digit-below d r q n h k = omega (arith, digits_lt k h, mul_comm q r, mul_comm n r)

place-below : (r q n d : ℕ) → q < n → d < r → r * q + d < r * n
place-below r q n d k h = omega (arith, digit-below d r q n h k)

-- the two lowest bits of a mask

mask_parts : (x : ℕ) → x % 4 ≡ x / 2 % 2 * 2 + x % 2
mask_parts x = mod-mul x {m = 2} {c = 2} (omega arith) (omega arith)

mask_first : (x : ℕ) → x % 4 % 2 ≡ x % 2
mask_first x = omega (arith, mask_parts x)

mask_second : (x : ℕ) → x % 4 / 2 % 2 ≡ x / 2 % 2
mask_second x = let half : x % 4 / 2 ≡ x / 2 % 2 = omega (arith, mask_parts x) in omega arith

-- a situation by its parts
abbrev pub situated : (state variables c d air window : ℕ) → Situation
situated state variables c d air window = record { state = state; variables = variables; clocks = c ∷ d ∷ []; air = air; window = window }

module _ (m : Monitor) where
  -- the clocks' part of a number and the rest
  abbrev rest : (state variables air window : ℕ) → ℕ
  rest state variables air window = variables + assignments m * (state + m.states * (window + masks m.rule * air))

  number_built : (q v c d a w : ℕ) → number m (situated q v c d a w) ≡ built (firsts m) (seconds m) c d (rest q v a w)
  unfolding number
  number_built q v c d a w = refl

  pub number-placed : (q v c d a w : ℕ) → number m (situated q v c d a w) ≡ plane_at m v q w + (c + firsts m * d) + free m * a
  unfolding number plane_at free
  number-placed q v c d a w = by (firsts m) (seconds m) (assignments m) m.states (masks m.rule) q v c d a w
    where
      by : (f s n t k q v c d a w : ℕ) → c + f * (d + s * (v + n * (q + t * (w + k * a)))) ≡ f * s * (v + n * (q + t * w)) + (c + f * d) + f * s * (n * (t * k)) * a
      by f s n t k q v c d a w = omega arith

  -- both clocks tick
  pub number-ticked : (q v c d a w : ℕ) → c ≤ cap m 0 → d ≤ cap m 1
      → number m (tick (capped m) (situated q v c d a w)) ≡ ticked m (number m (situated q v c d (a - 1) w))
  unfolding capped
  number-ticked q v c d a w f g =
      let first : min (c + 1) (firsts m - 1) ≡ min (c + 1) (cap m 0) = omega arith in
      let second : min (d + 1) (seconds m - 1) ≡ min (d + 1) (cap m 1) = omega arith in
      number_built q v (min (c + 1) (cap m 0)) (min (d + 1) (cap m 1)) (a - 1) w
      ∙ sym
      (ap (ticked m) (number_built q v c d (a - 1) w)
      ∙ both-raised (firsts m) (seconds m) c d (rest q v (a - 1) w) (omega arith) (omega arith)
      ∙ ap₂ (λ (x y : ℕ). built (firsts m) (seconds m) x y (rest q v (a - 1) w)) first second)

  -- clocks are reset
  pub number-reset : (mask q v c d a w : ℕ) → c ≤ cap m 0 → d ≤ cap m 1
      → number m (record { state = q; variables = v; clocks = reset mask (c ∷ d ∷ []); air = a; window = w })
      ≡ reset_by m (mask % 4) (number m (situated q v c d a w))
  unfolding reset
  number-reset mask q v c d a w f g =
      let x : Bool = eqb (mask % 2) 1 in
      let y : Bool = eqb (mask / 2 % 2) 1 in
      let h : ℕ = rest q v a w in
      number_built q v (cond x 0 c) (cond y 0 d) a w
      ∙ sym
      (ap (reset_by m (mask % 4)) (number_built q v c d a w)
      ∙ ap₂ (λ (i j : ℕ). zeroed_by (firsts m) (seconds m) (eqb i 1) (eqb j 1) (built (firsts m) (seconds m) c d h)) (mask_first mask) (mask_second mask)
      ∙ zeroed_by_lem (firsts m) (seconds m) c d h (omega arith) (omega arith) x y)

  -- the air

  pub number_aired : (q v c d a w : ℕ) → number m (situated q v c d 0 w) + free m * a ≡ number m (situated q v c d a w)
  number_aired q v c d a w = omega (arith, number-placed q v c d 0 w, number-placed q v c d a w)

  pub plane-below : (q v w p : ℕ) → q < m.states → v < assignments m → w < masks m.rule → p < plane m → plane_at m v q w + p < free m
  unfolding plane_at free
  plane-below q v w p hq hv hw hp = place-below (plane m) _ _ p (digit-below v _ _ _ hv (digit-below q _ _ _ hq hw)) hp

module _ (m : Monitor) {q v c d a w : ℕ} (range : InRange m (situated q v c d a w)) where
  pub place_in : c + firsts m * d < plane m
  place_in = digit-below c (firsts m) d (seconds m) (omega (arith, range.first)) (omega (arith, range.second))

  first-free : number m (situated q v c d 0 w) < free m
  first-free =
      omega (arith, number-placed m q v c d 0 w, plane-below m q v w (c + firsts m * d) range.state range.variables range.window place_in)

  -- the air is free in the first situations only
  pub free-number : a ≡ 0 → number m (situated q v c d a w) < free m
  free-number e = omega (arith, first-free, number_aired m q v c d a w, ap (λ (x : ℕ). free m * x) e)

  pub number-free : number m (situated q v c d a w) < free m → a ≡ 0
  number-free h = by (ℕ_discrete a 0)
    where
      by : Dec (a ≡ 0) → a ≡ 0
      by (yes e) = e
      by (no e) = absurd (omega (arith, number_aired m q v c d a w, mul-le-mul_left {m = 1} {n = a} (free m) (omega arith)))

  -- one tick less of taken air
  pub number_lowered : cond (ltb (number m (situated q v c d a w)) (free m)) (number m (situated q v c d a w)) (number m (situated q v c d a w) - free m)
      ≡ number m (situated q v c d (a - 1) w)
  number_lowered = by (ℕ_discrete a 0)
    where
      n : ℕ
      n = number m (situated q v c d a w)

      by : Dec (a ≡ 0) → cond (ltb n (free m)) n (n - free m) ≡ number m (situated q v c d (a - 1) w)
      by (yes e) =
          let same : a ≡ a - 1 = omega arith in
          rw (lt-ltb n (free m) (free-number e)) (ap (λ (x : ℕ). number m (situated q v c d x w)) same)
      by (no e) =
          let next : a ≡ suc (a - 1) = omega arith in
          let more : free m * a ≡ free m * suc (a - 1) = ap (λ (x : ℕ). free m * x) next in
          let here : n ≡ number m (situated q v c d (a - 1) w) + free m = omega (arith, number_aired m q v c d a w, number_aired m q v c d (a - 1) w) in
          rw (le-ltb n (free m) (omega arith)) (omega arith)
