-- Situations and their numbers: each situation in range has a number below the size, and back; a step stays in range.
use Prim.Native.Nat.{ℕ, zero, suc, ◌+◌, ◌-◌, ◌*◌, ◌/◌, ◌%◌, ◌^◌, ◌<◌, ◌≤◌}
use native.Mathlib.Nat.{add-mul-mod_self_left, add-mul-div_left, mod-eq_of_lt, div-eq_of_lt, zero-add, mod-lt, mod-add-div, div-lt_iff_lt-mul, mul_comm, one-le-pow, min-le_right, pow-succ'}
use native.Mathlib.Omega.{arith}
use mathlib.Core.Path.{◌≡◌, refl, sym, ap, ap₂, subst, ◌∙◌}
use mathlib.Core.List.{List, [], ◌∷◌}
use mathlib.Core.Bool.{Bool, true, false, cond}
use Rattle.std.specs.Prelude.{Option, Some, None, slice_get}
use Rattle.std.specs.Option.{option_map, option_and_then}
use lib.ListN.{get_or}
use lib.Arith.{digits_lt}
use lib.Dec.{eqb}
use Rattle.model.specs.Rule.{Rule, masks, window_behind, allows}
use Rattle.model.specs.Monitor.{Monitor, Config, Transition, changed, fires, after, enabled, airtime, to_unit, is_guess, within_rule}
use Rattle.model.specs.Size.{greatest, largest_airtime, cap, table_size, size}
use Rattle.model.specs.Situation.{InRange, Move, keep, rest, add, config_of, with_air, capped, first_by, first_number, on_air, sent, missed, trigger_of, moved, tick, step_by, number, situation_of}
use Rattle.model.specs.declared.Situation.{Situation}
use Rattle.model.specs.Sane.{Sane}
use Rattle.model.specs.Claims.{Numbered}
use Rattle.model.proofs.RuleLaws.{behind-below}

-- a number by its lowest digit d, of base r, and the rest q

digit_mod : (d r q : ℕ) → d < r → (d + r * q) % r ≡ d
digit_mod d r q h = add-mul-mod_self_left d r q ∙ mod-eq_of_lt h

digit_div : (d r q : ℕ) → d < r → (d + r * q) / r ≡ q
digit_div d r q h = add-mul-div_left d q (omega arith) ∙ ap (λ (x : ℕ). x + q) (div-eq_of_lt h) ∙ zero-add q

digit-below : (d r q n : ℕ) → d < r → q < n → d + r * q < r * n
digit-below d r q n h k = omega (arith, digits_lt k h, mul_comm q r, mul_comm n r)

rest_below : (x r n : ℕ) → 0 < r → x < r * n → x / r < n
rest_below x r n p h = (div-lt_iff_lt-mul p).1 (omega (arith, mul_comm n r))

pos_pow : (n : ℕ) → 0 < 2 ^ n
pos_pow n = one-le-pow n 2 (omega arith)

pub pos_masks : (rule : Rule) → 0 < masks rule
pos_masks rule = pos_pow (rule.window - 1)

-- N by the digits of a number, the lowest first
abbrev places : Monitor → ℕ
places m = (cap m 0 + 1) * ((cap m 1 + 1) * (2 ^ m.variables * (m.states * (masks m.rule * (largest_airtime m + 1)))))

size_places : (m : Monitor) → size m ≡ places m
unfolding size table_size
size_places m = by m.states (2 ^ m.variables) (cap m 0 + 1) (cap m 1 + 1) (largest_airtime m + 1) (masks m.rule)
  where
    by : (states masks first second air windows : ℕ) → states * (masks * (first * (second * air))) * windows ≡ first * (second * (masks * (states * (windows * air))))
    by s v a b c w = omega arith

module _ {m : Monitor} {s : Situation} (r : InRange m s) where
  pub number-below : number m s < size m
  unfolding number
  number-below =
      rw (size_places m)
      (digit-below _ _ _ _ (omega arith)
      (digit-below _ _ _ _ (omega arith)
      (digit-below _ _ _ _ r.variables (digit-below _ _ _ _ r.state (digit-below _ _ _ _ r.window (omega arith))))))

  pub back : situation_of m (number m s) ≡ s
  unfolding number situation_of
  back =
      let c0 : ℕ = get_or s.clocks 0 0 in
      let c1 : ℕ = get_or s.clocks 1 0 in
      let f : c0 < cap m 0 + 1 = omega arith in
      let g : c1 < cap m 1 + 1 = omega arith in
      let n5 : ℕ = s.window + masks m.rule * s.air in
      let n4 : ℕ = s.state + m.states * n5 in
      let n3 : ℕ = s.variables + 2 ^ m.variables * n4 in
      let n2 : ℕ = c1 + (cap m 1 + 1) * n3 in
      let n1 : ℕ = c0 + (cap m 0 + 1) * n2 in
      let q1 : n1 / (cap m 0 + 1) ≡ n2 = digit_div _ _ _ f in
      let q2 : n1 / (cap m 0 + 1) / (cap m 1 + 1) ≡ n3 = ap (λ (x : ℕ). x / (cap m 1 + 1)) q1 ∙ digit_div _ _ _ g in
      let q3 : n1 / (cap m 0 + 1) / (cap m 1 + 1) / 2 ^ m.variables ≡ n4 = ap (λ (x : ℕ). x / 2 ^ m.variables) q2 ∙ digit_div _ _ _ r.variables in
      let q4 : n1 / (cap m 0 + 1) / (cap m 1 + 1) / 2 ^ m.variables / m.states ≡ n5 = ap (λ (x : ℕ). x / m.states) q3 ∙ digit_div _ _ _ r.state in
      λ i.
      record {
        clocks =
            (ap₂ (λ (x y : ℕ). x ∷ y ∷ [])
            (digit_mod c0 (cap m 0 + 1) n2 f)
            (ap (λ (x : ℕ). x % (cap m 1 + 1)) q1 ∙ digit_mod _ _ _ g)
            ∙ sym r.clocks) i;
        variables = (ap (λ (x : ℕ). x % 2 ^ m.variables) q2 ∙ digit_mod _ _ _ r.variables) i;
        state = (ap (λ (x : ℕ). x % m.states) q3 ∙ digit_mod _ _ _ r.state) i;
        window = (ap (λ (x : ℕ). x % masks m.rule) q4 ∙ digit_mod _ _ _ r.window) i;
        air = (ap (λ (x : ℕ). x / masks m.rule) q4 ∙ digit_div _ _ _ r.window) i;
      }

module _ {m : Monitor} (sane : Sane m) where
  pub forth : (n : ℕ) → n < size m → (number m (situation_of m n) ≡ n) × InRange m (situation_of m n)
  unfolding number situation_of
  forth n h = (
    simp mod-add-div,
    record {
      clocks = refl;
      first = omega (arith, mod-lt n {m = cap m 0 + 1} (omega arith));
      second = omega (arith, mod-lt (n / (cap m 0 + 1)) {m = cap m 1 + 1} (omega arith));
      variables = mod-lt _ (pos_pow m.variables);
      state = mod-lt _ sane.states;
      window = mod-lt _ (pos_masks m.rule);
      air =
          omega (
            arith,
            rest_below _ (masks m.rule) _ (pos_masks m.rule)
                (rest_below _ _ _ sane.states
                (rest_below _ _ _ (pos_pow m.variables)
                (rest_below _ (cap m 1 + 1) _ (omega arith) (rest_below _ (cap m 0 + 1) _ (omega arith) (rw (size_places m) at h))))),
          );
    },
  )

-- what a transition does with a packet of kind k
abbrev pub outcome : Monitor → ℕ → Config → Transition → Option Config
outcome m k c t = cond (enabled t k c) (Some (after m t c)) None

-- the situation once a packet is on the air, before the tick: the air is taken
abbrev pub sending : Monitor → (k window : ℕ) → Config → Situation
sending m k window c = with_air c (airtime m k + 1) window

-- a condition on the outcome, if there is one
abbrev Every : {A : Type 0} → (A → Type 0) → Option A → Type 0
Every P None = Unit {0}
Every P (Some a) = P a

module _ {B : Type 0} (P : B → Type 0) where
  every_cond : (t : Bool) (o : Option B) → Every P o → Every P (cond t o None)
  every_cond true o h = h
  every_cond false o h = tt

  every_bind : {A : Type 0} (o : Option A) (f : A → Option B) → ((a : A) → o ≡ Some a → Every P (f a)) → Every P (option_and_then f o)
  every_bind None f h = tt
  every_bind (Some a) f h = h a refl

  every_map : {A : Type 0} (f : A → B) (o : Option A) → Every (λ a. P (f a)) o → Every P (option_map f o)
  every_map f None h = tt
  every_map f (Some a) h = h

  every_some : (o : Option B) {b : B} → Every P o → o ≡ Some b → P b
  every_some o h e = subst (Every P) e h

-- before the tick, a step changes nothing, takes the air, or takes it and fires one transition: so what holds of these holds of its outcome
module _
    (m : Monitor) (write : List ℕ → List ℕ) (s : Situation) (P : Situation → Type 0)
    (same : P (tick write s))
    (taken : (k : ℕ) → P (tick write (sending m k s.window (config_of s))))
    (fired : (guess : Bool) (j k : ℕ) (t : Transition) → slice_get m.transitions j ≡ Some t
    → P (tick write (sending m k (window_behind m.rule s.window guess) (after m t (config_of s)))))
  where
    abbrev Ticked : Situation → Type 0
    Ticked y = P (tick write y)

    abbrev Sent : (k window : ℕ) → Config → Type 0
    Sent k window c = Ticked (sending m k window c)

    every-air : (k window : ℕ) (o : Option Config) → Every (Sent k window) o → Every Ticked (on_air m k s window o)
    every-air k window o h = every_cond Ticked (eqb s.air 0) (option_map (sending m k window) o) (every_map Ticked (sending m k window) o h)

    every-sent : (guess : Bool) (j k : ℕ) → Every Ticked (sent m guess j k s)
    unfolding sent within_rule fires
    every-sent guess j k =
        let window : ℕ = window_behind m.rule s.window guess in
        every-air k window (within_rule m s.window guess (fires m j k (config_of s)))
        (every_cond (Sent k window) (allows m.rule s.window guess) (fires m j k (config_of s))
        (every_bind (Sent k window) (slice_get m.transitions j) (outcome m k (config_of s))
        (λ t e. every_cond (Sent k window) (enabled t k (config_of s)) (Some (after m t (config_of s))) (fired guess j k t e))))

    every-missed : (k : ℕ) → Every Ticked (missed m k s)
    unfolding missed
    every-missed k =
        every-air k s.window (cond (to_unit m k) (Some (config_of s)) None)
        (every_cond (Sent k s.window) (to_unit m k) (Some (config_of s)) (taken k))

    every-moved : (recorded : Option ℕ) (a : Move) → Every Ticked (moved m recorded s a)
    unfolding moved
    every-moved None (keep j) = tt
    every-moved None rest = same
    every-moved None (add j) = every_bind Ticked (trigger_of m j) (λ k. sent m (is_guess m k) j k s) (λ k e. every-sent (is_guess m k) j k)
    every-moved (Some r) (keep j) = every-sent false j r
    every-moved (Some r) rest = every-missed r
    every-moved (Some r) (add j) = tt

    pub every_step : (recorded : Option ℕ) (a : Move) {x : Situation} → step_by m write recorded s a ≡ Some x → P x
    unfolding step_by
    every_step recorded a e = every_some P _ (every_map P (tick write) (moved m recorded s a) (every-moved recorded a)) e

-- the fields of a situation after a step

digit_two : (t u : Bool) (v : ℕ) → cond t 1 (cond u 0 (v % 2)) < 2
digit_two true u v = omega arith
digit_two false true v = omega arith
digit_two false false v = omega arith

changed-below : (n v sets clears : ℕ) → changed n v sets clears < 2 ^ n
unfolding changed
changed-below zero v s c = omega arith
changed-below (suc n) v s c =
    rw pow-succ' (digit-below _ _ _ _ (digit_two (eqb (s % 2) 1) (eqb (c % 2) 1) v) (changed-below n (v / 2) (s / 2) (c / 2)))

listed : (l : List ℕ) (k : ℕ) → get_or l k 0 ≤ greatest l
unfolding greatest
listed [] k = omega arith
listed (a ∷ l) zero = omega arith
listed (a ∷ l) (suc k) = omega (arith, listed l k)

-- clocks as they are written are in range
in_range_lem : (m : Monitor) (s v air window : ℕ) (c : List ℕ) → s < m.states → v < 2 ^ m.variables → air ≤ largest_airtime m → window < masks m.rule
    → InRange m (record { state = s; variables = v; clocks = capped m c; air = air; window = window })
unfolding capped
in_range_lem m s v air window c hs hv ha hw =
    record { state = hs; variables = hv; clocks = refl; first = min-le_right _ _; second = min-le_right _ _; air = ha; window = hw }

module _ {m : Monitor} (sane : Sane m) where
  pub step_in_range : (recorded : Option ℕ) (a : Move) {s x : Situation} → InRange m s → step_by m (capped m) recorded s a ≡ Some x → InRange m x
  step_in_range recorded a {s} r e =
      every_step m (capped m) s (InRange m)
      (in_range_lem m _ _ _ _ _ r.state r.variables (omega arith) r.window)
      (λ k. in_range_lem m _ _ _ _ _ r.state r.variables (omega (arith, listed m.airtimes k)) r.window)
      (λ guess j k t q.
      in_range_lem m _ _ _ _ _ (sane.transition j t q).target (changed-below _ _ _ _) (omega (arith, listed m.airtimes k)) (behind-below m.rule s.window guess))
      recorded a e

  pub first_in_range : InRange m (first_by (capped m))
  first_in_range = in_range_lem m _ _ _ _ _ sane.states (pos_pow _) (omega arith) (pos_masks m.rule)

  pub first_number_below : first_number m < size m
  first_number_below = number-below first_in_range

  pub numbered : Numbered m
  numbered =
      record {
        below = λ s r. number-below r;
        back = λ s r. back r;
        forth = forth sane;
        first = first_in_range;
        step = λ recorded a s x r e. step_in_range recorded a r e;
      }
