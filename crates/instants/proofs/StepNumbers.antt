-- A step on numbers: a move takes a number to a number, and the tick follows.
use Prim.Native.Nat.{ℕ, ◌+◌, ◌-◌, ◌*◌, ◌/◌, ◌%◌, ◌<◌, ◌≤◌}
use native.Mathlib.Nat.{mod-lt, mod-add-div, div-lt_iff_lt-mul}
use native.Mathlib.Omega.{arith}
use mathlib.Core.Path.{◌≡◌, refl, sym, ap, ap₂, subst, ◌∙◌}
use mathlib.Core.Logic.{◌⊎◌, inl, inr}
use mathlib.Core.List.{[], ◌∷◌}
use mathlib.Core.Bool.{Bool, true, false, cond, ◌&&◌}
use Rattle.std.specs.Prelude.{Option, Some, None, slice_get}
use Rattle.std.specs.Option.{option_map, option_and_then}
use Rattle.std.proofs.lemmas.Option.{none-some, same_Some}
use Rattle.model.proofs.Options.{bind-eq-some_iff, map-eq-some_iff}
use lib.Dec.{ltb, eqb}
use borrow.Author.Tests.{eqb-true, eq-eqb}
use Rattle.model.specs.Limits.{transition_limit}
use Rattle.model.specs.Guard.{holds}
use Rattle.model.specs.Rule.{masks, window_behind, allows}
use Rattle.model.specs.Monitor.{Monitor, Transition, changed, reset, after, enabled, fires, to_unit, airtime, is_guess, within_rule}
use Rattle.model.specs.Size.{cap, size}
use Rattle.model.specs.Situation.{InRange, Move, keep, rest, add, config_of, capped, sent, missed, trigger_of, moved, tick, step_by, rest_move, first_add, move_limit, move_of, number, situation_of}
use Rattle.model.specs.declared.Situation.{Situation}
use Rattle.model.specs.Sane.{Sane}
use Rattle.model.proofs.Instants.{move_of-keep, move_of-rest, move_of-add, trigger-number}
use Rattle.model.proofs.Numbering.{outcome, sending, back, forth}
use Rattle.instants.specs.Grid.{firsts, seconds, plane, assignments, plane_at, free, clocks_at}
use Rattle.instants.specs.Firing.{fits, guessed, source_at, target_at, holds_at}
use Rattle.instants.specs.Backward.{ticked, reset_by}
use Rattle.instants.specs.Claims.{step_from}
use Rattle.instants.specs.Sourced.{Sourced}
use Rattle.instants.proofs.TestLaws.{both_are, cond-some}
use Rattle.instants.proofs.DigitLaws.{low_mod, low_div}
use Rattle.instants.proofs.PlaceLaws.{situated, number-placed, number-ticked, number-reset, number_aired, place_in, free-number, number-free, number_lowered}

-- no row is sent: n becomes y
abbrev pub Rests : Monitor → Option ℕ → (n y : ℕ) → Type 0
Rests m None n y = y ≡ cond (ltb n (free m)) n (n - free m)
Rests m (Some k) n y = (to_unit m k ≡ true) × (n < free m) × (y ≡ n + free m * airtime m k)

-- a transition fires: n becomes y, before the clocks r are reset
pub record Fired (m : Monitor) (recorded : Option ℕ) (n y r : ℕ) : Type 0 where
  pub index : ℕ
  pub transition : Transition
  pub window : ℕ
  pub variables : ℕ
  pub place : ℕ
  pub listed : slice_get m.transitions index ≡ Some transition
  pub fit : fits recorded transition ≡ true
  pub allowed : allows m.rule window (guessed m recorded transition) ≡ true
  pub window-below : window < masks m.rule
  pub variables-below : variables < assignments m
  pub place-below : place < plane m
  pub holding : holds_at m transition variables place ≡ true
  pub from : n ≡ source_at m transition window variables + place
  pub to : y ≡ target_at m (guessed m recorded transition) transition window variables + place
  pub resets : transition.resets % 4 ≡ r

-- a row is sent
pub record Sends (m : Monitor) (recorded : Option ℕ) (n y : ℕ) : Type 0 where
  pub between : ℕ
  pub mask : ℕ
  pub fired : Fired m recorded n between mask
  pub end : y ≡ reset_by m mask between

abbrev pub Moves : Monitor → Option ℕ → (n y : ℕ) → Type 0
Moves m recorded n y = Rests m recorded n y ⊎ Sends m recorded n y

-- a sent row in the model, taken apart
pub record Fires (m : Monitor) (guess : Bool) (j k : ℕ) (s : Situation) (t : Transition) : Type 0 where
  pub listed : slice_get m.transitions j ≡ Some t
  pub air : s.air ≡ 0
  pub allowed : allows m.rule s.window guess ≡ true
  pub source : t.source ≡ s.state
  pub trigger : t.trigger ≡ k
  pub holding : holds t.guard s.variables s.clocks ≡ true

module _ (m : Monitor) (guess : Bool) (j k : ℕ) (s : Situation) where
  abbrev behind : Transition → Situation
  behind t = sending m k (window_behind m.rule s.window guess) (after m t (config_of s))

  sent-some : (x : Situation) → sent m guess j k s ≡ Some x → (t : Transition) × Fires m guess j k s t × (behind t ≡ x)
  unfolding sent within_rule fires
  sent-some x e =
      let (air, p) = cond-some (eqb s.air 0) (option_map (sending m k (window_behind m.rule s.window guess)) (within_rule m s.window guess (fires m j k (config_of s)))) e in
      let (c, q, same) = (map-eq-some_iff (sending m k (window_behind m.rule s.window guess)) (within_rule m s.window guess (fires m j k (config_of s)))).0 p in
      let (allowed, f) = cond-some (allows m.rule s.window guess) (fires m j k (config_of s)) q in
      let (t, listed, o) = (bind-eq-some_iff (slice_get m.transitions j) (outcome m k (config_of s))).0 f in
      let (on, there) = cond-some (enabled t k (config_of s)) (Some (after m t (config_of s))) o in
      let (begins, holding) = both_are (eqb t.source s.state && eqb t.trigger k) (holds t.guard s.variables s.clocks) on in
      let (source, trigger) = both_are (eqb t.source s.state) (eqb t.trigger k) begins in (
        t,
        record {
          listed = listed;
          air = eqb-true s.air 0 air;
          allowed = allowed;
          source = eqb-true t.source s.state source;
          trigger = eqb-true t.trigger k trigger;
          holding = holding;
        },
        ap (sending m k (window_behind m.rule s.window guess)) (same_Some _ _ there) ∙ same,
      )

  some-sent : (t : Transition) → Fires m guess j k s t → sent m guess j k s ≡ Some (behind t)
  unfolding sent within_rule fires
  some-sent t f =
      rw (eq-eqb s.air 0 f.air, f.allowed, f.listed, eq-eqb t.source s.state f.source, eq-eqb t.trigger k f.trigger, f.holding)

module _ (m : Monitor) (k : ℕ) (s : Situation) where
  missed-some : (x : Situation) → missed m k s ≡ Some x → (s.air ≡ 0) × (to_unit m k ≡ true) × (sending m k s.window (config_of s) ≡ x)
  unfolding missed
  missed-some x e =
      let (air, p) = cond-some (eqb s.air 0) (option_map (sending m k s.window) (cond (to_unit m k) (Some (config_of s)) None)) e in
      let (c, q, same) = (map-eq-some_iff (sending m k s.window) (cond (to_unit m k) (Some (config_of s)) None)).0 p in
      let (unit, there) = cond-some (to_unit m k) (Some (config_of s)) q in
      (eqb-true s.air 0 air, unit, ap (sending m k s.window) (same_Some _ _ there) ∙ same)

  some-missed : s.air ≡ 0 → to_unit m k ≡ true → missed m k s ≡ Some (sending m k s.window (config_of s))
  unfolding missed
  some-missed air unit = rw (eq-eqb s.air 0 air, unit)

-- numbers before and after a move, of a situation by its parts

cond-most : (b : Bool) (c most : ℕ) → c ≤ most → cond b 0 c ≤ most
cond-most true c most h = omega arith
cond-most false c most h = h

module _ (m : Monitor) {q v c d a w : ℕ} (range : InRange m (situated q v c d a w)) where
  abbrev here : Situation
  here = situated q v c d a w

  abbrev spot : ℕ
  spot = c + firsts m * d

  number-still : number m (tick (capped m) here) ≡ ticked m (cond (ltb (number m here) (free m)) (number m here) (number m here - free m))
  number-still = number-ticked m q v c d a w range.first range.second ∙ ap (ticked m) (sym (number_lowered m range))

  number-removed : (k : ℕ) → a ≡ 0 → number m (tick (capped m) (sending m k w (config_of here))) ≡ ticked m (number m here + free m * airtime m k)
  number-removed k e =
      let same : airtime m k + 1 - 1 ≡ airtime m k = omega arith in
      number-ticked m q v c d (airtime m k + 1) w range.first range.second
      ∙ ap (λ (x : ℕ). ticked m (number m (situated q v c d x w))) same
      ∙ ap (ticked m) (sym (ap (λ (x : ℕ). number m (situated q v c d x w) + free m * airtime m k) e ∙ number_aired m q v c d (airtime m k) w))

  number_source : (t : Transition) → a ≡ 0 → t.source ≡ q → number m here ≡ source_at m t w v + spot
  unfolding source_at
  number_source t e f =
      ap₂ (λ (x y : ℕ). number m (situated y v c d x w)) e (sym f) ∙ number-placed m t.source v c d 0 w ∙ by (plane_at m v t.source w + spot) (free m)
    where
      by : (x y : ℕ) → x + y * 0 ≡ x
      by x y = omega arith

  number-sent : (guess : Bool) (k : ℕ) (t : Transition) → t.trigger ≡ k
      → number m (tick (capped m) (sending m k (window_behind m.rule w guess) (after m t (config_of here))))
      ≡ ticked m (reset_by m (t.resets % 4) (target_at m guess t w v + spot))
  unfolding target_at reset
  number-sent guess k t e =
      let same : airtime m k + 1 - 1 ≡ airtime m k = omega arith in
      let q' : ℕ = t.target in
      let v' : ℕ = changed m.variables v t.sets t.clears in
      let w' : ℕ = window_behind m.rule w guess in
      let x : ℕ = cond (eqb (t.resets % 2) 1) 0 c in
      let y : ℕ = cond (eqb (t.resets / 2 % 2) 1) 0 d in
      number-ticked m q' v' x y (airtime m k + 1) w' (cond-most (eqb (t.resets % 2) 1) c (cap m 0) range.first) (cond-most (eqb (t.resets / 2 % 2) 1) d (cap m 1) range.second)
      ∙ ap (λ (z : ℕ). ticked m (number m (situated q' v' x y z w'))) (same ∙ ap (airtime m) (sym e))
      ∙ ap (ticked m) (number-reset m t.resets q' v' c d (airtime m t.trigger) w' range.first range.second)
      ∙ ap (λ (z : ℕ). ticked m (reset_by m (t.resets % 4) z))
      (number-placed m q' v' c d (airtime m t.trigger) w' ∙ by (plane_at m v' q' w') spot (free m * airtime m t.trigger))
    where
      by : (x y z : ℕ) → x + y + z ≡ x + z + y
      by x y z = omega arith

  clocks_at_lem : clocks_at m spot ≡ c ∷ d ∷ []
  clocks_at_lem =
      ap₂ (λ (x y : ℕ). x ∷ y ∷ []) (low_mod c (firsts m) d (omega (arith, range.first))) (low_div c (firsts m) d (omega (arith, range.first)))

  -- a sent row is a firing on numbers
  fires-sends : (recorded : Option ℕ) (guess : Bool) (j k : ℕ) (t : Transition) → Fires m guess j k here t → fits recorded t ≡ true → guess ≡ guessed m recorded t
      → Sends m recorded (number m here) (reset_by m (t.resets % 4) (target_at m guess t w v + spot))
  fires-sends recorded guess j k t f fit same =
      record {
        between = target_at m guess t w v + spot;
        mask = t.resets % 4;
        fired =
            record {
              index = j;
              transition = t;
              window = w;
              variables = v;
              place = spot;
              listed = f.listed;
              fit = fit;
              allowed = subst (λ (g : Bool). allows m.rule w g ≡ true) same f.allowed;
              window-below = range.window;
              variables-below = range.variables;
              place-below = place_in m range;
              holding = ap (holds t.guard v) clocks_at_lem ∙ f.holding;
              from = number_source t f.air f.source;
              to = ap (λ (g : Bool). target_at m g t w v + spot) same;
              resets = refl;
            };
        end = refl;
      }

  abbrev Leads : Option ℕ → Situation → Type 0
  Leads recorded x = (y : ℕ) × Moves m recorded (number m here) y × (number m x ≡ ticked m y)

  sent-leads : (recorded : Option ℕ) (guess : Bool) (j k : ℕ) (x : Situation)
      → ((t : Transition) → t.trigger ≡ k → (fits recorded t ≡ true) × (guess ≡ guessed m recorded t))
      → sent m guess j k here ≡ Some x → Leads recorded (tick (capped m) x)
  sent-leads recorded guess j k x suits e =
      let (t, f, same) = sent-some m guess j k here x e in
      let (fit, g) = suits t f.trigger in (
        reset_by m (t.resets % 4) (target_at m guess t w v + spot),
        inr (fires-sends recorded guess j k t f fit g),
        ap (λ (u : Situation). number m (tick (capped m) u)) (sym same) ∙ number-sent guess k t f.trigger,
      )

  moved-leads : (recorded : Option ℕ) (b : Move) (x : Situation) → moved m recorded here b ≡ Some x → Leads recorded (tick (capped m) x)
  unfolding moved
  moved-leads None (keep j) x e = absurd (none-some x e)
  moved-leads None rest x e =
      (_, inl refl, ap (λ (u : Situation). number m (tick (capped m) u)) (sym (same_Some here x e)) ∙ number-still)
  moved-leads None (add j) x e =
      let (k, listed, f) = (bind-eq-some_iff (trigger_of m j) (λ i. sent m (is_guess m i) j i here)).0 e in
      sent-leads None (is_guess m k) j k x (λ t q. (refl, ap (is_guess m) (sym q))) f
  moved-leads (Some i) (keep j) x e = sent-leads (Some i) false j i x (λ t q. (eq-eqb t.trigger i q, refl)) e
  moved-leads (Some i) rest x e =
      let (air, unit, same) = missed-some m i here x e in
      (_, inl (unit, free-number m range air, refl), ap (λ (u : Situation). number m (tick (capped m) u)) (sym same) ∙ number-removed i air)
  moved-leads (Some i) (add j) x e = absurd (none-some x e)

-- the parts of number n
pub record Parts (m : Monitor) (n : ℕ) : Type 0 where
  pub state : ℕ
  pub variables : ℕ
  pub first : ℕ
  pub second : ℕ
  pub air : ℕ
  pub window : ℕ
  pub is : situation_of m n ≡ situated state variables first second air window
  pub range : InRange m (situated state variables first second air window)
  pub number : number m (situated state variables first second air window) ≡ n

module _ {m : Monitor} (sane : Sane m) where
  parts_of : (n : ℕ) → n < size m → Parts m n
  unfolding situation_of
  parts_of n h =
      record {
        state = _;
        variables = _;
        first = _;
        second = _;
        air = _;
        window = _;
        is = refl;
        range = (forth sane n h).1;
        number = (forth sane n h).0;
      }

  -- where a step leads, some move and then the tick lead
  pub step-moves : (recorded : Option ℕ) (n k z : ℕ) → n < size m → step_from m recorded n k ≡ Some z → (y : ℕ) × Moves m recorded n y × (z ≡ ticked m y)
  unfolding step_by
  step-moves recorded n k z h e =
      let p : Parts m n = parts_of n h in
      let (x, there, same) = (map-eq-some_iff (number m) (step_by m (capped m) recorded (situation_of m n) (move_of k))).0 e in
      let (u, move, tock) = (map-eq-some_iff (tick (capped m)) (moved m recorded (situation_of m n) (move_of k))).0 there in
      let (y, moves, reached) = moved-leads m p.range recorded (move_of k) u (subst (λ (s : Situation). moved m recorded s (move_of k) ≡ Some u) p.is move) in
      (y, subst (λ (i : ℕ). Moves m recorded i y) p.number moves, sym same ∙ ap (number m) (sym tock) ∙ reached)

-- the situation that a transition fires from
module _ {m : Monitor} (sane : Sane m) (sourced : Sourced m) {recorded : Option ℕ} {n y r : ℕ} (f : Fired m recorded n y r) where
  abbrev t : Transition
  t = f.transition

  abbrev guess : Bool
  guess = guessed m recorded t

  abbrev first : ℕ
  first = f.place % firsts m

  abbrev second : ℕ
  second = f.place / firsts m

  abbrev start : Situation
  start = situated t.source f.variables first second 0 f.window

  start_range : InRange m start
  start_range =
      record {
        state = sourced f.index t f.listed;
        variables = f.variables-below;
        clocks = refl;
        first = omega (arith, mod-lt f.place {m = firsts m} (omega arith));
        second = omega (arith, (div-lt_iff_lt-mul {k = firsts m} {x = f.place} {y = seconds m} (omega arith)).1 (omega (arith, f.place-below)));
        air = omega arith;
        window = f.window-below;
      }

  start_spot : first + firsts m * second ≡ f.place
  start_spot = mod-add-div f.place (firsts m)

  start-number : number m start ≡ n
  start-number = number_source m start_range t refl refl ∙ ap (λ (p : ℕ). source_at m t f.window f.variables + p) start_spot ∙ sym f.from

  start_is : situation_of m n ≡ start
  start_is = ap (situation_of m) (sym start-number) ∙ back start_range

  start-sent : (k : ℕ) → t.trigger ≡ k → sent m guess f.index k start ≡ Some (sending m k (window_behind m.rule f.window guess) (after m t (config_of start)))
  start-sent k e =
      some-sent m guess f.index k start t
      (record { listed = f.listed; air = refl; allowed = f.allowed; source = refl; trigger = e; holding = f.holding })

  start-end : (k : ℕ) → t.trigger ≡ k
      → number m (tick (capped m) (sending m k (window_behind m.rule f.window guess) (after m t (config_of start)))) ≡ ticked m (reset_by m r y)
  start-end k e =
      number-sent m start_range guess k t e
      ∙ ap₂ (λ (i j : ℕ). ticked m (reset_by m i j)) f.resets
      (ap (λ (p : ℕ). target_at m guess t f.window f.variables + p) start_spot ∙ sym f.to)

  start-step : (b : Move) (k : ℕ) → t.trigger ≡ k → moved m recorded start b ≡ sent m guess f.index k start
      → option_map (number m) (step_by m (capped m) recorded (situation_of m n) b) ≡ Some (ticked m (reset_by m r y))
  unfolding step_by
  start-step b k e same =
      ap (λ (s : Situation). option_map (number m) (option_map (tick (capped m)) (moved m recorded s b))) start_is
      ∙ ap (λ (o : Option Situation). option_map (number m) (option_map (tick (capped m)) o)) (same ∙ start-sent k e)
      ∙ ap {B = Option ℕ} Some (start-end k e)

  index_few : f.index < transition_limit
  index_few = trigger-number m sane f.index t.trigger (ap (option_map (λ i. i.trigger)) f.listed)

abbrev Stepping : Monitor → Option ℕ → (n z : ℕ) → Type 0
Stepping m recorded n z = (k : ℕ) × (k < move_limit) × (step_from m recorded n k ≡ Some z)

module _ {m : Monitor} (sane : Sane m) where
  fired-step : Sourced m → (recorded : Option ℕ) (n y r : ℕ) → Fired m recorded n y r → Stepping m recorded n (ticked m (reset_by m r y))
  unfolding moved
  fired-step sourced None n y r f = (
    first_add + f.index,
    omega (arith, index_few sane sourced f),
    ap (λ (b : Move). option_map (number m) (step_by m (capped m) None (situation_of m n) b)) (move_of-add f.index)
        ∙ start-step sane sourced f (add f.index) f.transition.trigger refl
        (ap (λ (o : Option Transition). option_and_then (λ i. sent m (is_guess m i) f.index i (start sane sourced f)) (option_map (λ t. t.trigger) o)) f.listed),
  )
  fired-step sourced (Some i) n y r f = (
    f.index,
    omega (arith, index_few sane sourced f),
    ap (λ (b : Move). option_map (number m) (step_by m (capped m) (Some i) (situation_of m n) b)) (move_of-keep f.index (index_few sane sourced f))
        ∙ start-step sane sourced f (keep f.index) i (eqb-true f.transition.trigger i f.fit) refl,
  )

  rested-step : (recorded : Option ℕ) (n y : ℕ) → n < size m → Rests m recorded n y → Stepping m recorded n (ticked m y)
  unfolding step_by moved
  rested-step None n y h e =
      let p : Parts m n = parts_of sane n h in (
        rest_move,
        omega arith,
        ap (λ (b : Move). option_map (number m) (step_by m (capped m) None (situation_of m n) b)) move_of-rest
            ∙ ap {B = Option ℕ} (λ (s : Situation). Some (number m (tick (capped m) s))) p.is
            ∙ ap {B = Option ℕ} Some
            (number-still m p.range ∙ ap (λ (i : ℕ). ticked m (cond (ltb i (free m)) i (i - free m))) p.number ∙ ap (ticked m) (sym e)),
      )
  rested-step (Some i) n y h (unit, low, e) =
      let p : Parts m n = parts_of sane n h in
      let air : p.air ≡ 0 = number-free m p.range (subst (λ (x : ℕ). x < free m) (sym p.number) low) in (
        rest_move,
        omega arith,
        ap (λ (b : Move). option_map (number m) (step_by m (capped m) (Some i) (situation_of m n) b)) move_of-rest
            ∙ ap (λ (s : Situation). option_map (number m) (option_map (tick (capped m)) (missed m i s))) p.is
            ∙ ap (λ (o : Option Situation). option_map (number m) (option_map (tick (capped m)) o)) (some-missed m i _ air unit)
            ∙ ap {B = Option ℕ} Some
            (number-removed m p.range i air ∙ ap (λ (x : ℕ). ticked m (x + free m * airtime m i)) p.number ∙ ap (ticked m) (sym e)),
      )

  -- where a move and then the tick lead, some step leads
  pub moves-step : Sourced m → (recorded : Option ℕ) (n y : ℕ) → n < size m → Moves m recorded n y → Stepping m recorded n (ticked m y)
  moves-step sourced recorded n y h (inl e) = rested-step recorded n y h e
  moves-step sourced recorded n y h (inr f) =
      subst (λ (i : ℕ). Stepping m recorded n (ticked m i)) (sym f.end) (fired-step sourced recorded n f.between f.mask f.fired)
