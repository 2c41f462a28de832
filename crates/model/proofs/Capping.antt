-- Writing each clock above M as M + 1 changes no guard, no answer of one and no step: the moves that lead somewhere on numbers are those that do with real clocks.
use Prim.Native.Nat.{ℕ, zero, suc, ◌+◌, ◌-◌, ◌/◌, ◌%◌, ◌<◌, ◌≤◌, min}
use native.Mathlib.Nat.{not-suc-le-zero, min-eq_left}
use native.Mathlib.Omega.{arith}
use mathlib.Core.Path.{◌≡◌, refl, sym, ap, ap₂, subst, ◌∙◌}
use mathlib.Core.List.{List, [], ◌∷◌, map}
use mathlib.Core.Bool.{Bool, true, false, cond, not, ◌&&◌}
use mathlib.Core.Logic.{◌↔◌}
use Rattle.std.specs.Prelude.{Option, Some, None, slice_get}
use Rattle.std.specs.Option.{option_map, option_and_then}
use Rattle.model.proofs.Options.{map-eq-some_iff}
use lib.ListN.{get_or}
use lib.Dec.{eqb}
use borrow.Author.Tests.{lt-ltb, eq-eqb}
use Rattle.model.specs.Guard.{Guard, always, at_most, at_least, variable, negation, conjunction, holds, largest}
use Rattle.model.specs.Readiness.{waited, readiness}
use Rattle.model.specs.Rule.{window_behind, allows}
use Rattle.model.specs.Monitor.{Monitor, Config, Transition, fires, after, enabled, reset, to_unit, airtime, is_guess, within_rule}
use Rattle.model.specs.Size.{largest_in, largest_bound, cap, size}
use Rattle.model.specs.Situation.{TwoClocks, InRange, Move, keep, rest, add, config_of, with_air, capped, uncapped, first_by, first_number, on_air, sent, missed, trigger_of, moved, tick, step_by, recorded_at, move_of, move_limit, number, step_number}
use Rattle.model.specs.Trace.{Packet}
use Rattle.model.specs.declared.Situation.{Situation}
use Rattle.model.specs.Sane.{Sane, Closed}
use Rattle.model.proofs.Basics.{leb_same}
use Rattle.model.proofs.ReadinessLaws.{same-readiness}
use Rattle.model.proofs.Chains.{Leads, Moves}
use Rattle.model.proofs.Numbering.{outcome, sending, number-below, back, every_step, step_in_range, first_in_range}

-- a situation with its clocks as they are written
abbrev pub written : Monitor → Situation → Situation
written m s = record { state = s.state; variables = s.variables; clocks = capped m s.clocks; air = s.air; window = s.window }

-- guards

module _ (m : Monitor) (two : m.clocks ≤ 2) where
  -- a clock that the table has is written as at most M + 1
  reads : (c : List ℕ) (i : ℕ) → i < m.clocks → get_or (capped m c) i 0 ≡ min (get_or c i 0) (largest_bound m i + 1)
  unfolding capped cap
  reads c zero h = rw (lt-ltb 0 m.clocks h)
  reads c (suc zero) h = rw (lt-ltb 1 m.clocks h)
  reads c (suc (suc i)) h = absurd (not-suc-le-zero {n = i} (omega arith))

  pub same-guard : (g : Guard) (v : ℕ) (c : List ℕ) → Closed m g → ((i : ℕ) → largest i g ≤ largest_bound m i) → holds g v (capped m c) ≡ holds g v c
  unfolding holds largest
  same-guard always v c k b = refl
  same-guard (at_most i t) v c k b =
      let h : t ≤ largest_bound m i = rw (eq-eqb i i refl) at (b i) in
      let e : get_or (capped m c) i 0 ≡ min (get_or c i 0) (largest_bound m i + 1) = reads c i k in
      leb_same (get_or (capped m c) i 0) t (get_or c i 0) t (omega arith) (omega arith)
  same-guard (at_least i t) v c k b =
      let h : t ≤ largest_bound m i = rw (eq-eqb i i refl) at (b i) in
      let e : get_or (capped m c) i 0 ≡ min (get_or c i 0) (largest_bound m i + 1) = reads c i k in
      leb_same t (get_or (capped m c) i 0) t (get_or c i 0) (omega arith) (omega arith)
  same-guard (variable x) v c k b = refl
  same-guard (negation g) v c k b = ap not (same-guard g v c k b)
  same-guard (conjunction g h) v c k b =
      ap₂ ◌&&◌ (same-guard g v c k.0 (λ i. omega (arith, b i))) (same-guard h v c k.1 (λ i. omega (arith, b i)))

-- M is at least each T of a listed transition
pub largest-listed : (ts : List Transition) (j : ℕ) (t : Transition) → slice_get ts j ≡ Some t → (i : ℕ) → largest i t.guard ≤ largest_in i ts
unfolding largest_in
largest-listed [] j t e i = let z : ◌≡◌ {A = ℕ} 0 1 = cc in omega arith
largest-listed (u ∷ ts) zero t e i = let q : u ≡ t = cc in rw (← q) (omega arith)
largest-listed (u ∷ ts) (suc j) t e i = omega (arith, largest-listed ts j t e i)

-- steps

-- a fact about every list of two clocks
of_two : (F : List ℕ → Type 0) → ((x y : ℕ) → F (x ∷ y ∷ [])) → (c : List ℕ) → TwoClocks c → F c
of_two F f c two = subst F (sym two) (f _ _)

-- a clock, reset or not, and then one tick
min_ticked : (zeroed : Bool) (x l : ℕ) → min (cond zeroed 0 (min x l) + 1) l ≡ min (cond zeroed 0 x + 1) l
min_ticked true x l = refl
min_ticked false x l = omega arith

-- a clock above what it is written as, and then d ticks
min_waited : (x d l : ℕ) → min (min x l + d) l ≡ min (x + d) l
min_waited x d l = omega arith

module _ (m : Monitor) where
  written-waited : (d : ℕ) (c : List ℕ) → TwoClocks c → capped m (waited d (capped m c)) ≡ capped m (waited d c)
  unfolding capped
  written-waited d =
      of_two (λ c. capped m (waited d (capped m c)) ≡ capped m (waited d c))
      (λ x y. ap₂ (λ (u v : ℕ). u ∷ v ∷ []) (min_waited x d (cap m 0)) (min_waited y d (cap m 1)))

  -- nor does it change what a guard answers (R-10)
  pub same_answer_lem : m.clocks ≤ 2 → (g : Guard) (v : ℕ) (c : List ℕ) → TwoClocks c → Closed m g → ((i : ℕ) → largest i g ≤ largest_bound m i) → readiness g v (capped m c) ≡ readiness g v c
  same_answer_lem few g v c two k b =
      same-readiness g v (capped m c) c (same-guard m few g v c k b)
      (λ d.
      sym (same-guard m few g v (waited d (capped m c)) k b)
      ∙ ap (holds g v) (written-waited d c two)
      ∙ same-guard m few g v (waited d c) k b)

  -- clocks in range are written as they are
  pub written_back : (s : Situation) → InRange m s → capped m s.clocks ≡ s.clocks
  unfolding capped
  written_back s r =
      ap₂ (λ (u v : ℕ). u ∷ v ∷ []) (min-eq_left r.first) (min-eq_left r.second) ∙ sym r.clocks

  ticked : (c : List ℕ) → TwoClocks c → capped m (map (λ x. x + 1) (capped m c)) ≡ capped m (map (λ x. x + 1) c)
  ticked = written-waited 1

  reset-ticked : (mask : ℕ) (c : List ℕ) → TwoClocks c → capped m (map (λ x. x + 1) (reset mask (capped m c))) ≡ capped m (map (λ x. x + 1) (reset mask c))
  unfolding capped reset
  reset-ticked mask =
      of_two (λ c. capped m (map (λ x. x + 1) (reset mask (capped m c))) ≡ capped m (map (λ x. x + 1) (reset mask c)))
      (λ x y. ap₂ (λ (u v : ℕ). u ∷ v ∷ []) (min_ticked (eqb (mask % 2) 1) x (cap m 0)) (min_ticked (eqb (mask / 2 % 2) 1) y (cap m 1)))

  -- two outcomes of a move that are written alike after the tick
  abbrev Alike : Option Situation → Option Situation → Type 0
  Alike o r = option_map (tick (capped m)) o ≡ option_map (written m) (option_map (tick uncapped) r)

  alike-cond : (t : Bool) (o r : Option Situation) → Alike o r → Alike (cond t o None) (cond t r None)
  alike-cond true o r h = h
  alike-cond false o r h = refl

  alike_bind : {A : Type 0} (a : Option A) (f g : A → Option Situation) → ((x : A) → Alike (f x) (g x)) → Alike (option_and_then f a) (option_and_then g a)
  alike_bind None f g h = refl
  alike_bind (Some x) f g h = h x

module _ {m : Monitor} (sane : Sane m) (s : Situation) (two : TwoClocks s.clocks) where
  -- two outcomes of a transition that are written alike after the tick, whatever the window is then
  abbrev AlikeSent : (k window : ℕ) → (o r : Option Config) → Type 0
  AlikeSent k window o r = Alike m (option_map (sending m k window) o) (option_map (sending m k window) r)

  alike-fired : (window j k : ℕ) (t : Transition) → slice_get m.transitions j ≡ Some t → AlikeSent k window (outcome m k (config_of (written m s)) t) (outcome m k (config_of s) t)
  alike-fired window j k t e =
      rw (same-guard m sane.clocks t.guard s.variables s.clocks (sane.transition j t e).closed (largest-listed m.transitions j t e)) (on (enabled t k (config_of s)))
    where
      on : (fits : Bool) → AlikeSent k window (cond fits (Some (after m t (config_of (written m s)))) None) (cond fits (Some (after m t (config_of s))) None)
      on true =
          let u : Situation = tick uncapped (sending m k window (after m t (config_of s))) in
          ap {B = Option Situation} (λ (c : List ℕ). Some (record { state = u.state; variables = u.variables; clocks = c; air = u.air; window = u.window })) (reset-ticked m t.resets s.clocks two)
      on false = refl

  alike-air : (k window : ℕ) (o r : Option Config) → AlikeSent k window o r → Alike m (on_air m k (written m s) window o) (on_air m k s window r)
  alike-air k window o r = alike-cond m (eqb s.air 0) (option_map (sending m k window) o) (option_map (sending m k window) r)

  alike-sent : (guess : Bool) (j k : ℕ) → Alike m (sent m guess j k (written m s)) (sent m guess j k s)
  unfolding sent within_rule fires
  alike-sent guess j k =
      alike-air k window (within_rule m s.window guess (fires m j k (config_of (written m s)))) (within_rule m s.window guess (fires m j k (config_of s)))
      (within (allows m.rule s.window guess) (fires m j k (config_of (written m s))) (fires m j k (config_of s)) (on (slice_get m.transitions j) (alike-fired window j k)))
    where
      window : ℕ
      window = window_behind m.rule s.window guess

      on : (o : Option Transition) → ((t : Transition) → o ≡ Some t → AlikeSent k window (outcome m k (config_of (written m s)) t) (outcome m k (config_of s) t))
          → AlikeSent k window (option_and_then (outcome m k (config_of (written m s))) o) (option_and_then (outcome m k (config_of s)) o)
      on None h = refl
      on (Some t) h = h t refl

      within : (allowed : Bool) (o r : Option Config) → AlikeSent k window o r → AlikeSent k window (cond allowed o None) (cond allowed r None)
      within true o r h = h
      within false o r h = refl

  -- the tick alone, whatever it leaves of the air
  alike-rest : (air : ℕ) → Alike m (Some (with_air (config_of (written m s)) air s.window)) (Some (with_air (config_of s) air s.window))
  alike-rest air =
      ap {B = Option Situation} (λ (c : List ℕ). Some (record { state = s.state; variables = s.variables; clocks = c; air = air - 1; window = s.window }))
      (ticked m s.clocks two)

  alike-missed : (k : ℕ) → Alike m (missed m k (written m s)) (missed m k s)
  unfolding missed
  alike-missed k = alike-air k s.window (cond (to_unit m k) (Some (config_of (written m s))) None) (cond (to_unit m k) (Some (config_of s)) None) (on (to_unit m k))
    where
      on : (b : Bool) → AlikeSent k s.window (cond b (Some (config_of (written m s))) None) (cond b (Some (config_of s)) None)
      on true = alike-rest (airtime m k + 1)
      on false = refl

  alike_moved : (recorded : Option ℕ) (a : Move) → Alike m (moved m recorded (written m s) a) (moved m recorded s a)
  unfolding moved
  alike_moved None (keep j) = refl
  alike_moved None rest = alike-rest s.air
  alike_moved None (add j) = alike_bind m (trigger_of m j) (λ k. sent m (is_guess m k) j k (written m s)) (λ k. sent m (is_guess m k) j k s) (λ k. alike-sent (is_guess m k) j k)
  alike_moved (Some r) (keep j) = alike-sent false j r
  alike_moved (Some r) rest = alike-missed r
  alike_moved (Some r) (add j) = refl

  pub capped-step : (recorded : Option ℕ) (a : Move) → step_by m (capped m) recorded (written m s) a ≡ option_map (written m) (step_by m uncapped recorded s a)
  unfolding step_by
  capped-step = alike_moved

  pub step_two_clocks : (recorded : Option ℕ) (a : Move) {x : Situation} → step_by m uncapped recorded s a ≡ Some x → TwoClocks x.clocks
  unfolding reset
  step_two_clocks recorded a e =
      every_step m uncapped s (λ x. TwoClocks x.clocks)
      waited (λ k. waited)
      (λ guess j k t q. of_two (λ c. TwoClocks (map (λ x. x + 1) (reset t.resets c))) (λ x y. refl) s.clocks two)
      recorded a e
    where
      waited : TwoClocks (map (λ x. x + 1) s.clocks)
      waited = of_two (λ c. TwoClocks (map (λ x. x + 1) c)) (λ x y. refl) s.clocks two

-- lists of moves: the general form starts at any instant, from the number of a situation with real clocks

map-map : {A B C : Type 0} (f : A → B) (g : B → C) (o : Option A) → option_map g (option_map f o) ≡ option_map (λ a. g (f a)) o
map-map f g None = refl
map-map f g (Some a) = refl

-- the number at which a situation with real clocks is written
abbrev pub number_of : Monitor → Situation → ℕ
number_of m s = number m (written m s)

module _ {m : Monitor} (sane : Sane m) (recording : List Packet) where
  -- the step on numbers is the step with real clocks
  pub same_step : (t k : ℕ) (s : Situation) → TwoClocks s.clocks → InRange m (written m s) → step_number m recording t (number_of m s) k ≡ option_map (number_of m) (step_by m uncapped (recorded_at recording t) s (move_of k))
  unfolding step_number
  same_step t k s two r =
      ap (λ (u : Situation). option_map (number m) (step_by m (capped m) (recorded_at recording t) u (move_of k))) (back r)
      ∙ ap (option_map (number m)) (capped-step sane s two (recorded_at recording t) (move_of k))
      ∙ map-map (written m) (number m) (step_by m uncapped (recorded_at recording t) s (move_of k))

  -- and what it leads to is in range when written
  pub step-written : (t k : ℕ) (s x : Situation) → TwoClocks s.clocks → InRange m (written m s) → step_by m uncapped (recorded_at recording t) s (move_of k) ≡ Some x → InRange m (written m x)
  step-written t k s x two r e =
      step_in_range sane (recorded_at recording t) (move_of k) r (capped-step sane s two (recorded_at recording t) (move_of k) ∙ ap (option_map (written m)) e)

  pub on_numbers : (ks : List ℕ) (t : ℕ) (s z : Situation) → TwoClocks s.clocks → InRange m (written m s) → Moves m recording t s ks z → Leads (size m) move_limit (step_number m recording) t (number_of m s) ks (number_of m z)
  on_numbers [] t s z two r e = ap (number_of m) e
  on_numbers (k ∷ ks) t s z two r (x, few, e, more) =
      let q : InRange m (written m x) = step-written (suc t) k s x two r e in (
        number_of m x,
        few,
        same_step (suc t) k s two r ∙ ap (option_map (number_of m)) e,
        number-below q,
        on_numbers ks (suc t) x z (step_two_clocks sane s two _ _ e) q more,
      )

  pub with_clocks : (ks : List ℕ) (t : ℕ) (s : Situation) (z : ℕ) → TwoClocks s.clocks → InRange m (written m s) → Leads (size m) move_limit (step_number m recording) t (number_of m s) ks z → (y : Situation) × Moves m recording t s ks y × (number_of m y ≡ z)
  with_clocks [] t s z two r e = (s, refl, e)
  with_clocks (k ∷ ks) t s z two r (n, few, e, below, more) =
      let (x, found, same) = (map-eq-some_iff (number_of m) (step_by m uncapped (recorded_at recording (suc t)) s (move_of k))).0 (sym (same_step (suc t) k s two r) ∙ e) in
      let (y, moves, last) =
      with_clocks ks (suc t) x z (step_two_clocks sane s two _ _ found) (step-written (suc t) k s x two r found)
      (subst (λ (i : ℕ). Leads (size m) move_limit (step_number m recording) (suc t) i ks z) (sym same) more) in
      (y, (x, few, found, moves), last)

  pub same-moves : (ks : List ℕ) → ((z : ℕ) × Leads (size m) move_limit (step_number m recording) 0 (first_number m) ks z) ↔ ((z : Situation) × Moves m recording 0 (first_by uncapped) ks z)
  same-moves ks = (
    λ h. let (y, moves, last) = with_clocks ks 0 (first_by uncapped) h.0 refl (first_in_range sane) h.1 in (y, moves),
    λ h. (number_of m h.0, on_numbers ks 0 (first_by uncapped) h.0 refl (first_in_range sane) h.1),
  )
