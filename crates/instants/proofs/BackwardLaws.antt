-- An instant backward gives exactly the situations from which some move leads into the set.
use Prim.Native.Nat.{ℕ, ◌+◌, ◌*◌, ◌%◌}
use mathlib.Core.Path.{◌≡◌, refl, sym, ap, ap₂, subst, ◌∙◌}
use mathlib.Core.Logic.{inl, inr, ⊎_elim}
use mathlib.Core.Bool.{Bool, true, ◌&&◌}
use Rattle.std.specs.Prelude.{Option, Some, None}
use lib.Dec.{ltb}
use borrow.Author.Tests.{ltb-true, lt-ltb}
use Rattle.model.specs.Monitor.{Monitor, Transition, to_unit, airtime}
use Rattle.model.specs.Sane.{Sane}
use Rattle.words.specs.Words.{up, below}
use Rattle.instants.specs.Grid.{plane, free}
use Rattle.instants.specs.Firing.{guessed, source_at, target_at, holds_at}
use Rattle.instants.specs.Backward.{ticked, reset_by, rests_back, sends_back, backward}
use Rattle.instants.specs.Claims.{Backwards}
use Rattle.instants.specs.Sourced.{Sourced}
use Rattle.instants.proofs.TestLaws.{both_are, both, either_is, first-is, second_is, up-some, some_up, below-some, some_below}
use Rattle.instants.proofs.StepNumbers.{Rests, Fired, Sends, Moves, step-moves, moves-step}
use Rattle.instants.proofs.FiringLaws.{Found, firing_found, found_firing}

module _ (m : Monitor) (s : ℕ → Bool) where
  rests-back : (recorded : Option ℕ) (n : ℕ) → rests_back m recorded s n ≡ true → (y : ℕ) × Rests m recorded n y × (s y ≡ true)
  unfolding rests_back
  rests-back None n e = (_, refl, e)
  rests-back (Some k) n e =
      let (unit, p) = both_are (to_unit m k) (ltb n (free m) && s (n + free m * airtime m k)) e in
      let (low, q) = both_are (ltb n (free m)) (s (n + free m * airtime m k)) p in
      (_, (unit, ltb-true n (free m) low, refl), q)

  back-rests : (recorded : Option ℕ) (n y : ℕ) → Rests m recorded n y → s y ≡ true → rests_back m recorded s n ≡ true
  unfolding rests_back
  back-rests None n y e q = subst (λ (i : ℕ). s i ≡ true) e q
  back-rests (Some k) n y (unit, low, e) q = both unit (both (lt-ltb n (free m) low) (subst (λ (i : ℕ). s i ≡ true) e q))

module _ (m : Monitor) (recorded : Option ℕ) (s : ℕ → Bool) (n : ℕ) where
  -- the test of a place of a plane, and of a plane
  abbrev of_place : Transition → (w v : ℕ) → ℕ → Bool
  of_place t w v p = s (reset_by m (t.resets % 4) (target_at m (guessed m recorded t) t w v + p)) && holds_at m t v p

  abbrev of_plane : Transition → (w v : ℕ) → Bool
  of_plane t w v = up (source_at m t w v) (below (plane m) (of_place t w v)) n

  sends-back : sends_back m recorded s n ≡ true → (y : ℕ) × Sends m recorded n y × (s y ≡ true)
  unfolding sends_back
  sends-back e =
      let r : Found m recorded of_plane = firing_found m recorded of_plane e in
      let t : Transition = r.transition in
      let (p, from, q) = up-some (below (plane m) (of_place t r.window r.variables)) (source_at m t r.window r.variables) n r.passes in
      let (low, g) = below-some (of_place t r.window r.variables) (plane m) p q in
      let y : ℕ = target_at m (guessed m recorded t) t r.window r.variables + p in
      let (member, holding) = both_are (s (reset_by m (t.resets % 4) y)) (holds_at m t r.variables p) g in (
        reset_by m (t.resets % 4) y,
        record {
          between = y;
          mask = t.resets % 4;
          fired =
              record {
                index = r.index;
                transition = t;
                window = r.window;
                variables = r.variables;
                place = p;
                listed = r.listed;
                fit = r.fit;
                allowed = r.allowed;
                window-below = r.window-below;
                variables-below = r.variables-below;
                place-below = low;
                holding = holding;
                from = from;
                to = refl;
                resets = refl;
              };
          end = refl;
        },
        member,
      )

  back-sends : (y : ℕ) → Sends m recorded n y → s y ≡ true → sends_back m recorded s n ≡ true
  unfolding sends_back
  back-sends y f e =
      let r : Fired m recorded n f.between f.mask = f.fired in
      let t : Transition = r.transition in
      found_firing m recorded of_plane
      (record {
        index = r.index;
        transition = t;
        window = r.window;
        variables = r.variables;
        listed = r.listed;
        fit = r.fit;
        allowed = r.allowed;
        window-below = r.window-below;
        variables-below = r.variables-below;
        passes =
            some_up (below (plane m) (of_place t r.window r.variables)) (source_at m t r.window r.variables) n r.place r.from
            (some_below (of_place t r.window r.variables) (plane m) r.place r.place-below
            (both (ap₂ (λ (i j : ℕ). s (reset_by m i j)) r.resets (sym r.to) ∙ ap s (sym f.end) ∙ e) r.holding));
      })

-- an instant backward is a move and then the tick
module _ (m : Monitor) (recorded : Option ℕ) (s : ℕ → Bool) (n : ℕ) where
  abbrev after : ℕ → Bool
  after y = s (ticked m y)

  backward-moves : backward m recorded s n ≡ true → (y : ℕ) × Moves m recorded n y × (s (ticked m y) ≡ true)
  unfolding backward
  backward-moves e =
      ⊎_elim (λ q. let (y, f, h) = rests-back m after recorded n q in (y, inl f, h)) (λ q. let (y, f, h) = sends-back m recorded after n q in (y, inr f, h))
      (either_is (rests_back m recorded after n) (sends_back m recorded after n) e)

  moves-backward : (y : ℕ) → Moves m recorded n y → s (ticked m y) ≡ true → backward m recorded s n ≡ true
  unfolding backward
  moves-backward y (inl f) e = first-is (sends_back m recorded after n) (back-rests m after recorded n y f e)
  moves-backward y (inr f) e = second_is (rests_back m recorded after n) (back-sends m recorded after n y f e)

pub backwards : (m : Monitor) → Sane m → Sourced m → (recorded : Option ℕ) (s : ℕ → Bool) → Backwards m recorded s
backwards m sane sourced recorded s =
    record {
      given =
          λ n h. (
            λ e.
                let (y, f, q) = backward-moves m recorded s n e in
                let (k, few, there) = moves-step sane sourced recorded n y h f in
                (k, ticked m y, few, there, q),
            λ (k, z, few, there, q).
                let (y, f, e) = step-moves sane recorded n k z h there in
                moves-backward m recorded s n y f (ap s (sym e) ∙ q),
          );
    }
