-- An instant forward gives exactly the situations to which some move leads from the set.
use Prim.Native.Nat.{ℕ, zero, suc, ◌+◌, ◌-◌, ◌*◌, ◌%◌, ◌<◌}
use native.Mathlib.Nat.{mod-lt}
use native.Mathlib.Omega.{arith}
use mathlib.Core.Path.{◌≡◌, refl, sym, ap, subst, ◌∙◌}
use mathlib.Core.Logic.{inl, inr, ⊎_elim}
use mathlib.Core.Bool.{Bool, true, false, cond, ◌&&◌, ◌||◌}
use Rattle.std.specs.Prelude.{Option, Some, None}
use Rattle.model.proofs.Options.{map-eq-some_iff}
use lib.Dec.{ltb, eqb}
use borrow.Author.Tests.{ltb-false, le-ltb, eqb-true, eq-eqb}
use Rattle.model.specs.Monitor.{Monitor, Transition, to_unit, airtime}
use Rattle.model.specs.Size.{size}
use Rattle.model.specs.Situation.{capped, step_by, move_of, move_limit, number, situation_of}
use Rattle.model.specs.Sane.{Sane}
use Rattle.model.proofs.Numbering.{number-below, forth, step_in_range}
use Rattle.words.specs.Words.{up, below}
use Rattle.instants.specs.Digit.{raised, zeroed, raised_set}
use Rattle.instants.specs.Grid.{firsts, seconds, plane, free}
use Rattle.instants.specs.Firing.{guessed, source_at, target_at, holds_at}
use Rattle.instants.specs.Backward.{ticked, reset_by}
use Rattle.instants.specs.Forward.{rests, sends, zeroed_first, zeroed_second, moves, forward}
use Rattle.instants.specs.Claims.{step_from, Forwards}
use Rattle.instants.specs.Sourced.{Sourced}
use Rattle.instants.proofs.TestLaws.{both_are, both, either_is, first-is, second_is, up-some, some_up, below-some, some_below}
use Rattle.instants.proofs.DigitLaws.{raised-from, raised-to, zeroed-from, zeroed-to}
use Rattle.instants.proofs.PlaceLaws.{zeroed-both}
use Rattle.instants.proofs.StepNumbers.{Rests, Fired, Moves, step-moves, moves-step}
use Rattle.instants.proofs.FiringLaws.{Found, firing_found, found_firing}

-- no row is sent

module _ (m : Monitor) (s : ℕ → Bool) where
  rests-from : (recorded : Option ℕ) (y : ℕ) → rests m recorded s y ≡ true → (n : ℕ) × (s n ≡ true) × Rests m recorded n y
  unfolding rests
  rests-from None y e =
      ⊎_elim
      (λ q. (y + free m, q, rw (le-ltb (y + free m) (free m) (omega arith)) (omega arith)))
      (λ q. let (low, p) = both_are (ltb y (free m)) (s y) q in (y, p, rw low))
      (either_is (s (y + free m)) (ltb y (free m) && s y) e)
  rests-from (Some k) y e =
      let (unit, p) = both_are (to_unit m k) (up (free m * airtime m k) (below (free m) s) y) e in
      let (n, there, q) = up-some (below (free m) s) (free m * airtime m k) y p in
      let (low, member) = below-some s (free m) n q in
      (n, member, (unit, low, omega arith))

  from-rests : (recorded : Option ℕ) (n y : ℕ) → s n ≡ true → Rests m recorded n y → rests m recorded s y ≡ true
  unfolding rests
  from-rests None n y e q = by (ltb n (free m)) refl
    where
      by : (b : Bool) → ltb n (free m) ≡ b → (s (y + free m) || (ltb y (free m) && s y)) ≡ true
      by true h =
          let same : n ≡ y = sym (q ∙ ap (λ (b : Bool). cond b n (n - free m)) h) in
          second_is (s (y + free m)) (subst (λ (i : ℕ). (ltb i (free m) && s i) ≡ true) same (both h e))
      by false h =
          let less : y ≡ n - free m = q ∙ ap (λ (b : Bool). cond b n (n - free m)) h in
          let same : n ≡ y + free m = omega (arith, ltb-false n (free m) h) in
          first-is (ltb y (free m) && s y) (subst (λ (i : ℕ). s i ≡ true) same e)
  from-rests (Some k) n y e (unit, low, there) =
      both unit (some_up (below (free m) s) (free m * airtime m k) y n (omega arith) (some_below s (free m) n low e))

-- a row is sent

module _ (m : Monitor) (recorded : Option ℕ) (r : ℕ) (s : ℕ → Bool) (y : ℕ) where
  -- the test of a place of a plane, and of a plane
  abbrev of_place : Transition → (w v : ℕ) → ℕ → Bool
  of_place t w v p = s (source_at m t w v + p) && holds_at m t v p

  abbrev moved : Transition → (w v : ℕ) → Bool
  moved t w v = up (target_at m (guessed m recorded t) t w v) (below (plane m) (of_place t w v)) y

  abbrev of_plane : Transition → (w v : ℕ) → Bool
  of_plane t w v = eqb (t.resets % 4) r && moved t w v

  sends-from : sends m recorded r s y ≡ true → (n : ℕ) × (s n ≡ true) × Fired m recorded n y r
  unfolding sends
  sends-from e =
      let f : Found m recorded of_plane = firing_found m recorded of_plane e in
      let t : Transition = f.transition in
      let w : ℕ = f.window in
      let v : ℕ = f.variables in
      let (resets, g) = both_are (eqb (t.resets % 4) r) (moved t w v) f.passes in
      let (p, to, q) = up-some (below (plane m) (of_place t w v)) (target_at m (guessed m recorded t) t w v) y g in
      let (low, h) = below-some (of_place t w v) (plane m) p q in
      let (member, holding) = both_are (s (source_at m t w v + p)) (holds_at m t v p) h in (
        source_at m t w v + p,
        member,
        record {
          index = f.index;
          transition = t;
          window = w;
          variables = v;
          place = p;
          listed = f.listed;
          fit = f.fit;
          allowed = f.allowed;
          window-below = f.window-below;
          variables-below = f.variables-below;
          place-below = low;
          holding = holding;
          from = refl;
          to = to;
          resets = eqb-true (t.resets % 4) r resets;
        },
      )

  from-sends : (n : ℕ) → s n ≡ true → Fired m recorded n y r → sends m recorded r s y ≡ true
  unfolding sends
  from-sends n e f =
      let t : Transition = f.transition in
      let w : ℕ = f.window in
      let v : ℕ = f.variables in
      found_firing m recorded of_plane
      (record {
        index = f.index;
        transition = t;
        window = w;
        variables = v;
        listed = f.listed;
        fit = f.fit;
        allowed = f.allowed;
        window-below = f.window-below;
        variables-below = f.variables-below;
        passes =
            both (eq-eqb (t.resets % 4) r f.resets)
            (some_up (below (plane m) (of_place t w v)) (target_at m (guessed m recorded t) t w v) y f.place f.to
            (some_below (of_place t w v) (plane m) f.place f.place-below (both (subst (λ (i : ℕ). s i ≡ true) f.from e) f.holding)));
      })

-- all moves

module _ (m : Monitor) (recorded : Option ℕ) (s : ℕ → Bool) where
  abbrev From : ℕ → Type 0
  From y = (n : ℕ) × (s n ≡ true) × Moves m recorded n y

  fired-from : (r u y : ℕ) → y ≡ reset_by m r u → sends m recorded r s u ≡ true → From y
  fired-from r u y e q = let (n, member, f) = sends-from m recorded r s u q in (n, member, inr (record { between = u; mask = r; fired = f; end = e }))

  -- first the second clock, then the first
  abbrev of_first : ℕ → Bool
  of_first x = sends m recorded 1 s x || zeroed_second m (sends m recorded 3 s) x

  first-from : (y : ℕ) → zeroed_first m of_first y ≡ true → From y
  first-from y e =
      let (u, q, there) = zeroed-from 1 (firsts m) (omega arith) (omega arith) of_first y e in
      ⊎_elim
      (λ p. fired-from 1 u y (sym there) p)
      (λ p.
      let (x, member, same) = zeroed-from (firsts m) (seconds m) (omega arith) (omega arith) (sends m recorded 3 s) u p in
      fired-from 3 x y (sym (zeroed-both (firsts m) (seconds m) (omega arith) (omega arith) x ∙ ap (zeroed 1 (firsts m)) same ∙ there)) member)
      (either_is (sends m recorded 1 s u) (zeroed_second m (sends m recorded 3 s) u) q)

  second_from : (y : ℕ) → zeroed_second m (sends m recorded 2 s) y ≡ true → From y
  second_from y e =
      let (u, q, there) = zeroed-from (firsts m) (seconds m) (omega arith) (omega arith) (sends m recorded 2 s) y e in fired-from 2 u y (sym there) q

  moves_from : (y : ℕ) → moves m recorded s y ≡ true → From y
  unfolding moves
  moves_from y e =
      ⊎_elim
      (λ p.
      ⊎_elim
      (λ q.
      ⊎_elim (λ o. let (n, member, f) = rests-from m s recorded y o in (n, member, inl f)) (λ o. fired-from 0 y y refl o)
      (either_is (rests m recorded s y) (sends m recorded 0 s y) q))
      (first-from y)
      (either_is (rests m recorded s y || sends m recorded 0 s y) (zeroed_first m of_first y) p))
      (second_from y)
      (either_is ((rests m recorded s y || sends m recorded 0 s y) || zeroed_first m of_first y) (zeroed_second m (sends m recorded 2 s) y) e)

  -- and back
  from-fired : (n u r : ℕ) → r < 4 → s n ≡ true → Fired m recorded n u r → moves m recorded s (reset_by m r u) ≡ true
  unfolding moves
  from-fired n u zero h e f =
      first-is (zeroed_second m (sends m recorded 2 s) u)
      (first-is (zeroed_first m of_first u) (second_is (rests m recorded s u) (from-sends m recorded 0 s u n e f)))
  from-fired n u (suc zero) h e f =
      let y : ℕ = zeroed 1 (firsts m) u in
      first-is (zeroed_second m (sends m recorded 2 s) y)
      (second_is (rests m recorded s y || sends m recorded 0 s y)
      (zeroed-to 1 (firsts m) (omega arith) (omega arith) of_first u (first-is (zeroed_second m (sends m recorded 3 s) u) (from-sends m recorded 1 s u n e f))))
  from-fired n u (suc (suc zero)) h e f =
      let y : ℕ = zeroed (firsts m) (seconds m) u in
      second_is ((rests m recorded s y || sends m recorded 0 s y) || zeroed_first m of_first y)
      (zeroed-to (firsts m) (seconds m) (omega arith) (omega arith) (sends m recorded 2 s) u (from-sends m recorded 2 s u n e f))
  from-fired n u (suc (suc (suc zero))) h e f =
      let y : ℕ = zeroed 1 (firsts m) (zeroed (firsts m) (seconds m) u) in
      subst (λ (i : ℕ). moves m recorded s i ≡ true) (sym (zeroed-both (firsts m) (seconds m) (omega arith) (omega arith) u))
      (first-is (zeroed_second m (sends m recorded 2 s) y)
      (second_is (rests m recorded s y || sends m recorded 0 s y)
      (zeroed-to 1 (firsts m) (omega arith) (omega arith) of_first (zeroed (firsts m) (seconds m) u)
      (second_is (sends m recorded 1 s (zeroed (firsts m) (seconds m) u))
      (zeroed-to (firsts m) (seconds m) (omega arith) (omega arith) (sends m recorded 3 s) u (from-sends m recorded 3 s u n e f))))))
  from-fired n u (suc (suc (suc (suc r)))) h e f = absurd (omega arith)

  from-moves : (n y : ℕ) → s n ≡ true → Moves m recorded n y → moves m recorded s y ≡ true
  unfolding moves
  from-moves n y e (inl f) =
      first-is (zeroed_second m (sends m recorded 2 s) y) (first-is (zeroed_first m of_first y) (first-is (sends m recorded 0 s y) (from-rests m s recorded n y e f)))
  from-moves n y e (inr f) =
      subst (λ (i : ℕ). moves m recorded s i ≡ true) (sym f.end)
      (from-fired n f.between f.mask (omega (arith, f.fired.resets, mod-lt f.fired.transition.resets {m = 4} (omega arith))) e f.fired)

  -- the tick follows
  forward-moves : (z : ℕ) → forward m recorded s z ≡ true → (y : ℕ) × From y × (ticked m y ≡ z)
  unfolding forward
  forward-moves z e =
      let (x, p, second) = raised-from (firsts m) (seconds m) (omega arith) (omega arith) (raised_set 1 (firsts m) (moves m recorded s)) z e in
      let (y, q, first) = raised-from 1 (firsts m) (omega arith) (omega arith) (moves m recorded s) x p in
      (y, moves_from y q, ap (raised (firsts m) (seconds m)) first ∙ second)

  moves-forward : (n y : ℕ) → s n ≡ true → Moves m recorded n y → forward m recorded s (ticked m y) ≡ true
  unfolding forward
  moves-forward n y e f =
      raised-to (firsts m) (seconds m) (omega arith) (omega arith) (raised_set 1 (firsts m) (moves m recorded s)) (raised 1 (firsts m) y)
      (raised-to 1 (firsts m) (omega arith) (omega arith) (moves m recorded s) y (from-moves n y e f))

step-below : {m : Monitor} → Sane m → (recorded : Option ℕ) (n k z : ℕ) → n < size m → step_from m recorded n k ≡ Some z → z < size m
step-below {m} sane recorded n k z h e =
    let (x, there, same) = (map-eq-some_iff (number m) (step_by m (capped m) recorded (situation_of m n) (move_of k))).0 e in
    subst (λ (i : ℕ). i < size m) same (number-below (step_in_range sane recorded (move_of k) (forth sane n h).1 there))

module _ (m : Monitor) (sane : Sane m) (sourced : Sourced m) (recorded : Option ℕ) (s : ℕ → Bool) (low : (n : ℕ) → s n ≡ true → n < size m) where
  abbrev Given : ℕ → Type 0
  Given z = (n : ℕ) × (k : ℕ) × (s n ≡ true) × (k < move_limit) × (step_from m recorded n k ≡ Some z)

  given_to : (z : ℕ) → forward m recorded s z ≡ true → Given z
  given_to z e =
      let (y, (n, member, f), same) = forward-moves m recorded s z e in
      let (k, few, there) = moves-step sane sourced recorded n y (low n member) f in
      (n, k, member, few, there ∙ ap {B = Option ℕ} Some same)

  given-from : (z : ℕ) → Given z → forward m recorded s z ≡ true
  given-from z (n, k, member, few, there) =
      let (y, f, e) = step-moves sane recorded n k z (low n member) there in
      subst (λ (i : ℕ). forward m recorded s i ≡ true) (sym e) (moves-forward m recorded s n y member f)

  pub forwards : Forwards m recorded s
  forwards =
      record {
        given = λ z. (given_to z, given-from z);
        within = λ z e. let (n, k, member, few, there) = given_to z e in step-below sane recorded n k z (low n member) there;
      }
