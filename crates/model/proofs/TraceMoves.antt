-- A trace that explains a recording gives moves, one for each instant: the transition's move where the trace has a packet, else rest, which removes what is recorded.
use Prim.Native.Nat.{ℕ, zero, suc, ◌+◌, ◌-◌, ◌≤◌, ◌<◌}
use native.Mathlib.Nat.{add_assoc, add-zero}
use native.Mathlib.Omega.{arith}
use native.Mathlib.Decide.{ℕ_discrete}
use mathlib.Core.Path.{◌≡◌, refl, sym, ap, subst, ◌∙◌}
use mathlib.Core.List.Memᴰ
use mathlib.Core.List.{List, [], ◌∷◌, map-map, map-id, Memᴰ}
use mathlib.Core.Bool.{Bool, true, false, not, ◌&&◌, ◌||◌}
use Rattle.std.specs.Prelude.{Option, Some, None}
use Rattle.std.specs.Option.{option_map}
use Rattle.std.proofs.lemmas.Option.{none-some, same_Some}
use Rattle.model.proofs.Options.{some-ne-none}
use mathlib.Core.Logic.{◌↔◌, ◌⊎◌, inl, inr, ⊎_elim}
use lib.ListN.{length}
use lib.Dec.{eqb}
use borrow.Author.Tests.{eq-eqb, ne_eqb}
use Rattle.model.specs.Limits.{transition_limit}
use Rattle.model.specs.Rule.{window_behind, allows}
use Rattle.model.specs.Monitor.{Monitor, Config, start, wait, fires, to_unit, airtime, is_guess, within_rule}
use Rattle.model.specs.Trace.{Packet, Spaced, PacketTrace, Carries, Possible, is_recorded, guesses_in, PossibleUnder}
use Rattle.model.specs.Recording.{end_of}
use Rattle.model.specs.Situation.{config_of, with_air, uncapped, first_by, sent, missed, trigger_of, moved, tick, step_by, recorded_at, move_limit, move_of, rest_move, first_add}
use Rattle.model.specs.declared.Situation.{Situation}
use Rattle.model.specs.Sane.{Sane, SaneRecording}
use Rattle.model.proofs.RuleLaws.{Keeping, row_by_row}
use Rattle.model.proofs.Chains.{Moves}
use Rattle.model.proofs.Instants.{move_of-keep, move_of-rest, move_of-add, recorded_here, recorded_later, fires-trigger, trigger-number}
use Rattle.model.proofs.Spacing.{TraceFrom, free_after, trace-from, from_earlier, from_next, spaced-from, from-time, behind-first, only-first}

-- what is recorded at an instant is in the recording

pub recorded_member : (recording : List Packet) (t k : ℕ) → recorded_at recording t ≡ Some k → Memᴰ (record { time = t; kind = k }) recording
unfolding recorded_at
recorded_member [] t k e = absurd (none-some k e)
recorded_member (p ∷ ps) t k e = split (λ q. recorded_member ps t k q) (ℕ_discrete p.time t)
  where
    same : p.time ≡ t → p.kind ≡ k → record { time = t; kind = k } ≡ p
    same a b = λ i. record { time = sym a i; kind = sym b i }

    split : (recorded_at ps t ≡ Some k → Memᴰ (record { time = t; kind = k }) ps) → Dec (p.time ≡ t) → Memᴰ (record { time = t; kind = k }) (p ∷ ps)
    split below (yes a) = Memᴰ.head (same a (same_Some p.kind k (sym (recorded_here p ps t a) ∙ e)))
    split below (no a) = Memᴰ.tail (below (sym (recorded_later p ps t a) ∙ e))

-- and so it is recorded as an entry; at an instant where nothing is, no entry is

entry_recorded : (recording : List Packet) (p : Packet) → recorded_at recording p.time ≡ Some p.kind → is_recorded recording p ≡ true
unfolding recorded_at is_recorded
entry_recorded [] p e = absurd (none-some p.kind e)
entry_recorded (q ∷ qs) p e = split (λ f. entry_recorded qs p f) (ℕ_discrete q.time p.time)
  where
    split : (recorded_at qs p.time ≡ Some p.kind → is_recorded qs p ≡ true) → Dec (q.time ≡ p.time)
        → (eqb q.time p.time && eqb q.kind p.kind) || is_recorded qs p ≡ true
    split below (yes a) =
        rw (eq-eqb q.time p.time a, eq-eqb q.kind p.kind (same_Some q.kind p.kind (sym (recorded_here q qs p.time a) ∙ e)))
    split below (no a) = rw (ne_eqb q.time p.time a) (below (sym (recorded_later q qs p.time a) ∙ e))

entry_absent : (recording : List Packet) (p : Packet) → recorded_at recording p.time ≡ None → is_recorded recording p ≡ false
unfolding recorded_at is_recorded
entry_absent [] p e = refl
entry_absent (q ∷ qs) p e = split (λ f. entry_absent qs p f) (ℕ_discrete q.time p.time)
  where
    split : (recorded_at qs p.time ≡ None → is_recorded qs p ≡ false) → Dec (q.time ≡ p.time)
        → (eqb q.time p.time && eqb q.kind p.kind) || is_recorded qs p ≡ false
    split below (yes a) = absurd (some-ne-none q.kind (sym (recorded_here q qs p.time a) ∙ e))
    split below (no a) = rw (ne_eqb q.time p.time a) (below (sym (recorded_later q qs p.time a) ∙ e))

-- waiting

pub wait-again : (a b : ℕ) (c : Config) → wait a (wait b c) ≡ wait (b + a) c
wait-again a b c = simp (map-map, add_assoc)

pub wait_none : (c : Config) → wait 0 c ≡ c
wait_none c = simp (add-zero, map-id)

module _ (m : Monitor) where
  by_end : (q : Packet) (r : List Packet) → Spaced m q r → (p : Packet) → Memᴰ p (q ∷ r) → p.time ≤ end_of (q ∷ r)
  unfolding end_of
  by_end q [] x p i = omega (arith, ap (λ (a : Packet). a.time) (Memᴰ.eq_of_singleton i))
  by_end q (a ∷ r) x p i =
      ⊎_elim (λ e. omega (arith, ap (λ (b : Packet). b.time) e, by_end a r x.1 a (Memᴰ.head refl)))
      (by_end a r x.1 p) (Memᴰ.cases_cons i)

  -- a recording's packets are at its instants, from 1 to its end,
  pub recorded_within :
      (recording : List Packet) → PacketTrace m recording → (p : Packet) → Memᴰ p recording → (1 ≤ p.time) × (p.time ≤ end_of recording)
  recorded_within [] x p i = absurd (Memᴰ.not-nil i)
  recorded_within (q ∷ r) x p i = (from-time m 1 (q ∷ r) x p i, by_end q r x.1 p i)

  ahead_at : (n : ℕ) (recording : List Packet) → TraceFrom m n recording → (p : Packet) → Memᴰ p recording → recorded_at recording p.time ≡ Some p.kind
  ahead_at n [] x p i = absurd (Memᴰ.not-nil i)
  ahead_at n (q ∷ r) x p i =
      let after : TraceFrom m (free_after m q) r = (spaced-from m q r).0 x.1 in
      ⊎_elim (λ e. recorded_here q r p.time (ap (λ (a : Packet). a.time) (sym e)) ∙ ap (λ (a : Packet). Some a.kind) (sym e))
      (λ l. recorded_later q r p.time (omega (arith, from-time m (free_after m q) r after p l)) ∙ ahead_at (free_after m q) r after p l)
      (Memᴰ.cases_cons i)

  -- and each is the one recorded at its instant
  pub recorded_at_lem :
      (recording : List Packet) → PacketTrace m recording → (p : Packet) → Memᴰ p recording → recorded_at recording p.time ≡ Some p.kind
  recorded_at_lem recording x = ahead_at 1 recording ((trace-from m recording).0 x)

  -- in a trace whose packets are all later, the monitor may as well start one tick later
  pub carries_tick : (now : ℕ) (c : Config) (tr : List Packet) → TraceFrom m (suc now) tr → Carries m now c tr → Carries m (suc now) (wait 1 c) tr
  carries_tick now c [] a x = tt
  carries_tick now c (p ∷ r) a x = (x.0, x.1, ap (fires m x.0 p.kind) (waited (p.time - suc now) (p.time - now) (omega arith)) ∙ x.2, x.3)
    where
      waited : (b d : ℕ) → d ≡ 1 + b → wait b (wait 1 c) ≡ wait d c
      waited b d e = wait-again b 1 c ∙ rw e

  module _ (s : Situation) where
    -- a packet can be sent where the air is free, its transition fires, and the rule is kept
    sent-free : (guess : Bool) (j k : ℕ) (d : Config) → s.air ≡ 0 → allows m.rule s.window guess ≡ true → fires m j k (config_of s) ≡ Some d
        → sent m guess j k s ≡ Some (with_air d (airtime m k + 1) (window_behind m.rule s.window guess))
    unfolding sent within_rule
    sent-free guess j k d free allowed e = rw (eq-eqb s.air 0, allowed, e)

    -- the move by which a packet of kind k goes by transition j: it keeps what is recorded, if anything is
    sends :
        (j k : ℕ) → j < transition_limit → trigger_of m j ≡ Some k → (recorded : Option ℕ) → ((a : ℕ) → recorded ≡ Some a → a ≡ k)
        → (guess : Bool) → ((a : ℕ) → recorded ≡ Some a → guess ≡ false) → (recorded ≡ None → guess ≡ is_guess m k)
        → (n : ℕ) × (n < move_limit) × (moved m recorded s (move_of n) ≡ sent m guess j k s)
    unfolding moved
    sends j k few trigger None same guess heard silent = (first_add + j, omega arith, rw (move_of-add j, trigger, silent refl))
    sends j k few trigger (Some a) same guess heard silent = (j, omega arith, rw (move_of-keep j few, same a refl, heard a refl))

    rests : (recorded : Option ℕ) → ((a : ℕ) → recorded ≡ Some a → ⊥) → moved m recorded s (move_of rest_move) ≡ Some s
    unfolding moved
    rests None quiet = rw move_of-rest
    rests (Some a) quiet = absurd (quiet a refl)

    -- a recorded packet to the unit can be removed where the air is free
    misses : (k : ℕ) → s.air ≡ 0 → to_unit m k ≡ true → moved m (Some k) s (move_of rest_move) ≡ Some (with_air (config_of s) (airtime m k + 1) s.window)
    unfolding moved missed
    misses k free inbound = rw (move_of-rest, eq-eqb s.air 0 free, inbound)

  module _ (recording : List Packet) where
    -- what is on the air from instant t + 1 on, where the situation just before that instant is s: it finds the air free, it is what is recorded and what the
    -- trace has, the trace carries the monitor and keeps the rule, and recorded packets that it lacks are to the unit
    record Tracks (t : ℕ) (s : Situation) (all tr : List Packet) : Type 0 where
      ahead : TraceFrom m (suc t + s.air) all
      entries : (p : Packet) → t < p.time → Memᴰ p all ↔ (Memᴰ p recording ⊎ Memᴰ p tr)
      later : TraceFrom m (suc t) tr
      carries : Carries m (suc t) (config_of s) tr
      kept : Keeping m.rule s.window (guesses_in m recording tr)
      mutation : (p : Packet) → Memᴰ p recording → t < p.time → (Memᴰ p tr → ⊥) → to_unit m p.kind ≡ true

    -- one instant: a move, and what is on the air and in the trace after it
    record Goes (t : ℕ) (s : Situation) : Type 0 where
      number : ℕ
      below : number < move_limit
      next : Situation
      moves : step_by m uncapped (recorded_at recording (suc t)) s (move_of number) ≡ Some next
      all : List Packet
      trace : List Packet
      tracks : Tracks (suc t) next all trace

    -- rest, where nothing is on the air at instant t + 1
    goes-idle : (t : ℕ) (s : Situation) (all tr : List Packet) → TraceFrom m (suc (suc t)) all → Tracks t s all tr → Goes t s
    unfolding step_by
    goes-idle t s all tr late x =
        record {
          number = rest_move;
          below = omega arith;
          next = tick uncapped s;
          moves =
              ap (option_map (tick uncapped))
              (rests s (recorded_at recording (suc t))
              (λ a e. none-now (record { time = suc t; kind = a }) (inl (recorded_member recording (suc t) a e)) refl));
          all = all;
          trace = tr;
          tracks =
              record {
                ahead = again all late x.ahead;
                entries = λ p h. x.entries p (omega arith);
                later = trace-late;
                carries = carries_tick (suc t) (config_of s) tr trace-late x.carries;
                kept = x.kept;
                mutation = λ p i h lacks. x.mutation p i (omega arith) lacks;
              };
        }
      where
        again : (l : List Packet) → TraceFrom m (suc (suc t)) l → TraceFrom m (suc t + s.air) l → TraceFrom m (suc (suc t) + (s.air - 1)) l
        again [] a b = tt
        again (q ∷ l) a b = (omega arith, a.1)

        none-now : (p : Packet) → Memᴰ p recording ⊎ Memᴰ p tr → p.time ≡ suc t → ⊥
        none-now p i e = omega (arith, from-time m (suc (suc t)) all late p ((x.entries p (omega arith)).1 i))

        trace-late : TraceFrom m (suc (suc t)) tr
        trace-late = from_next m (suc t) tr x.later (λ p i. none-now p (inr i))

    module _ (sane : Sane m) (sound : PacketTrace m recording) where
      -- removal, where the packet on the air at instant t + 1 is not in the trace
      goes-missing : (t : ℕ) (s : Situation) (p : Packet) (r tr : List Packet) → p.time ≡ suc t → TraceFrom m (suc (suc t)) tr → Tracks t s (p ∷ r) tr → Goes t s
      unfolding step_by
      goes-missing t s p r tr now late x =
          record {
            number = rest_move;
            below = omega arith;
            next = tick uncapped (with_air (config_of s) (airtime m p.kind + 1) s.window);
            moves =
                ap (option_map (tick uncapped))
                (ap (λ (o : Option ℕ). moved m o s (move_of rest_move)) heard
                ∙ misses s p.kind (omega (arith, x.ahead.0)) (x.mutation p recorded (omega arith) lacks));
            all = r;
            trace = tr;
            tracks =
                record {
                  ahead = from_earlier m (free_after m p) (suc (suc t) + (airtime m p.kind + 1 - 1)) r (omega arith) ((spaced-from m p r).0 x.ahead.1);
                  entries =
                      λ q h. (λ i. (x.entries q (omega arith)).0 (Memᴰ.tail i), λ i. behind-first p r q (omega arith) ((x.entries q (omega arith)).1 i));
                  later = late;
                  carries = carries_tick (suc t) (config_of s) tr late x.carries;
                  kept = x.kept;
                  mutation = λ q i h. x.mutation q i (omega arith);
                };
          }
        where
          lacks : Memᴰ p tr → ⊥
          lacks i = omega (arith, from-time m (suc (suc t)) tr late p i)

          recorded : Memᴰ p recording
          recorded = ⊎_elim (λ i. i) (λ i. absurd (lacks i)) ((x.entries p (omega arith)).0 (Memᴰ.head refl))

          heard : recorded_at recording (suc t) ≡ Some p.kind
          heard = ap (recorded_at recording) (sym now) ∙ recorded_at_lem recording sound p recorded

      -- the move of the packet's transition, where the packet on the air at instant t + 1 is in the trace
      goes-sending : (t : ℕ) (s : Situation) (p : Packet) (r tr : List Packet) → p.time ≡ suc t → Tracks t s (p ∷ r) (p ∷ tr) → Goes t s
      unfolding step_by guesses_in
      goes-sending t s p r tr now x =
          record {
            number = sending.0;
            below = sending.1;
            next = tick uncapped (with_air d (airtime m p.kind + 1) (window_behind m.rule s.window guess));
            moves = ap (option_map (tick uncapped)) (sending.2 ∙ sent-free s guess j p.kind d (omega (arith, x.ahead.0)) x.kept.0 fired);
            all = r;
            trace = tr;
            tracks =
                record {
                  ahead = from_earlier m (free_after m p) (suc (suc t) + (airtime m p.kind + 1 - 1)) r (omega arith) after;
                  entries =
                      λ q h. (
                        λ i. ⊎_elim inl (λ l. inr (behind-first p tr q (omega arith) l)) ((x.entries q (omega arith)).0 (Memᴰ.tail i)),
                        λ i. behind-first p r q (omega arith) ((x.entries q (omega arith)).1 (⊎_elim inl (λ l. inr (Memᴰ.tail l)) i)),
                      );
                  later = from_earlier m (free_after m p) (suc (suc t)) tr (omega arith) behind;
                  carries =
                      subst (λ (n : ℕ). Carries m (suc n) (wait 1 d) tr) now
                      (carries_tick p.time d tr (from_earlier m _ _ tr (omega arith) behind) x.carries.3);
                  kept = x.kept.1;
                  mutation = λ q i h lacks. x.mutation q i (omega arith) (λ l. lacks (behind-first p tr q (omega arith) l));
                };
          }
        where
          j : ℕ
          j = x.carries.0

          d : Config
          d = x.carries.1

          at_once : (n : ℕ) → n ≡ 0 → wait n (config_of s) ≡ config_of s
          at_once n e = rw e (wait_none (config_of s))

          fired : fires m j p.kind (config_of s) ≡ Some d
          fired = ap (fires m j p.kind) (sym (at_once (p.time - suc t) (omega arith))) ∙ x.carries.2

          trigger : trigger_of m j ≡ Some p.kind
          trigger = fires-trigger m j p.kind (config_of s) d fired

          after : TraceFrom m (free_after m p) r
          after = (spaced-from m p r).0 x.ahead.1

          behind : TraceFrom m (free_after m p) tr
          behind = (spaced-from m p tr).0 x.later.1

          same : (a : ℕ) → recorded_at recording (suc t) ≡ Some a → a ≡ p.kind
          same a e =
              ap (λ (b : Packet). b.kind)
              (only-first m p r after (record { time = suc t; kind = a }) (sym now)
              ((x.entries (record { time = suc t; kind = a }) (omega arith)).1 (inl (recorded_member recording (suc t) a e))))

          guess : Bool
          guess = not (is_recorded recording p) && is_guess m p.kind

          -- what is recorded at this instant is this packet, which then is no guess
          if-heard : (a : ℕ) → recorded_at recording (suc t) ≡ Some a → guess ≡ false
          if-heard a e = rw (entry_recorded recording p (ap (recorded_at recording) now ∙ e ∙ ap {B = Option ℕ} Some (same a e)))

          if-silent : recorded_at recording (suc t) ≡ None → guess ≡ is_guess m p.kind
          if-silent e = rw (entry_absent recording p (ap (recorded_at recording) now ∙ e))

          sending : (n : ℕ) × (n < move_limit) × (moved m (recorded_at recording (suc t)) s (move_of n) ≡ sent m guess j p.kind s)
          sending =
              sends s j p.kind (trigger-number m sane j p.kind trigger) trigger (recorded_at recording (suc t)) same guess if-heard if-silent

      -- a packet on the air at instant t + 1: the trace's first is that, or later
      goes-busy : (t : ℕ) (s : Situation) (p : Packet) (r tr : List Packet) → p.time ≡ suc t → Tracks t s (p ∷ r) tr → Goes t s
      goes-busy t s p r [] now x = goes-missing t s p r [] now tt x
      goes-busy t s p r (q ∷ tr) now x = split (ℕ_discrete q.time (suc t))
        where
          split : Dec (q.time ≡ suc t) → Goes t s
          split (yes e) =
              let same : q ≡ p =
              only-first m p r ((spaced-from m p r).0 x.ahead.1) q (e ∙ sym now) ((x.entries q (omega arith)).1 (inr (Memᴰ.head refl))) in
              goes-sending t s p r tr now (subst (λ (a : Packet). Tracks t s (p ∷ r) (a ∷ tr)) same x)
          split (no e) = goes-missing t s p r (q ∷ tr) now (omega (arith, x.later.0), x.later.1) x

      goes : (t : ℕ) (s : Situation) (all tr : List Packet) → Tracks t s all tr → Goes t s
      goes t s [] tr x = goes-idle t s [] tr tt x
      goes t s (p ∷ r) tr x = split (ℕ_discrete p.time (suc t))
        where
          split : Dec (p.time ≡ suc t) → Goes t s
          split (yes e) = goes-busy t s p r tr e x
          split (no e) = goes-idle t s (p ∷ r) tr (omega (arith, x.ahead.0), x.ahead.1) x

      runs :
          (n t : ℕ) (s : Situation) (all tr : List Packet) → Tracks t s all tr
          → (ks : List ℕ) × (z : Situation) × (length ks ≡ n) × Moves m recording t s ks z
      runs zero t s all tr x = ([], s, refl, refl)
      runs (suc n) t s all tr x =
          let g : Goes t s = goes t s all tr x in
          let more = runs n (suc t) g.next g.all g.trace g.tracks in
          (g.number ∷ more.0, more.1, ap suc more.2, (g.next, g.below, g.moves, more.3))

-- where some trace explains the recording, moves lead through all its instants
pub possible-moves :
    (m : Monitor) (recording : List Packet) → Sane m → SaneRecording m recording → PossibleUnder m recording
    → (ks : List ℕ) × (z : Situation) × (length ks ≡ end_of recording) × Moves m recording 0 (first_by uncapped) ks z
possible-moves m recording sane recorded y =
    let x : Possible m recording = y.possible in
    runs m recording sane recorded.trace (end_of recording) 0 (first_by uncapped) x.together.all x.trace
    (record {
      ahead = (trace-from m x.together.all).0 x.together.spaced;
      entries = λ p h. x.together.entries p;
      later = (trace-from m x.trace).0 x.spaced;
      carries = carries_tick m 0 start x.trace ((trace-from m x.trace).0 x.spaced) x.satisfied;
      kept = (row_by_row m.rule (guesses_in m recording x.trace) sane.window).1 y.keeps;
      mutation = λ p i h lacks. x.mutation p i lacks;
    })
