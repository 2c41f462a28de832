-- The rows of moves. What a move and a tick make of a real situation, the rows of that move make of the checker's progress;
-- so moves that can be carried to T give permitted rows. These are at most one for each instant.
use Prim.Native.Nat.{ℕ, suc, ◌+◌, ◌-◌, ◌<◌, ◌≤◌}
use native.Mathlib.Omega.{arith}
use native.Mathlib.Decide.{ℕ_discrete}
use mathlib.Core.Path.{◌≡◌, refl, sym, ap, subst, ◌∙◌}
use mathlib.Core.List.Memᴰ
use mathlib.Core.List.{List, [], ◌∷◌, ◌++◌, map, Memᴰ}
use mathlib.Core.Bool.{Bool, true, false, cond, ◌&&◌}
use Rattle.std.specs.Prelude.{Option, Some, None}
use Rattle.std.specs.Option.{option_map, option_and_then}
use Rattle.std.proofs.lemmas.Option.{none-some, same_Some}
use mathlib.Core.Logic.{⊎_elim}
use lib.ListN.{length, length-append}
use lib.Dec.{leb, eqb}
use borrow.Author.Tests.{leb-true, leb-false, le-leb, lt-ltb, eq-eqb, ne_eqb}
use Rattle.model.specs.Edition.{latest_time}
use Rattle.model.specs.Rule.{window_behind}
use Rattle.model.specs.Monitor.{Monitor, Config, wait, fires, to_unit, airtime, within_rule}
use Rattle.model.specs.Trace.{Packet, PacketTrace, Spaced}
use Rattle.model.specs.Recording.{end_of}
use Rattle.model.specs.Witness.{Row, kept, removed, added, no_transition, marked, in_form, follows, in_place}
use Rattle.model.specs.Rules.{Progress, begin, none_before, is_next, none_at, others, behind_row, guessed, sends, keeps, removes, adds, account, broken}
use Rattle.model.specs.Order.{EndsBy}
use Rattle.model.specs.Situation.{Move, keep, rest, add, move_of, moved, on_air, sent, missed, step_by, tick, uncapped, first_by, with_air, trigger_of, recorded_at}
use Rattle.model.specs.Validation.{row_for, rows_by, HasRows, rows_of}
use Rattle.model.specs.declared.Situation.{Situation}
use Rattle.model.proofs.Basics.{both_true, cond-some}
use Rattle.model.specs.Sane.{Sane, SaneRecording}
use Rattle.model.specs.declared.Edition.{Edition}
use Rattle.model.proofs.Chains.{Moves}
use Rattle.model.proofs.Instants.{recorded_here, recorded_later}
use Rattle.model.proofs.RowLaws.{sends-fires, broken_next}
use Rattle.model.proofs.Ordered.{At, rows_by_at}

-- the recorded rows still to come

-- times rise, the first above t
abbrev pub Rising : ℕ → List Packet → Type 0
Rising t [] = Unit {0}
Rising t (p ∷ ps) = (t < p.time) × Rising p.time ps

abbrev Within : ℕ → List Packet → Type 0
Within last [] = Unit {0}
Within last (p ∷ ps) = (p.time ≤ last) × Within last ps

-- left is what is recorded after instant t, and none of it after T
pub record Ahead (recording : List Packet) (t : ℕ) (left : List Packet) : Type 0 where
  pub rising : Rising t left
  pub within : Within (end_of recording) left
  pub same : (u : ℕ) → t < u → recorded_at recording u ≡ recorded_at left u

spaced_rising : (m : Monitor) (p : Packet) (ps : List Packet) → Spaced m p ps → Rising p.time ps
spaced_rising m p [] h = tt
spaced_rising m p (q ∷ ps) h = (omega arith, spaced_rising m q ps h.1)

within_end : (t : ℕ) (l : List Packet) → Rising t l → Within (end_of l) l
unfolding end_of
within_end t [] h = tt
within_end t (p ∷ []) h = (omega arith, tt)
within_end t (p ∷ q ∷ l) h = let w : Within (end_of (q ∷ l)) (q ∷ l) = within_end p.time (q ∷ l) h.1 in (omega arith, w)

ahead_first : (m : Monitor) (recording : List Packet) → PacketTrace m recording → Ahead recording 0 recording
ahead_first m recording h = record { rising = from recording h; within = within_end 0 recording (from recording h); same = λ u l. refl }
  where
    from : (l : List Packet) → PacketTrace m l → Rising 0 l
    from [] g = tt
    from (p ∷ ps) g = (omega arith, spaced_rising m p ps g.1)

recorded_before : (t : ℕ) (l : List Packet) (u : ℕ) → Rising t l → u ≤ t → recorded_at l u ≡ None
unfolding recorded_at
recorded_before t [] u h g = refl
recorded_before t (p ∷ l) u h g = recorded_later p l u (omega arith) ∙ recorded_before p.time l u h.1 (omega arith)

-- at instant t + 1 nothing is recorded, or the first of those to come
pub data Coming (recording : List Packet) (t : ℕ) (left : List Packet) : Type 0 where
  quiet : recorded_at recording (suc t) ≡ None → Ahead recording (suc t) left → Coming recording t left
  heard : (k : ℕ) (others : List Packet) → recorded_at recording (suc t) ≡ Some k → left ≡ record { time = suc t; kind = k } ∷ others
      → Ahead recording (suc t) others → Coming recording t left

pub coming : (recording : List Packet) (t : ℕ) (left : List Packet) → Ahead recording t left → Coming recording t left
unfolding recorded_at
coming recording t [] a = quiet (a.same (suc t) (omega arith)) (record { rising = tt; within = tt; same = λ u l. a.same u (omega arith) })
coming recording t (p ∷ ps) a = go (ℕ_discrete p.time (suc t))
  where
    go : Dec (p.time ≡ suc t) → Coming recording t (p ∷ ps)
    go (yes e) =
        heard p.kind ps (a.same (suc t) (omega arith) ∙ recorded_here p ps (suc t) e)
        (λ i. record { time = e i; kind = p.kind } ∷ ps)
        (record {
          rising = rw e at a.rising.1;
          within = a.within.1;
          same = λ u l. a.same u (omega arith) ∙ recorded_later p ps u (omega arith);
        })
    go (no n) =
        let l : suc t < p.time = omega (arith, a.rising.0) in
        quiet (a.same (suc t) (omega arith) ∙ recorded_before (suc t) (p ∷ ps) (suc t) (l, a.rising.1) (omega arith))
        (record { rising = (l, a.rising.1); within = a.within; same = λ u g. a.same u (omega arith) })

-- at most one row an instant

row_for_few : (mark t : ℕ) (o : Option ℕ) (j : ℕ) → length (row_for mark t o j) ≤ 1
row_for_few mark t None j = omega arith
row_for_few mark t (Some k) j = omega arith

rows_by_few : (m : Monitor) (recorded : Option ℕ) (t : ℕ) (a : Move) → length (rows_by m recorded t a) ≤ 1
unfolding rows_by
rows_by_few m recorded t (keep j) = row_for_few kept t recorded j
rows_by_few m recorded t rest = row_for_few removed t recorded no_transition
rows_by_few m recorded t (add j) = row_for_few added t (trigger_of m j) j

pub rows_short : (m : Monitor) (recording : List Packet) (t : ℕ) (ks : List ℕ) → length (rows_of m recording t ks) ≤ length ks
unfolding rows_of
rows_short m recording t [] = omega arith
rows_short m recording t (k ∷ ks) =
    simp length-append (omega (arith, rows_by_few m (recorded_at recording t) t (move_of k), rows_short m recording (suc t) ks))

-- a progress and the situation just before instant t + 1

abbrev pub situation_at : ℕ → Progress → Situation
situation_at t p = with_air (wait (suc t - p.now) p.config) (p.free - suc t) p.window

-- the row before is not after t
abbrev Past : ℕ → Option Row → Type 0
Past t None = Unit {0}
Past t (Some r) = r.time ≤ t

-- the rows up to instant t have come to p
pub record Tied (recording : List Packet) (t : ℕ) (p : Progress) : Type 0 where
  pub early : p.now ≤ t
  pub past : Past t p.before
  pub ahead : Ahead recording t p.left

pub tied_first : (m : Monitor) (recording : List Packet) → SaneRecording m recording → Tied recording 0 (begin recording)
tied_first m recording h = record { early = omega arith; past = tt; ahead = ahead_first m recording h.trace }

-- waiting goes on: a tick later the clocks read one more
tick-later : (t now : ℕ) (c : Config) (taken left window : ℕ) → now ≤ t → taken - 1 ≡ left
    → tick uncapped (with_air (wait (suc t - now) c) taken window) ≡ with_air (wait (suc (suc t) - now) c) left window
tick-later t now c taken left window h air =
    λ i. record {
      state = c.state;
      variables = c.variables;
      clocks = clocks c.clocks i;
      air = air i;
      window = window;
    }
  where
    clocks : (l : List ℕ) → map (λ x. x + 1) (map (λ x. x + (suc t - now)) l) ≡ map (λ x. x + (suc (suc t) - now)) l
    clocks [] = refl
    clocks (x ∷ l) = λ i. (let e : x + (suc t - now) + 1 ≡ x + (suc (suc t) - now) = omega arith in e i) ∷ clocks l i

module _ {A B C : Type 0} (f : A → C) (g : B → C) where
  map-cond : (b : Bool) (x : Option A) (y : Option B) → option_map f x ≡ option_map g y → option_map f (cond b x None) ≡ option_map g (cond b y None)
  map-cond true x y e = e
  map-cond false x y e = refl

-- the air is free at instant t + 1
air-free : (free t : ℕ) → eqb (free - suc t) 0 ≡ leb free (suc t)
air-free free t = go (leb free (suc t)) refl
  where
    go : (b : Bool) → leb free (suc t) ≡ b → eqb (free - suc t) 0 ≡ b
    go true e = eq-eqb (free - suc t) 0 (omega (arith, leb-true free (suc t) e))
    go false e = ne_eqb (free - suc t) 0 (omega (arith, leb-false free (suc t) e))

-- one instant

-- what rows come to, none where one breaks a rule
unfoldable pub accounts : Edition → Monitor → Progress → List Row → Option Progress
accounts edition m p [] = Some p
accounts edition m p (r ∷ rs) = option_and_then (λ q. accounts edition m q rs) (account edition m p r)

module _ (m : Monitor) (t : ℕ) (p : Progress) where
  -- a packet on the air at instant t + 1
  on_air_lem : (k window : ℕ) (o : Option Config) (x : Option Progress)
      → option_map (tick uncapped) (option_map (λ c. with_air c (airtime m k + 1) window) o) ≡ option_map (situation_at (suc t)) x
      → option_map (tick uncapped) (on_air m k (situation_at t p) window o) ≡ option_map (situation_at (suc t)) (cond (leb p.free (suc t)) x None)
  on_air_lem k window o x e = rw (air-free p.free t) (map-cond (tick uncapped) (situation_at (suc t)) (leb p.free (suc t)) _ x e)

  sent-sends : (mark k j : ℕ) (left : List Packet)
      → option_map (tick uncapped) (sent m (guessed m (marked mark (suc t) k j)) j k (situation_at t p))
      ≡ option_map (situation_at (suc t)) (cond (leb p.free (suc t)) (sends m p (marked mark (suc t) k j) left) None)
  unfolding sent sends
  sent-sends mark k j left = on_air_lem k window (within_rule m p.window guess (fires m j k _)) (sends m p (marked mark (suc t) k j) left) (go (within_rule m p.window guess (fires m j k _)))
    where
      guess : Bool
      guess = guessed m (marked mark (suc t) k j)

      window : ℕ
      window = window_behind m.rule p.window guess

      clock : 1 ≡ suc (suc t) - suc t
      clock = omega arith

      air : airtime m k + 1 - 1 ≡ suc t + airtime m k + 1 - suc (suc t)
      air = omega arith

      go : (o : Option Config)
          → option_map (tick uncapped) (option_map (λ c. with_air c (airtime m k + 1) window) o)
          ≡ option_map (situation_at (suc t)) (option_map (behind_row m (marked mark (suc t) k j) left (suc t) window) o)
      go None = refl
      go (Some c) = λ i. Some (record { state = c.state; variables = c.variables; clocks = map (λ x. x + clock i) c.clocks; air = air i; window = window })

  -- the progress after the next recorded row, of kind k, is removed
  abbrev without : ℕ → Progress
  without k = behind_row m (marked removed (suc t) k no_transition) (others p.left) p.now p.window p.config

  missed-removed : p.now ≤ t → (k : ℕ)
      → option_map (tick uncapped) (missed m k (situation_at t p))
      ≡ option_map (situation_at (suc t)) (cond (leb p.free (suc t)) (cond (to_unit m k) (Some (without k)) None) None)
  unfolding missed
  missed-removed h k =
      on_air_lem k p.window (cond (to_unit m k) (Some (wait (suc t - p.now) p.config)) None) (cond (to_unit m k) (Some (without k)) None) (go (to_unit m k))
    where
      go : (b : Bool)
          → option_map (tick uncapped) (option_map (λ c. with_air c (airtime m k + 1) p.window) (cond b (Some (wait (suc t - p.now) p.config)) None))
          ≡ option_map (situation_at (suc t)) (cond b (Some (without k)) None)
      go true =
          ap {B = Option Situation} Some
          (tick-later t p.now p.config (airtime m k + 1) (suc t + airtime m k + 1 - suc (suc t)) p.window h (omega arith))
      go false = refl

  sends_tied : (recording : List Packet) (mark k j : ℕ) (left : List Packet) (q : Progress) → Ahead recording (suc t) left
      → cond (leb p.free (suc t)) (sends m p (marked mark (suc t) k j) left) None ≡ Some q → Tied recording (suc t) q
  sends_tied recording mark k j left q a e =
      subst (Tied recording (suc t)) (sends-fires m p (marked mark (suc t) k j) left q (cond-some (leb p.free (suc t)) _ q e).1).2
      (record { early = omega arith; past = omega arith; ahead = a })

-- a move at instant t + 1 and a tick lead to the situation of what the rows of that move come to
pub record Instant (edition : Edition) (m : Monitor) (recording : List Packet) (t : ℕ) (p : Progress) (recorded : Option ℕ) (a : Move) : Type 0 where
  pub step : step_by m uncapped recorded (situation_at t p) a ≡ option_map (situation_at (suc t)) (accounts edition m p (rows_by m recorded (suc t) a))
  pub next : (q : Progress) → accounts edition m p (rows_by m recorded (suc t) a) ≡ Some q → Tied recording (suc t) q

clear_of : (t u : ℕ) (l : List Packet) → Rising u l → t ≤ u → none_before l (suc t) ≡ true
clear_of t u [] h g = refl
clear_of t u (p ∷ l) h g = le-leb (suc t) p.time (omega arith)

none_at_lem : (t : ℕ) (l : List Packet) → Rising t l → none_at l t ≡ true
none_at_lem t [] h = refl
none_at_lem t (p ∷ l) h = rw (ne_eqb p.time t (omega arith))

past-later : (t : ℕ) (o : Option Row) → Past t o → Past (suc t) o
past-later t None h = tt
past-later t (Some r) h = omega arith

pub one_row : (edition : Edition) (m : Monitor) (p : Progress) (r : Row) → accounts edition m p (r ∷ []) ≡ account edition m p r
unfolding accounts
one_row edition m p r = go (account edition m p r)
  where
    go : (o : Option Progress) → option_and_then Some o ≡ o
    go None = refl
    go (Some q) = refl

module _ (edition : Edition) (m : Monitor) (recording : List Packet) (t : ℕ) (p : Progress) (limit : suc t ≤ latest_time edition) (tied : Tied recording t p) where
  formed : leb 1 (suc t) && leb (suc t) (latest_time edition) && true ≡ true
  formed = rw (le-leb 1 (suc t) (omega arith), le-leb (suc t) (latest_time edition) limit)

  in_place_lem : (mark k j : ℕ) → in_form edition (marked mark (suc t) k j) ≡ true → in_place edition p.before (marked mark (suc t) k j) ≡ true
  in_place_lem mark k j f = go p.before tied.past
    where
      go : (o : Option Row) → Past t o → in_place edition o (marked mark (suc t) k j) ≡ true
      go None h = f
      go (Some r) h = both_true (in_form edition (marked mark (suc t) k j)) (follows r (marked mark (suc t) k j)) f (rw (lt-ltb r.time (suc t) (omega arith)))

  -- a row in form at instant t + 1: the air and the rule for its mark are left
  account_by : (mark k j : ℕ) → in_form edition (marked mark (suc t) k j) ≡ true
      → account edition m p (marked mark (suc t) k j)
      ≡ cond (leb p.free (suc t))
      (cond (eqb mark kept) (keeps m p (marked mark (suc t) k j))
      (cond (eqb mark removed) (removes m p (marked mark (suc t) k j)) (adds m p (marked mark (suc t) k j))))
      None
  unfolding account
  account_by mark k j f = rw (in_place_lem mark k j f, clear_of t t p.left tied.ahead.rising (omega arith))

  instant_by : (recorded : Option ℕ) (a : Move) (o : Option Progress) → accounts edition m p (rows_by m recorded (suc t) a) ≡ o
      → step_by m uncapped recorded (situation_at t p) a ≡ option_map (situation_at (suc t)) o → ((q : Progress) → o ≡ Some q → Tied recording (suc t) q)
      → Instant edition m recording t p recorded a
  instant_by recorded a o e s n = record { step = s ∙ ap (option_map (situation_at (suc t))) (sym e); next = λ q h. n q (sym e ∙ h) }

  module _ (ahead : Ahead recording (suc t) p.left) where
    account-added : (k j : ℕ)
        → account edition m p (marked added (suc t) k j) ≡ cond (leb p.free (suc t)) (sends m p (marked added (suc t) k j) p.left) None
    unfolding in_form adds
    account-added k j = account_by added k j formed ∙ rw (none_at_lem (suc t) p.left ahead.rising)

    quiet-instant : (a : Move) → HasRows m None a → Instant edition m recording t p None a
    unfolding accounts rows_by step_by moved
    quiet-instant (keep j) f = absurd f
    quiet-instant rest f =
        instant_by None rest (Some p) refl (ap {B = Option Situation} Some (tick-later t p.now p.config (p.free - suc t) (p.free - suc (suc t)) p.window tied.early (omega arith)))
        (λ q h. subst (Tied recording (suc t)) (same_Some p q h)
        (record { early = omega (arith, tied.early); past = past-later t p.before tied.past; ahead = ahead }))
    quiet-instant (add j) f =
        instant_by None (add j) (cond (leb p.free (suc t)) (sends m p (marked added (suc t) f.0 j) p.left) None)
        (rw f.1 (one_row edition m p (marked added (suc t) f.0 j) ∙ account-added f.0 j))
        (rw f.1 (sent-sends m t p added f.0 j p.left))
        (λ q h. sends_tied m t p recording added f.0 j p.left q ahead h)

  module _ (k : ℕ) (l : List Packet) (first : p.left ≡ record { time = suc t; kind = k } ∷ l) (a : Ahead recording (suc t) l) where
    is-next : (mark j : ℕ) → is_next p.left (marked mark (suc t) k j) ≡ true
    is-next mark j =
        ap (λ x. is_next x (marked mark (suc t) k j)) first ∙ both_true (eqb (suc t) (suc t)) (eqb k k) (eq-eqb (suc t) (suc t) refl) (eq-eqb k k refl)

    ahead-others : Ahead recording (suc t) (others p.left)
    ahead-others = subst (Ahead recording (suc t)) (sym (ap others first)) a

    account-kept : (j : ℕ)
        → account edition m p (marked kept (suc t) k j) ≡ cond (leb p.free (suc t)) (sends m p (marked kept (suc t) k j) (others p.left)) None
    unfolding in_form keeps
    account-kept j = account_by kept k j formed ∙ rw (is-next kept j)

    account-removed : account edition m p (marked removed (suc t) k no_transition)
        ≡ cond (leb p.free (suc t)) (cond (to_unit m k) (Some (without m t p k)) None) None
    unfolding in_form removes
    account-removed = account_by removed k no_transition formed ∙ rw (is-next removed no_transition)

    heard-instant : (b : Move) → HasRows m (Some k) b → Instant edition m recording t p (Some k) b
    unfolding rows_by step_by moved
    heard-instant (keep j) f =
        instant_by (Some k) (keep j) (cond (leb p.free (suc t)) (sends m p (marked kept (suc t) k j) (others p.left)) None)
        (one_row edition m p (marked kept (suc t) k j) ∙ account-kept j)
        (sent-sends m t p kept k j (others p.left))
        (λ q h. sends_tied m t p recording kept k j (others p.left) q ahead-others h)
    heard-instant rest f =
        instant_by (Some k) rest (cond (leb p.free (suc t)) (cond (to_unit m k) (Some (without m t p k)) None) None)
        (one_row edition m p (marked removed (suc t) k no_transition) ∙ account-removed)
        (missed-removed m t p tied.early k)
        (λ q h. subst (Tied recording (suc t))
        (same_Some (without m t p k) q (cond-some (to_unit m k) _ q (cond-some (leb p.free (suc t)) _ q h).1).1)
        (record { early = omega (arith, tied.early); past = omega arith; ahead = ahead-others }))
    heard-instant (add j) f = absurd f

  pub instant : (a : Move) → HasRows m (recorded_at recording (suc t)) a → Instant edition m recording t p (recorded_at recording (suc t)) a
  instant a = go (coming recording t p.left tied.ahead)
    where
      go : Coming recording t p.left → HasRows m (recorded_at recording (suc t)) a → Instant edition m recording t p (recorded_at recording (suc t)) a
      go (quiet e b) = rw e (quiet-instant b a)
      go (heard k l e f b) = rw e (heard-instant k l f b a)

-- from moves to rows

-- an added row's transition has a trigger
bound : (o : Option ℕ) (f : ℕ → Option Situation) (g : Situation → Situation) (x : Situation) → option_map g (option_and_then f o) ≡ Some x → (a : ℕ) × (o ≡ Some a)
bound None f g x e = absurd (none-some x e)
bound (Some a) f g x e = (a, refl)

-- a move that leads somewhere has its rows
pub fits-step : (m : Monitor) (write : List ℕ → List ℕ) (recorded : Option ℕ) (s : Situation) (a : Move) (x : Situation)
    → step_by m write recorded s a ≡ Some x → HasRows m recorded a
unfolding step_by moved
fits-step m write None s (keep j) x e = none-some x e
fits-step m write (Some k) s (keep j) x e = tt
fits-step m write recorded s rest x e = tt
fits-step m write None s (add j) x e = bound (trigger_of m j) _ (tick write) x e
fits-step m write (Some k) s (add j) x e = none-some x e

row-time : (t : ℕ) (rows : List Row) → At t rows → (r : Row) → Memᴰ r rows → r.time ≡ t
row-time t [] h r i = absurd (Memᴰ.not-nil i)
row-time t (a ∷ rows) h r i = ⊎_elim (λ e. ap (λ x. x.time) e ∙ h.0) (λ j. row-time t rows h.1 r j) (Memᴰ.cases_cons i)

broken-end : (edition : Edition) (m : Monitor) (p : Progress) (i : ℕ) → p.left ≡ [] → broken edition m p i [] ≡ None
unfolding broken
broken-end edition m p i e = go p.left e
  where
    go : (l : List Packet) → l ≡ [] → ◌≡◌ {A = Option ℕ} (elim l [ [] ↦ None | q ∷ qs ↦ Some i ]) None
    go l h = rw h

broken-accounts : (edition : Edition) (m : Monitor) (more rows : List Row) (p q : Progress) → accounts edition m p rows ≡ Some q → ((i : ℕ) → broken edition m q i more ≡ None)
    → (i : ℕ) → broken edition m p i (rows ++ more) ≡ None
unfolding accounts
broken-accounts edition m more [] p q e h i = subst (λ x. broken edition m x i more ≡ None) (sym (same_Some p q e)) (h i)
broken-accounts edition m more (r ∷ rows) p q e h i = go (λ u g. broken-accounts edition m more rows u q g h (suc i)) (account edition m p r) refl e
  where
    go : ((u : Progress) → accounts edition m u rows ≡ Some q → broken edition m u (suc i) (rows ++ more) ≡ None)
        → (o : Option Progress) → account edition m p r ≡ o → option_and_then (λ u. accounts edition m u rows) o ≡ Some q → broken edition m p i (r ∷ rows ++ more) ≡ None
    go again None f g = absurd (none-some q g)
    go again (Some u) f g = broken_next edition m p r u f i (rows ++ more) ∙ again u g

-- after the last recorded time nothing is left
all_past : (t last : ℕ) (l : List Packet) → Rising t l → Within last l → last ≤ t → l ≡ []
all_past t last [] h w g = refl
all_past t last (p ∷ l) h w g = absurd (omega arith)

module _ (edition : Edition) (m : Monitor) (recording : List Packet) (sane : SaneRecording m recording) (fits : end_of recording ≤ latest_time edition) where
  -- a move that can be carried: its rows are accounted for, and come to the situation after it
  carried : (t : ℕ) (p : Progress) → Tied recording t p → suc t ≤ end_of recording → (a : Move) (x : Situation)
      → step_by m uncapped (recorded_at recording (suc t)) (situation_at t p) a ≡ Some x
      → (q : Progress) × (accounts edition m p (rows_by m (recorded_at recording (suc t)) (suc t) a) ≡ Some q) × (x ≡ situation_at (suc t) q) × Tied recording (suc t) q
  carried t p tied l a x e = go (accounts edition m p (rows_by m (recorded_at recording (suc t)) (suc t) a)) refl
    where
      now : Instant edition m recording t p (recorded_at recording (suc t)) a
      now = instant edition m recording t p (omega arith) tied a (fits-step m uncapped (recorded_at recording (suc t)) (situation_at t p) a x e)

      go : (o : Option Progress) → accounts edition m p (rows_by m (recorded_at recording (suc t)) (suc t) a) ≡ o
          → (q : Progress) × (accounts edition m p (rows_by m (recorded_at recording (suc t)) (suc t) a) ≡ Some q) × (x ≡ situation_at (suc t) q) × Tied recording (suc t) q
      go None f = absurd (none-some x (sym (now.step ∙ ap (option_map (situation_at (suc t))) f) ∙ e))
      go (Some q) f =
          (q, f, same_Some x (situation_at (suc t) q) (sym e ∙ now.step ∙ ap (option_map (situation_at (suc t))) f), now.next q f)

  moves-rows : (ks : List ℕ) (t : ℕ) (p : Progress) (z : Situation) → length ks + t ≡ end_of recording → Tied recording t p
      → Moves m recording t (situation_at t p) ks z
      → ((i : ℕ) → broken edition m p i (rows_of m recording (suc t) ks) ≡ None) × EndsBy (end_of recording) (rows_of m recording (suc t) ks)
  unfolding rows_of
  moves-rows [] t p z e tied moves =
      (λ i. broken-end edition m p i (all_past t (end_of recording) p.left tied.ahead.rising tied.ahead.within (omega arith)), λ r h. absurd (Memᴰ.not-nil h))
  moves-rows (k ∷ ks) t p z e tied moves =
      let c = carried t p tied (omega arith) (move_of k) moves.0 moves.2 in
      let h = moves-rows ks (suc t) c.0 z (omega arith) c.3 (subst (λ x. Moves m recording (suc t) x ks z) c.2 moves.3) in
      (broken-accounts edition m (rows_of m recording (suc (suc t)) ks) (rows_by m (recorded_at recording (suc t)) (suc t) (move_of k)) p c.0 c.1 h.0, ends h.1)
    where
      ends : EndsBy (end_of recording) (rows_of m recording (suc (suc t)) ks)
          → EndsBy (end_of recording) (rows_by m (recorded_at recording (suc t)) (suc t) (move_of k) ++ rows_of m recording (suc (suc t)) ks)
      ends h r g =
          ⊎_elim (λ f. let l : r.time ≡ suc t = row-time (suc t) (rows_by m (recorded_at recording (suc t)) (suc t) (move_of k)) (rows_by_at m (recorded_at recording (suc t)) (suc t) (move_of k)) r f in omega arith) (h r)
          (Memᴰ.append_cases (rows_by m (recorded_at recording (suc t)) (suc t) (move_of k)) g)

pub moves-permitted : (edition : Edition) (m : Monitor) (recording : List Packet) → Sane m → SaneRecording m recording → end_of recording ≤ latest_time edition → (ks : List ℕ) (z : Situation)
    → length ks ≡ end_of recording → Moves m recording 0 (first_by uncapped) ks z
    → (broken edition m (begin recording) 0 (rows_of m recording 1 ks) ≡ None) × EndsBy (end_of recording) (rows_of m recording 1 ks)
moves-permitted edition m recording _ sane fits ks z e moves =
    let h = moves-rows edition m recording sane fits ks 0 (begin recording) z (omega arith) (tied_first m recording sane) moves in
    (h.0 0, h.1)
