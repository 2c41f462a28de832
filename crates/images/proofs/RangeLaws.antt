-- What the moves of an instant put where, forward or back. Assumes nothing.
use Prim.Native.Nat.{ℕ, ◌-◌, ◌*◌}
use mathlib.Core.Path.{◌≡◌, subst}
use mathlib.Core.List.{List}
use mathlib.Core.Bool.{Bool, true, false, cond, ◌||◌, or_comm}
use Rattle.std.specs.Prelude.{Some, None}
use Rattle.model.specs.Monitor.{Monitor, to_unit, airtime}
use Rattle.monitor.specs.From.{transition_count}
use Rattle.words.specs.Words.{Joined}
use Rattle.words.proofs.Sets.{join_none, join_join, join_same}
use Rattle.situation.specs.Ruled.{ruled_from}
use Rattle.firings.specs.declared.Plan.{Plan}
use Rattle.firings.specs.Fired.{fired}
use Rattle.firings.specs.Rested.{ranged, rested, rested_back}
use Rattle.images.specs.Moved.{rests_by, moved}

module _ (p : Plan) (m : Monitor) (size : ℕ) (src : List ℕ) where
  -- so many numbers, forward or back
  abbrev pub over : (d s length : ℕ) → ℕ → Bool
  over d s length = cond p.back (ranged src s d length) (ranged src d s length)

  resting : (i : ℕ) → p.heard ≡ None → (over 0 p.free (size - p.free) i || over 0 0 p.free i) ≡ rests_by p m size src i
  unfolding rests_by rested rested_back
  resting i e = by p.back
    where
      by : (b : Bool) → (cond b (ranged src p.free 0 (size - p.free)) (ranged src 0 p.free (size - p.free)) i || cond b (ranged src 0 0 p.free) (ranged src 0 0 p.free) i)
          ≡ cond b (rested_back p m p.heard size src) (rested p m p.heard size src) i
      by true = rw e (or_comm (ranged src p.free 0 (size - p.free) i) (ranged src 0 0 p.free i))
      by false = rw e

  answering : (k i : ℕ) → p.heard ≡ Some k → to_unit m k ≡ true → over (p.free * airtime m k) 0 p.free i ≡ rests_by p m size src i
  unfolding rests_by rested rested_back
  answering k i e h = by p.back
    where
      by : (b : Bool) → cond b (ranged src 0 (p.free * airtime m k) p.free) (ranged src (p.free * airtime m k) 0 p.free) i
          ≡ cond b (rested_back p m p.heard size src) (rested p m p.heard size src) i
      by true = rw (e, h)
      by false = rw (e, h)

  silent : (k i : ℕ) → p.heard ≡ Some k → to_unit m k ≡ false → rests_by p m size src i ≡ false
  unfolding rests_by rested rested_back
  silent k i e h = by p.back
    where
      by : (b : Bool) → cond b (rested_back p m p.heard size src) (rested p m p.heard size src) i ≡ false
      by true = rw (e, h)
      by false = rw (e, h)

  module _ (a : List ℕ) where
    -- nothing is recorded
    pub rest_free : (length : ℕ) (b c : List ℕ) → p.heard ≡ None → length ≡ size - p.free → Joined (over 0 p.free length) a b → Joined (over 0 0 p.free) b c
        → Joined (rests_by p m size src) a c
    rest_free length b c e z x y =
        let P : ℕ → Type 0 = λ n. Joined (over 0 p.free n) a b in
        join_same (λ i. over 0 p.free (size - p.free) i || over 0 0 p.free i) (rests_by p m size src) a c (λ i l. resting i e)
        (join_join (over 0 p.free (size - p.free)) (over 0 0 p.free) a b c (subst P z x) y)

    -- a kind is
    pub rest_kind : (k air : ℕ) (b : List ℕ) → p.heard ≡ Some k → air ≡ airtime m k → to_unit m k ≡ true → Joined (over (p.free * air) 0 p.free) a b
        → Joined (rests_by p m size src) a b
    rest_kind k air b e z h x =
        let P : ℕ → Type 0 = λ n. Joined (over (p.free * n) 0 p.free) a b in
        join_same (over (p.free * airtime m k) 0 p.free) (rests_by p m size src) a b (λ i l. answering k i e h) (subst P z x)

    pub rest_other : (k : ℕ) → p.heard ≡ Some k → to_unit m k ≡ false → Joined (rests_by p m size src) a a
    rest_other k e h = join_none (rests_by p m size src) a (λ i l. silent k i e h)

-- all moves
module _ (p : Plan) (table offsets : List ℕ) (size : ℕ) (planes src : List ℕ) where
  pub moved_forward : p.back ≡ false → (i : ℕ)
      → moved p table offsets size planes src i ≡ (rested p (ruled_from p.shape table offsets) p.heard size src i || fired p table offsets src planes (transition_count table) i)
  unfolding moved rests_by
  moved_forward e i = rw e

  pub moved_back : p.back ≡ true → (i : ℕ)
      → moved p table offsets size planes src i ≡ (rested_back p (ruled_from p.shape table offsets) p.heard size src i || fired p table offsets src planes (transition_count table) i)
  unfolding moved rests_by
  moved_back e i = rw e
