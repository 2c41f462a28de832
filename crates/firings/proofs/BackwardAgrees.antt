-- One instant back, worked out on words: for the numbers of a row, what the definition of an instant gives.
use Prim.Native.Nat.{ℕ, zero, suc, ◌+◌, ◌-◌, ◌*◌, ◌/◌, ◌%◌, ◌≤◌, ◌<◌}
use native.Mathlib.Nat.{mod-lt, mod-add-div, div-lt_iff_lt-mul, mul_comm, mul-le-mul_left}
use native.Mathlib.Omega.{arith}
use mathlib.Core.Path.{◌≡◌, refl, sym, ap, ap₂, subst, ◌∙◌}
use mathlib.Core.List.{List}
use mathlib.Core.Bool.{Bool, true, false, cond, not, ◌&&◌, ◌||◌, and-false, and-true, or-false}
use Rattle.std.specs.Prelude.{Option, Some, None, slice_get}
use lib.Dec.{ltb}
use borrow.Author.Tests.{eqb-false, ltb-true}
use Rattle.model.specs.Size as Size
use Rattle.model.specs.Monitor.{Monitor, Transition, to_unit, airtime}
use Rattle.model.proofs.Basics.{same_test}
use Rattle.monitor.specs.From.{transition_count}
use Rattle.words.specs.Words.{bit, mem, up, below}
use Rattle.situation.specs.Ruled.{ruled_from}
use Rattle.situation.specs.declared.Shape.{Shape}
use Rattle.instants.specs.Digit.{digit, is_highest, raised, zeroed}
use Rattle.instants.specs.Grid.{firsts, seconds, plane, free}
use Rattle.instants.specs.Firing.{fits, guessed, source_at, target_at, holds_at}
use Rattle.instants.specs.Backward.{ticked, reset_by, rests_back, sends_back, backward}
use Rattle.instants.proofs.TestLaws.{both_are, both, up-some, some_up, below-some, some_below}
use Rattle.instants.proofs.FiringLaws.{Found, firing_found, found_firing}
use Rattle.firings.specs.Fired.{fires_now, transition_by, fired}
use Rattle.firings.specs.Rested.{rested_back}
use Rattle.firings.specs.Folded.{set_at, spread_by}
use Rattle.firings.specs.Ready.{Ready, Planned, Guarded, Live}
use Rattle.firings.specs.declared.Plan.{Plan}
use Rattle.firings.proofs.FoldLaws.{Lowest, Highest, spread-is, zeroed_least}
use Rattle.firings.proofs.PlanLaws.{air-below, size-first, target_below, transition-below, transition-is}
use Rattle.firings.proofs.FireLaws.{heard_by, carried_back, source-live, fired-back}
use Rattle.firings.proofs.RestLaws.{rested-back}

-- asked of the number with a digit raised
lowered_is : (w r b : ℕ) (high s : List ℕ) → Highest b w r high → (i : ℕ) → i < b
    → ((mem s (i + w) && not (mem high i)) || (mem s i && mem high i)) ≡ mem s (raised w r i)
unfolding raised
lowered_is w r b high s marks i l = rw (marks i l) (by (is_highest w r i))
  where
    by : (x : Bool) → ((mem s (i + w) && not x) || (mem s i && x)) ≡ mem s (cond x i (i + w))
    by true = simp (and-false, and-true)
    by false = simp (and-false, and-true, or-false)

-- the lowest digit raised stays below what it divides
raised_below : (r k i : ℕ) → 0 < r → i < r * k → raised 1 r i < r * k
unfolding raised
raised_below r k i pr l = by (is_highest 1 r i) refl
  where
    by : (x : Bool) → is_highest 1 r i ≡ x → cond x i (i + 1) < r * k
    by true e = l
    by false e =
        let one : i / 1 ≡ i = omega arith in
        let other : i % r + 1 ≡ r → ⊥ = λ q. eqb-false (digit 1 r i + 1) r e (ap (λ (y : ℕ). y % r + 1) one ∙ q) in
        let few : i / r < k = (div-lt_iff_lt-mul pr).1 (omega (arith, mul_comm r k)) in
        omega (arith, mod-lt i pr, mod-add-div i r, mul-le-mul_left {m = i / r + 1} {n = k} r (omega arith))

-- a transition that resets r is fired
abbrev pub Used : Plan → (table offsets : List ℕ) → (r : ℕ) → Type 0
Used p table offsets r =
    (j : ℕ) × (j < transition_count table) × (fires_now p (transition_by table offsets j) ≡ true) × ((transition_by table offsets j).resets % 4 ≡ r)

-- sets that agree on situations' numbers rest alike
rests-same : (m : Monitor) (recorded : Option ℕ) (s t : ℕ → Bool) → ((y : ℕ) → y < Size.size m → s y ≡ t y)
    → (i : ℕ) → i < Size.size m → rests_back m recorded s i ≡ rests_back m recorded t i
unfolding rests_back
rests-same m None s t e i l = by (ltb i (free m))
  where
    by : (b : Bool) → s (cond b i (i - free m)) ≡ t (cond b i (i - free m))
    by true = e i l
    by false = e (i - free m) (omega arith)
rests-same m (Some k) s t e i l = ap (λ (b : Bool). to_unit m k && b) (by (ltb i (free m)) refl)
  where
    by : (b : Bool) → ltb i (free m) ≡ b → (b && s (i + free m * airtime m k)) ≡ (b && t (i + free m * airtime m k))
    by true f = e (i + free m * airtime m k) (omega (arith, air-below m k i (ltb-true i (free m) f)))
    by false f = refl

module _ {m : Monitor} {table offsets : List ℕ} {h : Shape} {size n : ℕ} {p : Plan} (ready : Ready m table offsets h size n) (planned : Planned m h n p)
    (planes : List ℕ) (guarded : Guarded m planes) (back : p.back ≡ true) (row next : List ℕ) (live : Live m p.live (mem row))
    (low1 high1 low2 high2 : List ℕ) (low_first : Lowest (64 * n) 1 (firsts m) low1) (high_first : Highest (64 * n) 1 (firsts m) high1)
    (low_second : Lowest (64 * n) (firsts m) (seconds m) low2) (high_second : Highest (64 * n) (firsts m) (seconds m) high2)
    (one two sets : List ℕ)
    (second : (i : ℕ) → i < 64 * n → mem one i ≡ ((mem next (i + h.first) && not (mem high2 i)) || (mem next i && mem high2 i)))
    (first : (i : ℕ) → i < 64 * n → mem two i ≡ ((mem one (i + 1) && not (mem high1 i)) || (mem one i && mem high1 i)))
    (kept : (i : ℕ) → i < 64 * n → set_at sets n 0 i ≡ mem two i)
    (first_set : Used p table offsets 1 → (i : ℕ) → i < 64 * n → set_at sets n 1 i ≡ spread_by 1 h.first n low1 (set_at sets n 0) i)
    (second_set : Used p table offsets 2 → (i : ℕ) → i < 64 * n → set_at sets n 2 i ≡ spread_by h.first h.second n low2 (set_at sets n 0) i)
    (both_set : Used p table offsets 3
    → (i : ℕ) → i < 64 * n → set_at sets n 3 i ≡ spread_by 1 h.first n low1 (spread_by h.first h.second n low2 (set_at sets n 0)) i) where
  abbrev after : ℕ → Bool
  after y = mem next (ticked m y)

  -- the sets: what the tick leads into the next one, and what resets and the tick do

  one_is : (i : ℕ) → i < 64 * n → mem one i ≡ mem next (raised (firsts m) (seconds m) i)
  one_is i l =
      second i l
      ∙ ap (λ (f : ℕ). (mem next (i + f) && not (mem high2 i)) || (mem next i && mem high2 i)) ready.fits.first
      ∙ lowered_is (firsts m) (seconds m) (64 * n) high2 next high_second i l

  kept-is : (i : ℕ) → i < size → set_at sets n 0 i ≡ after i
  kept-is i l =
      let (k, divided) = size-first m in
      let at : size ≡ firsts m * k = ready.whole ∙ divided in
      let stays : raised 1 (firsts m) i < size = subst (λ (b : ℕ). raised 1 (firsts m) i < b) (sym at) (raised_below (firsts m) k i (omega arith) (omega arith)) in
      kept i (omega (arith, ready.wide))
      ∙ first i (omega (arith, ready.wide))
      ∙ lowered_is 1 (firsts m) (64 * n) high1 one high_first i (omega (arith, ready.wide))
      ∙ one_is (raised 1 (firsts m) i) (omega (arith, ready.wide))

  set_is : (r : ℕ) → r < 4 → Used p table offsets r → (i : ℕ) → i < size → set_at sets n r i ≡ after (reset_by m r i)
  set_is zero f used i l = kept-is i l
  set_is (suc zero) f used i l =
      let k : i < 64 * n = omega (arith, ready.wide) in
      first_set used i k
      ∙ ap (λ (x : ℕ). spread_by 1 x n low1 (set_at sets n 0) i) ready.fits.first
      ∙ spread-is 1 (firsts m) n (omega arith) (omega arith) low1 low_first (set_at sets n 0) i k
      ∙ kept-is (zeroed 1 (firsts m) i) (omega (arith, zeroed_least 1 (firsts m) i))
  set_is (suc (suc zero)) f used i l =
      let k : i < 64 * n = omega (arith, ready.wide) in
      second_set used i k
      ∙ ap₂ (λ (x y : ℕ). spread_by x y n low2 (set_at sets n 0) i) ready.fits.first ready.fits.second
      ∙ spread-is (firsts m) (seconds m) n (omega arith) (omega arith) low2 low_second (set_at sets n 0) i k
      ∙ kept-is (zeroed (firsts m) (seconds m) i) (omega (arith, zeroed_least (firsts m) (seconds m) i))
  set_is (suc (suc (suc zero))) f used i l =
      let k : i < 64 * n = omega (arith, ready.wide) in
      let y : ℕ = zeroed 1 (firsts m) i in
      let less : y ≤ i = zeroed_least 1 (firsts m) i in
      both_set used i k
      ∙ ap₂ (λ (a b : ℕ). spread_by 1 a n low1 (spread_by a b n low2 (set_at sets n 0)) i) ready.fits.first ready.fits.second
      ∙ spread-is 1 (firsts m) n (omega arith) (omega arith) low1 low_first (spread_by (firsts m) (seconds m) n low2 (set_at sets n 0)) i k
      ∙ spread-is (firsts m) (seconds m) n (omega arith) (omega arith) low2 low_second (set_at sets n 0) y (omega arith)
      ∙ kept-is (zeroed (firsts m) (seconds m) y) (omega (arith, zeroed_least (firsts m) (seconds m) y))
  set_is (suc (suc (suc (suc r)))) f used i l = absurd (omega arith)

  module _ (i : ℕ) (low : i < size) (member : mem row i ≡ true) where
    -- a row is sent

    abbrev in_sets : Transition → (w v : ℕ) → Bool
    in_sets t w v = bit p.live t.source && carried_back m (heard_by p) n (mem sets) i t w v

    abbrev of_sets : Transition → (w v x : ℕ) → Bool
    of_sets t w v x = mem sets (64 * n * (t.resets % 4) + target_at m (guessed m (heard_by p) t) t w v + x) && holds_at m t v x

    abbrev of_next : Transition → (w v x : ℕ) → Bool
    of_next t w v x = after (reset_by m (t.resets % 4) (target_at m (guessed m (heard_by p) t) t w v + x)) && holds_at m t v x

    abbrev in_next : Transition → (w v : ℕ) → Bool
    in_next t w v = up (source_at m t w v) (below (plane m) (of_next t w v)) i

    -- the set for what a transition resets, where the transition is fired
    place_is : (j : ℕ) (t : Transition) → slice_get m.transitions j ≡ Some t → bit p.live t.source ≡ true → fits (heard_by p) t ≡ true
        → (w v x : ℕ) → x < plane m → of_sets t w v x ≡ of_next t w v x
    unfolding set_at fires_now
    place_is j t listed a b w v x l =
        let to : ℕ = target_at m (guessed m (heard_by p) t) t w v in
        let r : ℕ = t.resets % 4 in
        let same : t ≡ transition_by table offsets j = sym (transition-is ready j t listed) in
        let used : Used p table offsets r = (
          j,
          transition-below ready j t listed,
          subst (λ (y : Transition). fires_now p y ≡ true) same (both a b),
          ap (λ (y : Transition). y.resets % 4) (sym same),
        ) in
        let at : 64 * n * r + to + x ≡ 64 * n * r + (to + x) = omega arith in
        ap (λ (c : Bool). c && holds_at m t v x)
        (ap (mem sets) at
        ∙ set_is r (mod-lt t.resets {m = 4} (omega arith)) used (to + x) (target_below ready j t listed (guessed m (heard_by p) t) w v x l))

    sets-next : Found m (heard_by p) in_sets → Found m (heard_by p) in_next
    sets-next f =
        let t : Transition = f.transition in
        let w : ℕ = f.window in
        let v : ℕ = f.variables in
        let (a, b) = both_are (bit p.live t.source) (carried_back m (heard_by p) n (mem sets) i t w v) f.passes in
        let (x, at, q) = up-some (below (plane m) (of_sets t w v)) (source_at m t w v) i b in
        let (l, c) = below-some (of_sets t w v) (plane m) x q in
        record {
          index = f.index;
          transition = t;
          window = w;
          variables = v;
          listed = f.listed;
          fit = f.fit;
          allowed = f.allowed;
          window-below = f.window-below;
          variables-below = f.variables-below;
          passes =
              some_up (below (plane m) (of_next t w v)) (source_at m t w v) i x at
              (some_below (of_next t w v) (plane m) x l (sym (place_is f.index t f.listed a f.fit w v x l) ∙ c));
        }

    next-sets : Found m (heard_by p) in_next → Found m (heard_by p) in_sets
    next-sets f =
        let t : Transition = f.transition in
        let w : ℕ = f.window in
        let v : ℕ = f.variables in
        let (x, at, q) = up-some (below (plane m) (of_next t w v)) (source_at m t w v) i f.passes in
        let (l, c) = below-some (of_next t w v) (plane m) x q in
        let here : mem row (source_at m t w v + x) ≡ true = ap (mem row) (sym at) ∙ member in
        let a : bit p.live t.source ≡ true =
        source-live ready p.live (mem row) live f.index t f.listed w v x f.window-below f.variables-below l here in
        record {
          index = f.index;
          transition = t;
          window = w;
          variables = v;
          listed = f.listed;
          fit = f.fit;
          allowed = f.allowed;
          window-below = f.window-below;
          variables-below = f.variables-below;
          passes =
              both a
              (some_up (below (plane m) (of_sets t w v)) (source_at m t w v) i x at
              (some_below (of_sets t w v) (plane m) x l (place_is f.index t f.listed a f.fit w v x l ∙ c)));
        }

    sends-are : fired p table offsets sets planes (transition_count table) i ≡ sends_back m (heard_by p) after i
    unfolding sends_back
    sends-are =
        same_test _ _
        (λ e. found_firing m (heard_by p) in_next (sets-next (firing_found m (heard_by p) in_sets (sym (fired-back ready planned sets planes guarded i back) ∙ e))))
        (λ e. fired-back ready planned sets planes guarded i back ∙ found_firing m (heard_by p) in_sets (next-sets (firing_found m (heard_by p) in_next e)))

    -- no row is sent
    rests-are : rested_back p (ruled_from h table offsets) (heard_by p) size sets i ≡ rests_back m (heard_by p) after i
    unfolding set_at
    rests-are =
        ap (λ (x : Monitor). rested_back p x (heard_by p) size sets i) ready.described
        ∙ rested-back m sets p planned.free size (heard_by p) i low
        ∙ rests-same m (heard_by p) (mem sets) after
        (λ y l.
        let at : y ≡ 64 * n * 0 + y = omega arith in
        ap (mem sets) at ∙ kept-is y (omega (arith, ready.whole)))
        i (omega (arith, ready.whole))

    pub backward_agrees : (rested_back p (ruled_from h table offsets) (heard_by p) size sets i || fired p table offsets sets planes (transition_count table) i)
        ≡ backward m (heard_by p) (mem next) i
    unfolding backward
    backward_agrees = ap₂ (λ (a b : Bool). a || b) rests-are sends-are
