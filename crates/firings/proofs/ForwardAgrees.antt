-- One instant forward, worked out on words: what the definition of an instant gives.
use Prim.Native.Nat.{ℕ, ◌+◌, ◌*◌, ◌%◌, ◌≤◌, ◌<◌}
use native.Mathlib.Nat.{mul-le-mul_left}
use native.Mathlib.Decide.{dec_lt}
use native.Mathlib.Omega.{arith}
use mathlib.Core.Path.{◌≡◌, sym, ap, ap₂, subst, ◌∙◌}
use mathlib.Core.Logic.{⊎_elim}
use mathlib.Core.List.{List}
use mathlib.Core.Bool.{Bool, true, false, not, ◌&&◌, ◌||◌, false≢true}
use lib.Dec.{eqb}
use borrow.Author.Tests.{eqb-true, eq-eqb}
use Rattle.model.specs.Monitor.{Monitor, Transition}
use Rattle.model.proofs.Basics.{same_test}
use Rattle.monitor.specs.From.{transition_count}
use Rattle.words.specs.Words.{bit, mem, up, below}
use Rattle.situation.specs.Ruled.{ruled_from}
use Rattle.situation.specs.declared.Shape.{Shape}
use Rattle.instants.specs.Digit.{raised_set}
use Rattle.instants.specs.Grid.{firsts, seconds, plane}
use Rattle.instants.specs.Firing.{guessed, source_at, target_at, holds_at}
use Rattle.instants.specs.Forward.{rests, sends, zeroed_second, moves, forward}
use Rattle.instants.proofs.TestLaws.{both_are, both, either_is, up-some, some_up, below-some}
use Rattle.instants.proofs.FiringLaws.{Found, firing_found, found_firing}
use Rattle.firings.specs.Fired.{fired}
use Rattle.firings.specs.Rested.{rested}
use Rattle.firings.specs.Folded.{set_at, reset_sets}
use Rattle.firings.specs.Ready.{Ready, Planned, Guarded, Live}
use Rattle.firings.specs.declared.Plan.{Plan}
use Rattle.firings.proofs.SameLaws.{Within, past_false, one_way}
use Rattle.firings.proofs.FoldLaws.{Lowest, Highest, folded_is, zeroed-within, raised_is}
use Rattle.firings.proofs.PlanLaws.{target_below}
use Rattle.firings.proofs.FireLaws.{heard_by, carried_forth, source-live, fired-forth}
use Rattle.firings.proofs.RestLaws.{rested-is, rests-within}

module _ {m : Monitor} {table offsets : List ℕ} {h : Shape} {size n : ℕ} {p : Plan} (ready : Ready m table offsets h size n) (planned : Planned m h n p)
    (planes : List ℕ) (guarded : Guarded m planes) (forth : p.back ≡ false) (src : List ℕ) (past : (i : ℕ) → size ≤ i → mem src i ≡ false)
    (live : Live m p.live (mem src)) where
  -- what firings give, in the set for what they reset
  module _ (r i : ℕ) where
    abbrev of_place : Transition → (w v : ℕ) → ℕ → Bool
    of_place t w v x = mem src (source_at m t w v + x) && holds_at m t v x

    abbrev in_set : Transition → (w v : ℕ) → Bool
    in_set t w v = bit p.live t.source && carried_forth m (heard_by p) n (mem src) (64 * n * r + i) t w v

    abbrev in_one : Transition → (w v : ℕ) → Bool
    in_one t w v = eqb (t.resets % 4) r && up (target_at m (guessed m (heard_by p) t) t w v) (below (plane m) (of_place t w v)) i

    set_one : i < 64 * n → Found m (heard_by p) in_set → Found m (heard_by p) in_one
    set_one l f =
        let t : Transition = f.transition in
        let w : ℕ = f.window in
        let v : ℕ = f.variables in
        let to : ℕ = target_at m (guessed m (heard_by p) t) t w v in
        let (a, b) = both_are (bit p.live t.source) (carried_forth m (heard_by p) n (mem src) (64 * n * r + i) t w v) f.passes in
        let (x, at, q) = up-some (below (plane m) (of_place t w v)) (64 * n * (t.resets % 4) + to) (64 * n * r + i) b in
        let (low, c) = below-some (of_place t w v) (plane m) x q in
        let room : to + x < 64 * n = omega (arith, ready.wide, target_below ready f.index t f.listed (guessed m (heard_by p) t) w v x low) in
        let (same, there) = one_way (64 * n) r (t.resets % 4) i (to + x) l room (omega arith) in
        record {
          index = f.index;
          transition = t;
          window = w;
          variables = v;
          listed = f.listed;
          fit = f.fit;
          allowed = f.allowed;
          window-below = f.window-below;
          variables-below = f.variables-below;
          passes = both (eq-eqb (t.resets % 4) r (sym same)) (some_up (below (plane m) (of_place t w v)) to i x there q);
        }

    one_set : Found m (heard_by p) in_one → Found m (heard_by p) in_set
    one_set f =
        let t : Transition = f.transition in
        let w : ℕ = f.window in
        let v : ℕ = f.variables in
        let to : ℕ = target_at m (guessed m (heard_by p) t) t w v in
        let (a, b) = both_are (eqb (t.resets % 4) r) (up to (below (plane m) (of_place t w v)) i) f.passes in
        let (x, at, q) = up-some (below (plane m) (of_place t w v)) to i b in
        let (low, c) = below-some (of_place t w v) (plane m) x q in
        let (member, holding) = both_are (mem src (source_at m t w v + x)) (holds_at m t v x) c in
        let same : 64 * n * (t.resets % 4) ≡ 64 * n * r = ap (λ (y : ℕ). 64 * n * y) (eqb-true (t.resets % 4) r a) in
        record {
          index = f.index;
          transition = t;
          window = w;
          variables = v;
          listed = f.listed;
          fit = f.fit;
          allowed = f.allowed;
          window-below = f.window-below;
          variables-below = f.variables-below;
          passes =
              both (source-live ready p.live (mem src) live f.index t f.listed w v x f.window-below f.variables-below low member)
              (some_up (below (plane m) (of_place t w v)) (64 * n * (t.resets % 4) + to) (64 * n * r + i) x (omega arith) q);
        }

    pub sends-is : i < 64 * n → fired p table offsets src planes (transition_count table) (64 * n * r + i) ≡ sends m (heard_by p) r (mem src) i
    unfolding sends
    sends-is l =
        let same = fired-forth ready planned src planes guarded (64 * n * r + i) forth in
        same_test _ _
        (λ e. found_firing m (heard_by p) in_one (set_one l (firing_found m (heard_by p) in_set (sym same ∙ e))))
        (λ e. same ∙ found_firing m (heard_by p) in_set (one_set (firing_found m (heard_by p) in_one e)))

    sends-size : sends m (heard_by p) r (mem src) i ≡ true → i < 64 * n
    unfolding sends
    sends-size e =
        let f : Found m (heard_by p) in_one = firing_found m (heard_by p) in_one e in
        let t : Transition = f.transition in
        let w : ℕ = f.window in
        let v : ℕ = f.variables in
        let to : ℕ = target_at m (guessed m (heard_by p) t) t w v in
        let (a, b) = both_are (eqb (t.resets % 4) r) (up to (below (plane m) (of_place t w v)) i) f.passes in
        let (x, at, q) = up-some (below (plane m) (of_place t w v)) to i b in
        let (low, c) = below-some (of_place t w v) (plane m) x q in
        omega (arith, ready.wide, target_below ready f.index t f.listed (guessed m (heard_by p) t) w v x low)

  -- no set has anything from its end on
  sends-within : (r : ℕ) → Within (64 * n) (sends m (heard_by p) r (mem src))
  sends-within r i e = sends-size r i e

  src_within : Within size (mem src)
  src_within i e = by (dec_lt i size)
    where
      by : Dec (i < size) → i < size
      by (yes l) = l
      by (no l) = absurd (false≢true (sym (past i (omega arith)) ∙ e))

  rests-room : Within (64 * n) (rests m (heard_by p) (mem src))
  rests-room y e =
      omega (arith, ready.wide, ready.whole, rests-within m src (heard_by p) (subst (λ (b : ℕ). Within b (mem src)) ready.whole src_within) y e)

  rests-is : (i : ℕ) → rested p (ruled_from h table offsets) (heard_by p) size src i ≡ rests m (heard_by p) (mem src) i
  rests-is i = ap (λ (x : Monitor). rested p x (heard_by p) size src i) ready.described ∙ rested-is m src size past p planned.free (heard_by p) i

  -- all moves
  module _ (low1 high1 low2 high2 : List ℕ) (low_first : Lowest (64 * n) 1 (firsts m) low1) (high_first : Highest (64 * n) 1 (firsts m) high1)
      (low_second : Lowest (64 * n) (firsts m) (seconds m) low2) (high_second : Highest (64 * n) (firsts m) (seconds m) high2)
      (acc : List ℕ)
      (joined : (i : ℕ) → i < 64 * n * 4
      → mem acc i ≡ (rested p (ruled_from h table offsets) (heard_by p) size src i || fired p table offsets src planes (transition_count table) i)) where
    abbrev sent : ℕ → ℕ → Bool
    sent r = sends m (heard_by p) r (mem src)

    -- first the second clock, then the first
    abbrev of_first : ℕ → Bool
    of_first y = sent 1 y || zeroed_second m (sent 3) y

    set_is : (r : ℕ) → r < 4 → (i : ℕ) → i < 64 * n → set_at acc n r i ≡ (rests m (heard_by p) (mem src) (64 * n * r + i) || sent r i)
    unfolding set_at
    set_is r l i k =
        joined (64 * n * r + i) (omega (arith, mul-le-mul_left {m = r + 1} {n = 4} (64 * n) (omega arith)))
        ∙ ap₂ (λ (a b : Bool). a || b) (rests-is (64 * n * r + i)) (sends-is r i k)

    first-set : (i : ℕ) → i < 64 * n → set_at acc n 0 i ≡ (rests m (heard_by p) (mem src) i || sent 0 i)
    first-set i l =
        let same : 64 * n * 0 + i ≡ i = omega arith in
        set_is 0 (omega arith) i l ∙ ap (λ (x : ℕ). rests m (heard_by p) (mem src) x || sent 0 i) same

    other-set : (r : ℕ) → 0 < r → r < 4 → (i : ℕ) → i < 64 * n → set_at acc n r i ≡ sent r i
    other-set r f g i l =
        set_is r g i l
        ∙ ap (λ (b : Bool). b || sent r i)
        (past_false (64 * n) (rests m (heard_by p) (mem src)) rests-room (64 * n * r + i) (omega (arith, mul-le-mul_left {m = 1} {n = r} (64 * n) (omega arith))))

    second-within : Within (64 * n) (zeroed_second m (sent 3))
    second-within = zeroed-within (firsts m) (seconds m) (64 * n) (sent 3) (sends-within 3)

    first-within : Within (64 * n) of_first
    first-within y e = ⊎_elim (sends-within 1 y) (second-within y) (either_is (sent 1 y) (zeroed_second m (sent 3) y) e)

    moves-are : (i : ℕ) → i < 64 * n → reset_sets (firsts m) (seconds m) n low1 low2 acc i ≡ moves m (heard_by p) (mem src) i
    unfolding reset_sets moves
    moves-are i l =
        ap₂ (λ (a b : Bool). a || b)
        (ap₂ (λ (a b : Bool). a || b) (first-set i l)
        (folded_is 1 (firsts m) n low1 low_first _ of_first
        (λ y k.
        ap₂ (λ (a b : Bool). a || b) (other-set 1 (omega arith) (omega arith) y k)
        (folded_is (firsts m) (seconds m) n low2 low_second (set_at acc n 3) (sent 3) (other-set 3 (omega arith) (omega arith)) (sends-within 3) y k))
        first-within i l))
        (folded_is (firsts m) (seconds m) n low2 low_second (set_at acc n 2) (sent 2) (other-set 2 (omega arith) (omega arith)) (sends-within 2) i l)

    -- .. and the tick of both clocks
    pub forward_agrees : (acc' one cur : List ℕ)
        → ((i : ℕ) → i < 64 * n → mem acc' i ≡ reset_sets h.first h.second n low1 low2 acc i)
        → ((i : ℕ) → i < 64 * n → mem one i ≡ ((up 1 (mem acc') i && not (mem low1 i)) || (mem acc' i && mem high1 i)))
        → ((i : ℕ) → i < 64 * n → mem cur i ≡ ((up h.first (mem one) i && not (mem low2 i)) || (mem one i && mem high2 i)))
        → (i : ℕ) → i < 64 * n → mem cur i ≡ forward m (heard_by p) (mem src) i
    unfolding forward
    forward_agrees acc' one cur reset first second i l =
        second i l
        ∙ ap (λ (f : ℕ). (up f (mem one) i && not (mem low2 i)) || (mem one i && mem high2 i)) ready.fits.first
        ∙ raised_is (firsts m) (seconds m) (64 * n) (omega arith) low2 high2 low_second high_second one (raised_set 1 (firsts m) (moves m (heard_by p) (mem src))) after i l
      where
        moved : (y : ℕ) → y < 64 * n → mem acc' y ≡ moves m (heard_by p) (mem src) y
        moved y k =
            reset y k
            ∙ ap₂ (λ (a b : ℕ). reset_sets a b n low1 low2 acc y) ready.fits.first ready.fits.second
            ∙ moves-are y k

        after : (y : ℕ) → y < 64 * n → mem one y ≡ raised_set 1 (firsts m) (moves m (heard_by p) (mem src)) y
        after y k = first y k ∙ raised_is 1 (firsts m) (64 * n) (omega arith) low1 high1 low_first high_first acc' (moves m (heard_by p) (mem src)) moved y k
