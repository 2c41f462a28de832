-- One instant back: what the steps of `retreat` ensure comes to, where the table is sound. Assumes nothing.
use Rattle.std.specs.Prelude.{Option}
use mathlib.Core.Path.{◌≡◌, refl, sym, ap, ap₂, subst, ◌∙◌}
use mathlib.Core.List.{List}
use mathlib.Core.Bool.{Bool, true, false, ◌&&◌, ◌||◌, false≢true}
use Prim.Native.Nat.{ℕ, ◌+◌, ◌*◌, ◌≤◌, ◌<◌}
use native.Mathlib.Decide.{dec_lt}
use native.Mathlib.Nat.{mul-le-mul_left}
use native.Mathlib.Omega.{arith}
use borrow.Author.Tests.{eq-eqb, le-ltb}
use lib.ListN.{length}
use Rattle.model.specs.Monitor.{Monitor}
use Rattle.monitor.specs.From.{transition_count}
use Rattle.words.specs.Words.{bit, mem, below, Is}
use Rattle.shifts.specs.Shifted.{shifted_down}
use Rattle.situation.specs.Ruled.{ruled_from}
use Rattle.situation.specs.declared.Shape.{Shape}
use Rattle.instants.specs.Backward.{backward}
use Rattle.instants.proofs.TestLaws.{both, some_any}
use Rattle.firings.specs.Fired.{fired}
use Rattle.firings.specs.Used.{uses_in, used_by}
use Rattle.firings.specs.Rested.{rested_back}
use Rattle.firings.specs.Folded.{set_at, spread_by}
use Rattle.firings.specs.declared.Plan.{Plan}
use Rattle.firings.proofs.BackwardAgrees.{Used, backward_agrees}
use Rattle.images.specs.Advanced.{Given, Within, RetreatedTo}
use Rattle.images.specs.Planning.{PlanOf}
use Rattle.images.specs.Moved.{moved}
use Rattle.images.proofs.RangeLaws.{moved_back}
use Rattle.images.specs.Unset.{Unset}
use Rattle.images.proofs.Plans.{planned}
use Rattle.images.proofs.Marking.{part_of, low_first_lem, high_first_lem, low_second_lem, high_second_lem}
use Rattle.images.proofs.SetLaws.{below_in, set_first, spread_same}
use Rattle.images.proofs.Advancing.{Alive, live_in}

-- a transition that is fired and resets r makes set r worth it
used_bit : (p : Plan) (table offsets : List ℕ) (worth r : ℕ) → bit worth r ≡ used_by p table offsets (transition_count table) r → Used p table offsets r → bit worth r ≡ true
unfolding used_by uses_in
used_bit p table offsets worth r e (j, l, fires, resets) =
    e ∙ some_any (uses_in p table offsets r) (transition_count table) j l (both fires (eq-eqb _ r resets))

below_out : (k : ℕ) (p : ℕ → Bool) (i : ℕ) → k ≤ i → below k p i ≡ false
unfolding below
below_out k p i h = simp (le-ltb i k h)

-- a set that is empty past its first n words
module _ (n : ℕ) (p : ℕ → Bool) (before sets : List ℕ) (four : length before ≡ 4 * n) (is : Is (below (64 * n) p) before sets) (i : ℕ) (l : i < 64 * n) where
  first-is : set_at sets n 0 i ≡ p i
  first-is = set_first sets n i ∙ is.all i (omega arith) ∙ below_in (64 * n) p i l

  other_none : (r : ℕ) → 0 < r → r < 4 → set_at sets n r i ≡ false
  unfolding set_at
  other_none r f g =
      is.all (64 * n * r + i) (omega (arith, mul-le-mul_left {m = r + 1} {n = 4} (64 * n) (omega arith)))
      ∙ below_out (64 * n) p (64 * n * r + i) (omega (arith, mul-le-mul_left {m = 1} {n = r} (64 * n) (omega arith)))

-- what each step ensures, of sets of n words
module _ (table offsets : List ℕ) (h : Shape) (size n : ℕ) (marks planes : List ℕ) (heard : Option ℕ) (live : ℕ) (p : Plan) (plan : PlanOf h heard live n true p)
    (row next : List ℕ) (alive : Alive h row live) (worth : ℕ) (uses : (r : ℕ) → bit worth r ≡ used_by p table offsets (transition_count table) r)
    (w1 r1 w2 r2 : ℕ) (f1 : w1 ≡ 1) (e1 : r1 ≡ h.first) (f2 : w2 ≡ h.first) (e2 : r2 ≡ h.second)
    (one0 two0 sets0 one two sets sets' out0 out row' : List ℕ)
    (four : length sets0 ≡ 4 * n) (single : length one0 ≡ n) (spare : length two0 ≡ n) (room : length out0 ≡ n) (same : length row ≡ n)
    (second : Is (shifted_down next h.first (part_of marks (3 * n) (4 * n)) (part_of marks (3 * n) (4 * n))) one0 one)
    (first : Is (shifted_down one 1 (part_of marks n (2 * n)) (part_of marks n (2 * n))) two0 two)
    (set : Is (below (64 * n) (mem two)) sets0 sets)
    (unset : Unset worth n w1 r1 w2 r2 (part_of marks 0 n) (part_of marks (2 * n) (3 * n)) sets sets')
    (lead : Is (moved p table offsets size planes sets') out0 out)
    (keep : Is (λ i. mem row i && mem out i) row row') where
  kept : (i : ℕ) → i < 64 * n → set_at sets' n 0 i ≡ mem two i
  kept i l = unset.kept i l ∙ first-is n (mem two) sets0 sets four set i l

  back_to : (i : ℕ) → i < 64 * n → set_at sets n 0 i ≡ set_at sets' n 0 i
  back_to i l = sym (unset.kept i l)

  empty : (r : ℕ) → 0 < r → r < 4 → (i : ℕ) → i < 64 * n → set_at sets n r i ≡ false
  empty r f g i l = other_none n (mem two) sets0 sets four set i l r f g

  set_one : Used p table offsets 1 → (i : ℕ) → i < 64 * n → set_at sets' n 1 i ≡ spread_by 1 h.first n (part_of marks 0 n) (set_at sets' n 0) i
  set_one used i l =
      unset.first (used_bit p table offsets worth 1 (uses 1) used) (empty 1 (omega arith) (omega arith)) i l
      ∙ ap₂ (λ (a b : ℕ). spread_by a b n (part_of marks 0 n) (set_at sets n 0) i) f1 e1
      ∙ spread_same 1 h.first n (part_of marks 0 n) (set_at sets n 0) (set_at sets' n 0) back_to i

  set_two : Used p table offsets 2 → (i : ℕ) → i < 64 * n → set_at sets' n 2 i ≡ spread_by h.first h.second n (part_of marks (2 * n) (3 * n)) (set_at sets' n 0) i
  set_two used i l =
      unset.second (used_bit p table offsets worth 2 (uses 2) used) (empty 2 (omega arith) (omega arith)) i l
      ∙ ap₂ (λ (a b : ℕ). spread_by a b n (part_of marks (2 * n) (3 * n)) (set_at sets n 0) i) f2 e2
      ∙ spread_same h.first h.second n (part_of marks (2 * n) (3 * n)) (set_at sets n 0) (set_at sets' n 0) back_to i

  set_three : Used p table offsets 3 → (i : ℕ) → i < 64 * n
      → set_at sets' n 3 i ≡ spread_by 1 h.first n (part_of marks 0 n) (spread_by h.first h.second n (part_of marks (2 * n) (3 * n)) (set_at sets' n 0)) i
  set_three used i l =
      unset.both (used_bit p table offsets worth 3 (uses 3) used) (empty 3 (omega arith) (omega arith)) i l
      ∙ ap₂ (λ (a b : ℕ). spread_by a b n (part_of marks 0 n) (spread_by w2 r2 n (part_of marks (2 * n) (3 * n)) (set_at sets n 0)) i) f1 e1
      ∙ ap₂ (λ (a b : ℕ). spread_by 1 h.first n (part_of marks 0 n) (spread_by a b n (part_of marks (2 * n) (3 * n)) (set_at sets n 0)) i) f2 e2
      ∙ spread_same 1 h.first n (part_of marks 0 n)
      (spread_by h.first h.second n (part_of marks (2 * n) (3 * n)) (set_at sets n 0))
      (spread_by h.first h.second n (part_of marks (2 * n) (3 * n)) (set_at sets' n 0))
      (λ y k. spread_same h.first h.second n (part_of marks (2 * n) (3 * n)) (set_at sets n 0) (set_at sets' n 0) back_to y) i

  -- of a number of the row
  agrees : (m : Monitor) → Given m table offsets h size n marks planes → (i : ℕ) → i < size → mem row i ≡ true
      → mem out i ≡ backward m heard (mem next) i
  unfolding shifted_down
  agrees m given i l member =
      lead.all i (omega (arith, given.ready.wide))
      ∙ moved_back p table offsets size planes sets' plan.back i
      ∙ ap (λ (x : Shape). rested_back p (ruled_from x table offsets) p.heard size sets' i || fired p table offsets sets' planes (transition_count table) i) plan.shape
      ∙ backward_agrees given.ready (planned given.ready plan) planes given.guarded plan.back row next (live_in given plan row alive)
      (part_of marks 0 n) (part_of marks n (2 * n)) (part_of marks (2 * n) (3 * n)) (part_of marks (3 * n) (4 * n))
      (low_first_lem given.marked) (high_first_lem given.marked) (low_second_lem given.marked) (high_second_lem given.marked) one two sets'
      (λ y k. second.all y (omega arith)) (λ y k. first.all y (omega arith)) kept set_one set_two set_three i l member
      ∙ ap (λ (x : Option ℕ). backward m x (mem next) i) plan.heard

  at_once : (m : Monitor) → Given m table offsets h size n marks planes → ((i : ℕ) → size ≤ i → mem row i ≡ false) → RetreatedTo m heard n next row row'
  at_once m given none i l = keep.all i (omega arith) ∙ by (mem row i) refl
    where
      small : Dec (i < size) → mem row i ≡ true → i < size
      small (yes k) e = k
      small (no k) e = absurd (false≢true (sym (none i (omega arith)) ∙ e))

      by : (x : Bool) → mem row i ≡ x → (x && mem out i) ≡ (x && backward m heard (mem next) i)
      by false e = refl
      by true e = agrees m given i (small (dec_lt i size) e) e

  -- .. whose number is told once more
  pub retreated : (m : Monitor) (k : ℕ) → Given m table offsets h size k marks planes → Within size k row → RetreatedTo m heard k next row row'
  retreated m k given within i l =
      let e : k ≡ n = sym within.words ∙ same in
      at_once m (subst (λ (x : ℕ). Given m table offsets h size x marks planes) e given) within.past i (omega arith)
