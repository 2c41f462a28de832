-- One instant forward: what the steps of `advance` ensure comes to, where the table is sound. Assumes nothing.
use Rattle.std.specs.Prelude.{Option}
use mathlib.Core.Path.{◌≡◌, refl, sym, ap, ap₂, subst, ◌∙◌}
use mathlib.Core.List.{List}
use mathlib.Core.Bool.{Bool, true, false, not, ◌&&◌, ◌||◌, false≢true}
use Prim.Native.Nat.{ℕ, ◌*◌, ◌≤◌, ◌<◌}
use native.Mathlib.Omega.{arith}
use lib.Dec.{ltb}
use lib.ListN.{length}
use Rattle.model.specs.Monitor.{Monitor}
use Rattle.monitor.specs.From.{transition_count}
use Rattle.words.specs.Words.{bit, mem, Is}
use Rattle.shifts.specs.Shifted.{shifted}
use Rattle.situation.specs.Ruled.{ruled_from}
use Rattle.situation.specs.declared.Shape.{Shape}
use Rattle.instants.specs.Forward.{forward}
use Rattle.firings.specs.Fired.{fired}
use Rattle.firings.specs.Rested.{rested}
use Rattle.firings.specs.Folded.{reset_sets}
use Rattle.firings.specs.Ready.{Live}
use Rattle.firings.specs.declared.Plan.{Plan}
use Rattle.firings.proofs.ForwardAgrees.{forward_agrees}
use Rattle.images.specs.Advanced.{Given, Within, AdvancedTo}
use Rattle.images.specs.Buffers.{Lengths, Sized}
use Rattle.images.specs.Living.{is_live}
use Rattle.images.specs.Moved.{moved}
use Rattle.images.proofs.RangeLaws.{moved_forward}
use Rattle.images.specs.Planning.{PlanOf}
use Rattle.images.proofs.Plans.{planned, living}
use Rattle.images.proofs.Marking.{part_of, low_first_lem, high_first_lem, low_second_lem, high_second_lem}

-- what a test that is passed ensures, and that it is passed where it ensures so
pub passed : {A : Type 0} (b : Bool) → not b ≡ false → (b ≡ true → A) → A
passed true e f = f refl
passed false e f = absurd (false≢true (sym e))

pub failed : {A : Type 0} (b : Bool) → not b ≡ true → (A → b ≡ true) → A → ⊥
failed true e f x = false≢true e
failed false e f x = false≢true (f x)

-- where a table is sound and buffers have their lengths, these fit
pub lengths_fit : {m : Monitor} {table offsets : List ℕ} {h : Shape} {size n : ℕ} {marks planes s b one two : List ℕ}
    → Given m table offsets h size n marks planes → Within size n s → Sized n b one two
    → Lengths (length s) size (length marks) (length b) (length one) (length two) h
lengths_fit given within sized =
    record {
      few = omega (arith, within.words, sized.few);
      narrow = given.ready.narrow;
      marked = omega (arith, within.words, given.long);
      sets = omega (arith, within.words, sized.four);
      single = sized.first ∙ sym within.words;
      spare = sized.second ∙ sym within.words;
      first = omega (arith, given.ready.fits.first);
      second = omega (arith, given.ready.fits.second);
    }

-- a mask of the states that have a situation in a set
abbrev pub Alive : Shape → List ℕ → (live : ℕ) → Type 0
Alive h s live = (q : ℕ) → q < 64 → bit live q ≡ (ltb q h.states && is_live h s q)

module _ {m : Monitor} {table offsets : List ℕ} {h : Shape} {size n : ℕ} {marks planes : List ℕ} (given : Given m table offsets h size n marks planes)
    {heard : Option ℕ} {live : ℕ} {back : Bool} {p : Plan} (plan : PlanOf h heard live n back p) (s : List ℕ) (alive : Alive h s live) where
  pub live_in : Live m p.live (mem s)
  live_in = subst (λ (x : ℕ). Live m x (mem s)) (sym plan.live) (living given.ready live s given.ready.few alive)

-- what each step ensures, of sets of n words
module _ (table offsets : List ℕ) (h : Shape) (size n : ℕ) (marks planes : List ℕ) (heard : Option ℕ) (live : ℕ) (p : Plan) (plan : PlanOf h heard live n false p)
    (src : List ℕ) (alive : Alive h src live) (r1 r2 : ℕ) (e1 : r1 ≡ h.first) (e2 : r2 ≡ h.second)
    (acc0 acc acc' one0 one cur : List ℕ) (four : length acc0 ≡ 4 * n) (single : length one0 ≡ n) (same : length src ≡ n)
    (gathered : Is (moved p table offsets size planes src) acc0 acc)
    (reset : (i : ℕ) → i < 64 * n → mem acc' i ≡ reset_sets r1 r2 n (part_of marks 0 n) (part_of marks (2 * n) (3 * n)) acc i)
    (first : Is (shifted acc' 1 (part_of marks n (2 * n)) (part_of marks 0 n)) one0 one)
    (second : Is (shifted one h.first (part_of marks (3 * n) (4 * n)) (part_of marks (2 * n) (3 * n))) src cur) where
  at_once : (m : Monitor) → Given m table offsets h size n marks planes → ((i : ℕ) → size ≤ i → mem src i ≡ false) → AdvancedTo m heard n src cur
  unfolding shifted
  at_once m given none i l =
      forward_agrees given.ready (planned given.ready plan) planes given.guarded plan.back src none (live_in given plan src alive)
      (part_of marks 0 n) (part_of marks n (2 * n)) (part_of marks (2 * n) (3 * n)) (part_of marks (3 * n) (4 * n))
      (low_first_lem given.marked) (high_first_lem given.marked) (low_second_lem given.marked) (high_second_lem given.marked) acc
      (λ y k.
      gathered.all y (omega arith)
      ∙ moved_forward p table offsets size planes src plan.back y
      ∙ ap (λ (x : Shape). rested p (ruled_from x table offsets) p.heard size src y || fired p table offsets src planes (transition_count table) y) plan.shape)
      acc' one cur
      (λ y k. reset y k ∙ ap₂ (λ (a b : ℕ). reset_sets a b n (part_of marks 0 n) (part_of marks (2 * n) (3 * n)) acc y) e1 e2)
      (λ y k. first.all y (omega arith))
      (λ y k. second.all y (omega arith))
      i l
      ∙ ap (λ (x : Option ℕ). forward m x (mem src) i) plan.heard

  -- .. whose number is told once more
  pub advanced : (m : Monitor) (k : ℕ) → Given m table offsets h size k marks planes → Within size k src → AdvancedTo m heard k src cur
  advanced m k given within i l =
      let e : k ≡ n = sym within.words ∙ same in
      at_once m (subst (λ (x : ℕ). Given m table offsets h size x marks planes) e given) within.past i (omega arith)
