-- The witnesses of two lists of moves come in the order of the moves.
use Prim.Native.Nat.{ℕ, suc, ◌+◌, ◌-◌, ◌<◌, ◌≤◌}
use native.Mathlib.Omega.{arith}
use mathlib.Core.Path.{◌≡◌, refl, sym, ap, ◌∙◌}
use mathlib.Core.List.{List, [], ◌∷◌, ◌++◌, append-nil}
use mathlib.Core.Bool.{Bool, true, false, cond}
use Rattle.std.specs.Prelude.{Option, Some, None}
use Rattle.std.specs.Option.{option_map, option_and_then}
use mathlib.Core.Logic.{inl, inr}
use lib.Dec.{ltb, eqb}
use borrow.Author.Tests.{ltb-true, ltb-false, eqb-true, eqb-false, eq-eqb, ne_eqb}
use Rattle.model.specs.Monitor.{Monitor}
use Rattle.model.specs.Trace.{Packet}
use Rattle.model.specs.Witness.{Row, kept, removed, added, no_transition}
use Rattle.model.specs.Situation.{Move, keep, rest, add, move_of, moved, step_by, tick, uncapped, recorded_at, trigger_of, rest_move, first_add}
use Rattle.model.specs.Validation.{row_for, rows_by, rows_of}
use Rattle.model.specs.Order.{Choice, keeping, nothing, adding, rows_on, choice, Sooner, Before}
use Rattle.model.specs.declared.Situation.{Situation}
use Rattle.model.proofs.Chains.{Moves, Less}

-- the rows of one instant

rows_on-append : (t : ℕ) (a b : List Row) → rows_on t (a ++ b) ≡ rows_on t a ++ rows_on t b
unfolding rows_on
rows_on-append t [] b = refl
rows_on-append t (r ∷ rs) b = go (eqb r.time t) (rows_on-append t rs b)
  where
    go : (here : Bool) → rows_on t (rs ++ b) ≡ rows_on t rs ++ rows_on t b → cond here (r ∷ rows_on t (rs ++ b)) (rows_on t (rs ++ b)) ≡ cond here (r ∷ rows_on t rs) (rows_on t rs) ++ rows_on t b
    go true e = ap (λ (l : List Row). r ∷ l) e
    go false e = e

-- all rows have the time t
abbrev pub At : ℕ → List Row → Type 0
At t [] = Unit {0}
At t (r ∷ rs) = (r.time ≡ t) × At t rs

rows_on-same : (t : ℕ) (rows : List Row) → At t rows → rows_on t rows ≡ rows
unfolding rows_on
rows_on-same t [] h = refl
rows_on-same t (r ∷ rs) h = rw (eq-eqb r.time t h.0) (ap (λ (l : List Row). r ∷ l) (rows_on-same t rs h.1))

rows_on_other : (t u : ℕ) (rows : List Row) → At t rows → (t ≡ u → ⊥) → rows_on u rows ≡ []
unfolding rows_on
rows_on_other t u [] h n = refl
rows_on_other t u (r ∷ rs) h n = rw (ne_eqb r.time u (λ e. n (sym h.0 ∙ e))) (rows_on_other t u rs h.1 n)

row_for_at : (mark t : ℕ) (o : Option ℕ) (j : ℕ) → At t (row_for mark t o j)
row_for_at mark t None j = tt
row_for_at mark t (Some k) j = (refl, tt)

pub rows_by_at : (m : Monitor) (recorded : Option ℕ) (t : ℕ) (a : Move) → At t (rows_by m recorded t a)
unfolding rows_by
rows_by_at m recorded t (keep j) = row_for_at kept t recorded j
rows_by_at m recorded t rest = row_for_at removed t recorded no_transition
rows_by_at m recorded t (add j) = row_for_at added t (trigger_of m j) j

module _ (m : Monitor) (recording : List Packet) (t k : ℕ) (ks : List ℕ) where
  rows_on-rows_of : (u : ℕ) → rows_on u (rows_of m recording t (k ∷ ks)) ≡ rows_on u (rows_by m (recorded_at recording t) t (move_of k)) ++ rows_on u (rows_of m recording (suc t) ks)
  unfolding rows_of
  rows_on-rows_of u = rows_on-append u (rows_by m (recorded_at recording t) t (move_of k)) (rows_of m recording (suc t) ks)

  -- at an instant that is not the first move's
  rows_of-behind : (u : ℕ) → (t ≡ u → ⊥) → rows_on u (rows_of m recording t (k ∷ ks)) ≡ rows_on u (rows_of m recording (suc t) ks)
  rows_of-behind u n =
      rows_on-rows_of u
      ∙ ap (λ (l : List Row). l ++ rows_on u (rows_of m recording (suc t) ks)) (rows_on_other t u (rows_by m (recorded_at recording t) t (move_of k)) (rows_by_at m (recorded_at recording t) t (move_of k)) n)

-- moves have no rows before their first instant
rows_of-later : (m : Monitor) (recording : List Packet) (t u : ℕ) (ks : List ℕ) → u < t → rows_on u (rows_of m recording t ks) ≡ []
unfolding rows_of rows_on
rows_of-later m recording t u [] h = refl
rows_of-later m recording t u (k ∷ ks) h = rows_of-behind m recording t k ks u (λ e. omega arith) ∙ rows_of-later m recording (suc t) u ks (omega arith)

-- at the first instant there are the first move's rows alone
rows_of-now : (m : Monitor) (recording : List Packet) (t k : ℕ) (ks : List ℕ) → rows_on t (rows_of m recording t (k ∷ ks)) ≡ rows_by m (recorded_at recording t) t (move_of k)
rows_of-now m recording t k ks =
    rows_on-rows_of m recording t k ks t
    ∙ rw (rows_of-later m recording (suc t) t ks (omega arith)) (append-nil _ ∙ rows_on-same t (rows_by m (recorded_at recording t) t (move_of k)) (rows_by_at m (recorded_at recording t) t (move_of k)))

-- a move and its choice

abbrev chosen : Move → Choice
chosen (keep j) = keeping j
chosen rest = nothing
chosen (add j) = adding j

-- an added row has a trigger
choice-added : (t j : ℕ) (a : Option ℕ) (send : ℕ → Option Situation) {x : Situation} → option_map (tick uncapped) (option_and_then send a) ≡ Some x → choice (row_for added t a j) ≡ adding j
unfolding choice
choice-added t j None send {x} e = let z : ◌≡◌ {A = ℕ} 0 1 = cc in absurd (omega arith)
choice-added t j (Some a) send e = refl

-- a move that can be made comes to its choice
choice_by : (m : Monitor) (recorded : Option ℕ) (t : ℕ) (a : Move) (s x : Situation) → step_by m uncapped recorded s a ≡ Some x → choice (rows_by m recorded t a) ≡ chosen a
unfolding step_by moved rows_by choice
choice_by m None t (keep j) s x e = let z : ◌≡◌ {A = ℕ} 0 1 = cc in absurd (omega arith)
choice_by m (Some k) t (keep j) s x e = refl
choice_by m None t rest s x e = refl
choice_by m (Some k) t rest s x e = refl
choice_by m None t (add j) s x e = choice-added t j (trigger_of m j) _ e
choice_by m (Some k) t (add j) s x e = let z : ◌≡◌ {A = ℕ} 0 1 = cc in absurd (omega arith)

-- the number of a move
abbrev MoveNumber : ℕ → Move → Type 0
MoveNumber k (keep j) = (k ≡ j) × (k < rest_move)
MoveNumber k rest = k ≡ rest_move
MoveNumber k (add j) = k ≡ first_add + j

move_number : (k : ℕ) → MoveNumber k (move_of k)
unfolding move_of
move_number k = go (ltb k rest_move) (eqb k rest_move) refl refl
  where
    go : (low mid : Bool) → ltb k rest_move ≡ low → eqb k rest_move ≡ mid → MoveNumber k (cond low (keep k) (cond mid rest (add (k - first_add))))
    go true mid e f = (refl, ltb-true k rest_move e)
    go false true e f = eqb-true k rest_move f
    go false false e f = let h : rest_move ≤ k = ltb-false k rest_move e in let n : k ≡ rest_move → ⊥ = eqb-false k rest_move f in omega arith

-- a lower number is the sooner choice
sooner-number : (k l : ℕ) (a b : Move) → MoveNumber k a → MoveNumber l b → k < l → Sooner (chosen a) (chosen b)
sooner-number k l (keep i) (keep j) p q h = omega arith
sooner-number k l (keep i) rest p q h = tt
sooner-number k l (keep i) (add j) p q h = tt
sooner-number k l rest (keep j) p q h = absurd (omega arith)
sooner-number k l rest rest p q h = absurd (omega arith)
sooner-number k l rest (add j) p q h = tt
sooner-number k l (add i) (keep j) p q h = absurd (omega arith)
sooner-number k l (add i) rest p q h = absurd (omega arith)
sooner-number k l (add i) (add j) p q h = omega arith

-- the rows of two lists of moves

-- the first difference is not before the instant t
abbrev BeforeFrom : ℕ → List Row → List Row → Type 0
BeforeFrom t w v = (b : Before w v) × (t ≤ b.instant)

-- the general form: the first moves are at instant t + 1
moves_before : (m : Monitor) (recording : List Packet) (t : ℕ) (ks ls : List ℕ) (s z r y : Situation) →
    Moves m recording t s ks z → Moves m recording t r ls y → Less ks ls → BeforeFrom (suc t) (rows_of m recording (suc t) ks) (rows_of m recording (suc t) ls)
moves_before m recording t [] ls s z r y p q h = absurd h
moves_before m recording t (k ∷ ks) [] s z r y p q h = absurd h
moves_before m recording t (k ∷ ks) (l ∷ ls) s z r y p q (inl h) = (
  record {
    instant = suc t;
    alike = λ u b. rows_of-later m recording (suc t) u (k ∷ ks) b ∙ sym (rows_of-later m recording (suc t) u (l ∷ ls) b);
    sooner =
        rw (rows_of-now m recording (suc t) k ks, rows_of-now m recording (suc t) l ls)
        (rw (choice_by m (recorded_at recording (suc t)) (suc t) (move_of k) s p.0 p.2, choice_by m (recorded_at recording (suc t)) (suc t) (move_of l) r q.0 q.2)
        (sooner-number k l (move_of k) (move_of l) (move_number k) (move_number l) h));
  },
  omega arith,
)
moves_before m recording t (k ∷ ks) (l ∷ ls) s z r y p q (inr h) =
    let (b, late) = moves_before m recording (suc t) ks ls p.0 z q.0 y p.3 q.3 h.1 in (
      record {
        instant = b.instant;
        alike = λ u c. let same = b.alike u c in cc (rows_on-rows_of m recording (suc t) k ks u, rows_on-rows_of m recording (suc t) l ls u);
        sooner = rw (rows_of-behind m recording (suc t) k ks b.instant (λ e. omega arith), rows_of-behind m recording (suc t) l ls b.instant (λ e. omega arith)) b.sooner;
      },
      omega arith,
    )

pub rows_before : (m : Monitor) (recording : List Packet) (ks ls : List ℕ) (s z r y : Situation) →
    Moves m recording 0 s ks z → Moves m recording 0 r ls y → Less ks ls → Before (rows_of m recording 1 ks) (rows_of m recording 1 ls)
rows_before m recording ks ls s z r y p q h = (moves_before m recording 0 ks ls s z r y p q h).0
