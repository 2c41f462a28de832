-- The moves of rows: permitted rows that end by T are those of moves that can be carried, one for each instant.
use Prim.Native.Nat.{ℕ, zero, suc, ◌+◌, ◌-◌, ◌<◌, ◌≤◌}
use native.Mathlib.Omega.{arith}
use native.Mathlib.Decide.{ℕ_discrete}
use mathlib.Core.Path.{◌≡◌, refl, sym, ap, subst, ◌∙◌}
use mathlib.Core.List.Memᴰ
use mathlib.Core.List.{List, [], ◌∷◌, ◌++◌, Memᴰ}
use mathlib.Core.Bool.{Bool, true, false, cond, not, ◌&&◌, false≢true}
use Rattle.std.specs.Prelude.{Option, Some, None}
use Rattle.std.specs.Option.{option_map}
use Rattle.std.proofs.lemmas.Option.{same_Some}
use Rattle.model.proofs.Options.{some-ne-none}
use lib.ListN.{length}
use lib.Dec.{eqb}
use borrow.Author.Tests.{eqb-true, eqb-false, leb-true, ltb-true, eq-eqb}
use Rattle.model.specs.Limits.{transition_limit}
use Rattle.model.specs.Monitor.{Monitor, wait, to_unit}
use Rattle.model.specs.Trace.{Packet}
use Rattle.model.specs.Recording.{end_of}
use Rattle.model.specs.Witness.{Row, kept, removed, added, no_transition, marked, is_removed, in_form, follows, in_place}
use Rattle.model.specs.Rules.{Progress, begin, none_before, is_next, none_at, others, sends, keeps, removes, adds, account, broken}
use Rattle.model.specs.Order.{EndsBy}
use Rattle.model.specs.Situation.{Move, keep, rest, add, move_of, move_limit, uncapped, first_by, trigger_of, recorded_at, rest_move, first_add}
use Rattle.model.specs.Validation.{rows_by, HasRows, rows_of}
use Rattle.model.specs.declared.Situation.{Situation}
use Rattle.model.proofs.Basics.{and_left, and_right, cond-some}
use Rattle.model.specs.Sane.{Sane, SaneRecording}
use Rattle.model.specs.Edition.{latest_time}
use Rattle.model.specs.declared.Edition.{Edition}
use Rattle.model.proofs.Chains.{Moves}
use Rattle.model.proofs.Instants.{move_of-keep, move_of-add, fires-trigger, trigger-number}
use Rattle.model.proofs.MoveRows.{Rising, Coming, quiet, heard, coming, Tied, tied_first, situation_at, accounts, one_row, instant}
use Rattle.model.proofs.RowLaws.{InForm, in_form_lem, passed, sends-fires, first-row}

-- what a row that keeps the rules says

-- a kept or added row fires a transition with its kind
record Sent (m : Monitor) (r : Row) (q : Progress) : Type 0 where
  before : q.before ≡ Some r
  trigger : trigger_of m r.transition ≡ Some r.kind

sends-sent : (m : Monitor) (p : Progress) (r : Row) (left : List Packet) (q : Progress) → sends m p r left ≡ Some q → Sent m r q
sends-sent m p r left q e =
    let h = sends-fires m p r left q e in
    record { before = ap (λ x. x.before) (sym h.2); trigger = fires-trigger m r.transition r.kind (wait (r.time - p.now) p.config) h.0 h.1 }

-- what a row is accounted for as
data Accounted (m : Monitor) (p : Progress) (r : Row) (q : Progress) : Type 0 where
  as_kept : r.mark ≡ kept → is_next p.left r ≡ true → Sent m r q → Accounted m p r q
  as_removed : r.mark ≡ removed → is_next p.left r ≡ true → q.before ≡ Some r → Accounted m p r q
  as_added : r.mark ≡ added → none_at p.left r.time ≡ true → Sent m r q → Accounted m p r q

accounted : (edition : Edition) (m : Monitor) (p : Progress) (r : Row) (q : Progress) → account edition m p r ≡ Some q → Accounted m p r q
unfolding account keeps removes adds
accounted edition m p r q e = go (eqb r.mark kept) refl (passed edition m p r q e).by
  where
    form : InForm r
    form = in_form_lem edition p.before r (passed edition m p r q e).placed

    not-kept : (r.mark ≡ kept → ⊥) → (b : Bool) → is_removed r ≡ b → cond b (removes m p r) (adds m p r) ≡ Some q → Accounted m p r q
    not-kept n true f h =
        let x = cond-some (is_next p.left r && to_unit m r.kind) _ q h in
        as_removed (eqb-true r.mark removed f) (and_left (is_next p.left r) (to_unit m r.kind) x.0) (ap (λ y. y.before) (sym (same_Some _ q x.1)))
    not-kept n false f h =
        let x = cond-some (none_at p.left r.time) _ q h in
        let g : r.mark ≡ removed → ⊥ = eqb-false r.mark removed f in
        as_added (omega (arith, form.mark)) x.0 (sends-sent m p r p.left q x.1)

    go : (b : Bool) → eqb r.mark kept ≡ b → cond b (keeps m p r) (cond (is_removed r) (removes m p r) (adds m p r)) ≡ Some q → Accounted m p r q
    go true f h =
        let x = cond-some (is_next p.left r) _ q h in
        as_kept (eqb-true r.mark kept f) x.0 (sends-sent m p r (others p.left) q x.1)
    go false f h = not-kept (eqb-false r.mark kept f) (is_removed r) refl h

-- rows that break no rule

no_rows : (edition : Edition) (m : Monitor) (p : Progress) (i : ℕ) → broken edition m p i [] ≡ None → p.left ≡ []
unfolding broken
no_rows edition m p i e = go p.left e
  where
    go : (l : List Packet) → ◌≡◌ {A = Option ℕ} (elim l [ [] ↦ None | q ∷ qs ↦ Some i ]) None → l ≡ []
    go [] h = refl
    go (q ∷ l) h = absurd (some-ne-none i h)

abbrev StartsAfter : ℕ → List Row → Type 0
StartsAfter t [] = Unit {0}
StartsAfter t (r ∷ rs) = t < r.time

-- times rise
starts_after : (edition : Edition) (m : Monitor) (q : Progress) (r : Row) (i : ℕ) (rs : List Row) → q.before ≡ Some r → broken edition m q i rs ≡ None → StartsAfter r.time rs
starts_after edition m q r i [] b e = tt
starts_after edition m q r i (s ∷ rs) b e =
    let x = first-row edition m q i s rs e in
    ltb-true r.time s.time (and_right (in_form edition s) (follows r s) (subst (λ o. in_place edition o s ≡ true) b (passed edition m q s x.0 x.1).placed))

not_next : (t : ℕ) (l : List Packet) (r : Row) → Rising t l → r.time ≤ t → is_next l r ≡ true → ⊥
not_next t [] r h g e = false≢true e
not_next t (p ∷ l) r h g e = let f : p.time ≡ r.time = eqb-true p.time r.time (and_left (eqb p.time r.time) (eqb p.kind r.kind) e) in omega arith

as_marked : (r : Row) (mark t k j : ℕ) → r.mark ≡ mark → r.time ≡ t → r.kind ≡ k → r.transition ≡ j → marked mark t k j ≡ r
as_marked r mark t k j a b c d = sym (λ i. marked (a i) (b i) (c i) (d i))

-- the rows of instant t + 1 are those of one move there
record Split (edition : Edition) (m : Monitor) (recording : List Packet) (t : ℕ) (p : Progress) (rows : List Row) : Type 0 where
  move : ℕ
  small : move < move_limit
  fits : HasRows m (recorded_at recording (suc t)) (move_of move)
  next : Progress
  comes : accounts edition m p (rows_by m (recorded_at recording (suc t)) (suc t) (move_of move)) ≡ Some next
  more : List Row
  parts : rows_by m (recorded_at recording (suc t)) (suc t) (move_of move) ++ more ≡ rows
  index : ℕ
  unbroken : broken edition m next index more ≡ None
  later : StartsAfter (suc t) more

module _ (edition : Edition) (m : Monitor) (recording : List Packet) (table : Sane m) (t : ℕ) (p : Progress) (tied : Tied recording t p) where
  split_by : (rows : List Row) (recorded : Option ℕ) (n : ℕ) (a : Move) → recorded_at recording (suc t) ≡ recorded → move_of n ≡ a → n < move_limit
      → HasRows m recorded a → (q : Progress) → accounts edition m p (rows_by m recorded (suc t) a) ≡ Some q
      → (more : List Row) → rows_by m recorded (suc t) a ++ more ≡ rows → (i : ℕ) → broken edition m q i more ≡ None → StartsAfter (suc t) more
      → Split edition m recording t p rows
  split_by rows recorded n a e f l g q c more r i u b =
      record {
        move = n;
        small = l;
        fits = rw (e, f) g;
        next = q;
        comes = rw (e, f) c;
        more = more;
        parts = rw (e, f) r;
        index = i;
        unbroken = u;
        later = b;
      }

  -- no row where none is recorded
  silent : (rows : List Row) (i : ℕ) → recorded_at recording (suc t) ≡ None → broken edition m p i rows ≡ None → StartsAfter (suc t) rows → Split edition m recording t p rows
  unfolding accounts rows_by move_of
  silent rows i e u b = split_by rows None rest_move rest e refl (omega arith) tt p refl rows refl i u b

  kept-first : (i : ℕ) (r : Row) (rs : List Row) (q : Progress) (k : ℕ) → recorded_at recording (suc t) ≡ Some k → r.time ≡ suc t → r.kind ≡ k
      → r.mark ≡ kept → account edition m p r ≡ Some q → broken edition m q i rs ≡ None → Sent m r q → Split edition m recording t p (r ∷ rs)
  unfolding rows_by
  kept-first i r rs q k e f g h c u s =
      split_by (r ∷ rs) (Some k) r.transition (keep r.transition) e (move_of-keep r.transition small) (omega (arith, small)) tt q
      (one_row edition m p (marked kept (suc t) k r.transition) ∙ ap (account edition m p) same ∙ c) rs (ap (λ x. x ∷ rs) same) i u
      (subst (λ x. StartsAfter x rs) f (starts_after edition m q r i rs s.before u))
    where
      small : r.transition < transition_limit
      small = trigger-number m table r.transition r.kind s.trigger

      same : marked kept (suc t) k r.transition ≡ r
      same = as_marked r kept (suc t) k r.transition h f g refl

  added-first : (i : ℕ) (r : Row) (rs : List Row) (q : Progress) → recorded_at recording (suc t) ≡ None → r.time ≡ suc t
      → r.mark ≡ added → account edition m p r ≡ Some q → broken edition m q i rs ≡ None → Sent m r q → Split edition m recording t p (r ∷ rs)
  unfolding rows_by
  added-first i r rs q e f h c u s =
      split_by (r ∷ rs) None (first_add + r.transition) (add r.transition) e (move_of-add r.transition)
      (omega (arith, trigger-number m table r.transition r.kind s.trigger)) (r.kind, s.trigger) q
      (rw s.trigger (one_row edition m p (marked added (suc t) r.kind r.transition) ∙ ap (account edition m p) same ∙ c)) rs (rw s.trigger (ap (λ x. x ∷ rs) same)) i u
      (subst (λ x. StartsAfter x rs) f (starts_after edition m q r i rs s.before u))
    where
      same : marked added (suc t) r.kind r.transition ≡ r
      same = as_marked r added (suc t) r.kind r.transition h f refl refl

  removed-first : (i : ℕ) (r : Row) (rs : List Row) (q : Progress) (k : ℕ) → recorded_at recording (suc t) ≡ Some k → r.time ≡ suc t → r.kind ≡ k
      → r.mark ≡ removed → account edition m p r ≡ Some q → broken edition m q i rs ≡ None → q.before ≡ Some r → Split edition m recording t p (r ∷ rs)
  unfolding rows_by move_of
  removed-first i r rs q k e f g h c u b =
      split_by (r ∷ rs) (Some k) rest_move rest e refl (omega arith) tt q
      (one_row edition m p (marked removed (suc t) k no_transition) ∙ ap (account edition m p) same ∙ c) rs (ap (λ x. x ∷ rs) same) i u
      (subst (λ x. StartsAfter x rs) f (starts_after edition m q r i rs b u))
    where
      same : marked removed (suc t) k no_transition ≡ r
      same = as_marked r removed (suc t) k no_transition h f g ((in_form_lem edition p.before r (passed edition m p r q c).placed).transition h)

  -- the kind of the next recorded row
  next_kind : (r : Row) (k : ℕ) (l : List Packet) → p.left ≡ record { time = suc t; kind = k } ∷ l → is_next p.left r ≡ true → r.kind ≡ k
  next_kind r k l e f = sym (eqb-true k r.kind (and_right (eqb (suc t) r.time) (eqb k r.kind) (subst (λ x. is_next x r ≡ true) e f)))

  here : (i : ℕ) (r : Row) (rs : List Row) (q : Progress) → r.time ≡ suc t → account edition m p r ≡ Some q → broken edition m q i rs ≡ None
      → Coming recording t p.left → Accounted m p r q → Split edition m recording t p (r ∷ rs)
  here i r rs q e c u (quiet f a) (as_kept g n s) = absurd (not_next (suc t) p.left r a.rising (omega arith) n)
  here i r rs q e c u (quiet f a) (as_removed g n b) = absurd (not_next (suc t) p.left r a.rising (omega arith) n)
  here i r rs q e c u (quiet f a) (as_added g n s) = added-first i r rs q f e g c u s
  here i r rs q e c u (heard k l f x a) (as_kept g n s) = kept-first i r rs q k f e (next_kind r k l x n) g c u s
  here i r rs q e c u (heard k l f x a) (as_removed g n b) = removed-first i r rs q k f e (next_kind r k l x n) g c u b
  here i r rs q e c u (heard k l f x a) (as_added g n s) =
      absurd (false≢true (sym (ap not (eq-eqb (suc t) r.time (sym e))) ∙ subst (λ y. none_at y r.time ≡ true) x n))

  split : (i : ℕ) (rows : List Row) → broken edition m p i rows ≡ None → StartsAfter t rows → Split edition m recording t p rows
  split i [] u a = go (coming recording t p.left tied.ahead)
    where
      go : Coming recording t p.left → Split edition m recording t p []
      go (quiet e b) = silent [] i e u tt
      go (heard k l e f b) = absurd (let z : ◌≡◌ {A = ℕ} 0 1 = cc (no_rows edition m p i u) in omega arith)
  split i (r ∷ rs) u a = go (ℕ_discrete r.time (suc t)) (coming recording t p.left tied.ahead)
    where
      first : (q : Progress) × (account edition m p r ≡ Some q) × (broken edition m q (suc i) rs ≡ None)
      first = first-row edition m p i r rs u

      go : Dec (r.time ≡ suc t) → Coming recording t p.left → Split edition m recording t p (r ∷ rs)
      go (yes e) c = here (suc i) r rs first.0 e first.1 first.2 c (accounted edition m p r first.0 first.1)
      go (no n) (quiet e b) = silent (r ∷ rs) i e u (omega arith)
      go (no n) (heard k l e f b) =
          absurd
          (let g : r.time ≤ suc t = leb-true r.time (suc t) (subst (λ y. none_before y r.time ≡ true) f (passed edition m p r first.0 first.1).turn) in
          omega arith)

module _ (edition : Edition) (m : Monitor) (recording : List Packet) (table : Sane m) (sane : SaneRecording m recording) (fits : end_of recording ≤ latest_time edition) where
  rows-moves : (left t : ℕ) (p : Progress) (i : ℕ) (rows : List Row) → left + t ≡ end_of recording → Tied recording t p → broken edition m p i rows ≡ None
      → EndsBy (end_of recording) rows → StartsAfter t rows
      → (ks : List ℕ) × (z : Situation) × (length ks ≡ left) × Moves m recording t (situation_at t p) ks z × (rows_of m recording (suc t) ks ≡ rows)
  unfolding rows_of
  rows-moves zero t p i [] e tied u ends a = ([], situation_at t p, refl, refl, refl)
  rows-moves zero t p i (r ∷ rs) e tied u ends a = absurd (omega (arith, ends r (Memᴰ.head refl)))
  rows-moves (suc left) t p i rows e tied u ends a =
      let s = split edition m recording table t p tied i rows u a in
      let now = instant edition m recording t p (omega arith) tied (move_of s.move) s.fits in
      let x = rows-moves left (suc t) s.next s.index s.more (omega arith) (now.next s.next s.comes) s.unbroken (later-ends s) s.later in
      (s.move ∷ x.0, x.1, ap suc x.2, (situation_at (suc t) s.next, s.small, now.step ∙ ap (option_map (situation_at (suc t))) s.comes, x.3), joins s x.0 x.4)
    where
      later-ends : (s : Split edition m recording t p rows) → EndsBy (end_of recording) s.more
      later-ends s r h = ends r (subst (Memᴰ r) s.parts (Memᴰ.append_right (rows_by m (recorded_at recording (suc t)) (suc t) (move_of s.move)) h))

      joins : (s : Split edition m recording t p rows) (ks : List ℕ) → rows_of m recording (suc (suc t)) ks ≡ s.more
          → rows_by m (recorded_at recording (suc t)) (suc t) (move_of s.move) ++ rows_of m recording (suc (suc t)) ks ≡ rows
      joins s ks h = ap (λ l. rows_by m (recorded_at recording (suc t)) (suc t) (move_of s.move) ++ l) h ∙ s.parts

pub permitted-moves : (edition : Edition) (m : Monitor) (recording : List Packet) → Sane m → SaneRecording m recording → end_of recording ≤ latest_time edition → (rows : List Row)
    → broken edition m (begin recording) 0 rows ≡ None → EndsBy (end_of recording) rows
    → (ks : List ℕ) × (z : Situation) × (length ks ≡ end_of recording) × Moves m recording 0 (first_by uncapped) ks z × (rows_of m recording 1 ks ≡ rows)
permitted-moves edition m recording table sane fits rows u ends =
    rows-moves edition m recording table sane fits (end_of recording) 0 (begin recording) 0 rows (omega arith) (tied_first m recording sane) u ends (go rows u)
  where
    go : (l : List Row) → broken edition m (begin recording) 0 l ≡ None → StartsAfter 0 l
    go [] h = tt
    go (r ∷ l) h = let x = first-row edition m (begin recording) 0 r l h in (in_form_lem edition None r (passed edition m (begin recording) r x.0 x.1).placed).time
