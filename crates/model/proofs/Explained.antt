-- Demand 2 in the paper's words: a formed witness breaks no rule exactly when it explains the recording.
use Prim.Native.Nat.{ℕ, zero, suc, ◌-◌, ◌≤◌}
use native.Mathlib.Omega.{arith}
use mathlib.Core.Path.{◌≡◌, refl, sym, ap, subst, ◌∙◌}
use mathlib.Core.List.Memᴰ
use mathlib.Core.List.{List, [], ◌∷◌, Memᴰ}
use mathlib.Core.Bool.{Bool, true, false, cond, not, ◌&&◌, false≢true}
use Rattle.std.specs.Prelude.{Option, Some, None}
use mathlib.Core.Logic.{◌↔◌, ⊎_elim}
use lib.Dec.{leb, eqb}
use borrow.Author.Tests.{ltb-true, leb-true, eqb-true, le-leb, eq-eqb, ne_eqb}
use Rattle.model.specs.Rule.{no_rule, window_behind, allows}
use Rattle.model.specs.Monitor.{Monitor, Config, wait, fires, to_unit, within_rule}
use Rattle.model.specs.Trace.{Packet, PacketTrace}
use Rattle.model.specs.Witness.{Row, kept, removed, added, is_removed, in_form, follows, in_place, misformed, Formed, marked}
use Rattle.model.specs.Rules.{Progress, begin, none_before, is_next, none_at, others, behind_row, guessed, sends, removes, keeps, adds, account, broken}
use Rattle.model.specs.Claims.{packet_of, heard, sent_rows, packets, CarriedBy, Explains, guesses, ExplainsUnder}
use Rattle.model.specs.declared.Edition.{Edition}
use Rattle.model.proofs.Basics.{and_left, and_right, both_true, cond-some}
use Rattle.model.proofs.RowLaws.{in_form_lem, by_mark, passed, behind_sent, sends-fires, first-row}
use Rattle.model.proofs.RuleLaws.{Keeping, row_by_row, no_rule_kept}
use Rattle.model.proofs.Spacing.{free_after, TraceFrom, trace-from, from_earlier, spaced-from}

-- tests and options

module _ {A : Type 0} where
  cond_true : (t : Bool) (o : Option A) → t ≡ true → cond t o None ≡ o
  cond_true true o e = refl
  cond_true false o e = absurd (false≢true e)

-- the form of rows

misformed_cons : (edition : Edition) (b : Option Row) (i : ℕ) (r : Row) (rs : List Row) → misformed edition b i (r ∷ rs) ≡ None → (in_place edition b r ≡ true) × (misformed edition (Some r) (suc i) rs ≡ None)
unfolding misformed
misformed_cons edition b i r rs e = go (in_place edition b r) refl
  where
    go : (t : Bool) → in_place edition b r ≡ t → (in_place edition b r ≡ true) × (misformed edition (Some r) (suc i) rs ≡ None)
    go true h = (h, cc)
    go false h = let z : ◌≡◌ {A = ℕ} 0 1 = cc in absurd (omega arith)

-- the first of the rows, if there is one, is not before u
abbrev From : ℕ → List Row → Type 0
From u [] = Unit {0}
From u (r ∷ rs) = u ≤ r.time

from_down : (u v : ℕ) (rows : List Row) → u ≤ v → From v rows → From u rows
from_down u v [] h f = tt
from_down u v (r ∷ rs) h f = omega arith

-- behind a row, each row is later
from_past : (edition : Edition) (b : Row) (i : ℕ) (rs : List Row) → misformed edition (Some b) i rs ≡ None → From (suc b.time) rs
from_past edition b i [] e = tt
from_past edition b i (r ∷ rs) e = ltb-true b.time r.time (and_right (in_form edition r) (follows b r) (misformed_cons edition (Some b) i r rs e).0)

-- the recorded rows are not before u either
heard-from : (edition : Edition) (u : ℕ) (b : Option Row) (i : ℕ) (rows : List Row) → misformed edition b i rows ≡ None → From u rows → none_before (heard rows) u ≡ true
unfolding heard
heard-from edition u b i [] e h = refl
heard-from edition u b i (r ∷ rs) e h = go (eqb r.mark added) (heard-from edition u (Some r) (suc i) rs e' (from_down u (suc r.time) rs (omega arith) (from_past edition r (suc i) rs e')))
  where
    e' : misformed edition (Some r) (suc i) rs ≡ None
    e' = (misformed_cons edition b i r rs e).1

    go : (t : Bool) → none_before (heard rs) u ≡ true → none_before (cond t (heard rs) (packet_of r ∷ heard rs)) u ≡ true
    go true again = again
    go false again = le-leb u r.time h

none_at_lem : (left : List Packet) (t : ℕ) → none_before left (suc t) ≡ true → none_at left t ≡ true
none_at_lem [] t e = refl
none_at_lem (p ∷ ps) t e = let h : suc t ≤ p.time = leb-true (suc t) p.time e in ap not (ne_eqb p.time t (λ q. omega arith))

-- a row that equals the next unaccounted one
next_cons : (left : List Packet) (r : Row) → is_next left r ≡ true → left ≡ packet_of r ∷ others left
next_cons [] r e = absurd (false≢true e)
next_cons (p ∷ ps) r e =
    let t : p.time ≡ r.time = eqb-true p.time r.time (and_left _ _ e) in
    let k : p.kind ≡ r.kind = eqb-true p.kind r.kind (and_right (eqb p.time r.time) (eqb p.kind r.kind) e) in
    λ i. record { time = t i; kind = k i } ∷ ps

-- the rows explain what is left behind p
record Continues (m : Monitor) (p : Progress) (rows : List Row) : Type 0 where
  accounts : heard rows ≡ p.left
  inbound : (r : Row) → Memᴰ r rows → r.mark ≡ removed → to_unit m r.kind ≡ true
  clear : TraceFrom m p.free (packets rows)
  carried : CarriedBy m p.now p.config (sent_rows rows)
  kept : Keeping m.rule p.window (guesses m (sent_rows rows))

module _ (m : Monitor) (p : Progress) (r : Row) (left : List Packet) where
  sent_continues : (rs : List Row) (q : Progress) → sends m p r left ≡ Some q → Continues m q rs
      → (heard rs ≡ left)
      × TraceFrom m (free_after m (packet_of r)) (packets rs)
      × CarriedBy m p.now p.config (r ∷ sent_rows rs)
      × Keeping m.rule p.window (guesses m (r ∷ sent_rows rs))
  unfolding guesses
  sent_continues rs q e c =
      let g = sends-fires m p r left q e in
      let d : Continues m (behind_sent m p r left g.0) rs = subst (λ x. Continues m x rs) (sym g.2) c in
      (d.accounts, d.clear, (g.0, g.1, d.carried), (g.3, d.kept))

  some-sends : (c : Config) → fires m r.transition r.kind (wait (r.time - p.now) p.config) ≡ Some c
      → allows m.rule p.window (guessed m r) ≡ true → sends m p r left ≡ Some (behind_sent m p r left c)
  unfolding sends within_rule
  some-sends c e a = rw (e, a)

-- removed rows are to the unit: the first, and those behind it
inbound_cons : (m : Monitor) (r : Row) (rs : List Row) → (r.mark ≡ removed → to_unit m r.kind ≡ true) →
    ((s : Row) → Memᴰ s rs → s.mark ≡ removed → to_unit m s.kind ≡ true) → (s : Row) → Memᴰ s (r ∷ rs) → s.mark ≡ removed → to_unit m s.kind ≡ true
inbound_cons m r rs now behind s i e = ⊎_elim (λ q. here q) (λ l. behind s l e) (Memᴰ.cases_cons i)
  where
    here : s ≡ r → to_unit m s.kind ≡ true
    here q = ap (λ x. to_unit m x.kind) q ∙ now (ap (λ x. x.mark) (sym q) ∙ e)

-- one row, forwards

abbrev removed_to : Monitor → Progress → Row → Progress
removed_to m p r = behind_row m r (others p.left) p.now p.window p.config

module _ (edition : Edition) (m : Monitor) (rs : List Row) where
  continues_cons : (mark t k j : ℕ) (p q : Progress) → account edition m p (marked mark t k j) ≡ Some q → Continues m q rs → Continues m p (marked mark t k j ∷ rs)
  unfolding keeps removes adds heard sent_rows packets
  continues_cons zero t k j p q e c =
      let r : Row = marked 0 t k j in
      let a = passed edition m p r q e in
      let n = cond-some (is_next p.left r) (sends m p r (others p.left)) q a.by in
      let f = sent_continues m p r (others p.left) rs q n.1 c in
      record {
        accounts = ap (λ (l : List Packet). packet_of r ∷ l) f.0 ∙ sym (next_cons p.left r n.0);
        inbound = inbound_cons m r rs (λ z. absurd (omega arith)) c.inbound;
        clear = (a.free, (spaced-from m (packet_of r) (packets rs)).1 f.1);
        carried = f.2;
        kept = f.3;
      }
  continues_cons (suc zero) t k j p q e c =
      let r : Row = marked 1 t k j in
      let a = passed edition m p r q e in
      let n = cond-some (is_next p.left r && to_unit m k) (Some (removed_to m p r)) q a.by in
      let same : removed_to m p r ≡ q = cc in
      let d : Continues m (removed_to m p r) rs = subst (λ x. Continues m x rs) (sym same) c in
      record {
        accounts = ap (λ (l : List Packet). packet_of r ∷ l) d.accounts ∙ sym (next_cons p.left r (and_left _ _ n.0));
        inbound = inbound_cons m r rs (λ z. and_right (is_next p.left r) (to_unit m k) n.0) d.inbound;
        clear = (a.free, (spaced-from m (packet_of r) (packets rs)).1 d.clear);
        carried = d.carried;
        kept = d.kept;
      }
  continues_cons (suc (suc zero)) t k j p q e c =
      let r : Row = marked 2 t k j in
      let a = passed edition m p r q e in
      let n = cond-some (none_at p.left t) (sends m p r p.left) q a.by in
      let f = sent_continues m p r p.left rs q n.1 c in
      record {
        accounts = f.0;
        inbound = inbound_cons m r rs (λ z. absurd (omega arith)) c.inbound;
        clear = (a.free, (spaced-from m (packet_of r) (packets rs)).1 f.1);
        carried = f.2;
        kept = f.3;
      }
  continues_cons (suc (suc (suc n))) t k j p q e c =
      let r : Row = marked (suc (suc (suc n))) t k j in
      let h : suc (suc (suc n)) ≤ 2 = (in_form_lem edition p.before r (passed edition m p r q e).placed).mark in
      absurd (omega arith)

-- one row, backwards

record Accounted (edition : Edition) (m : Monitor) (p : Progress) (r : Row) (rs : List Row) : Type 0 where
  next : Progress
  accounted : account edition m p r ≡ Some next
  last : next.before ≡ Some r
  continues : Continues m next rs

module _ (edition : Edition) (m : Monitor) (p : Progress) (r : Row) (rs : List Row) (i : ℕ) where
  -- a row in form behind those that explain the recording so far: its mark's rule decides
  account-ready : misformed edition p.before i (r ∷ rs) ≡ None → heard (r ∷ rs) ≡ p.left → p.free ≤ r.time →
      account edition m p r ≡ by_mark m p r
  unfolding account
  account-ready e a free =
      cond_true (in_place edition p.before r && none_before p.left r.time && leb p.free r.time) (by_mark m p r)
      (both_true (in_place edition p.before r && none_before p.left r.time) _
      (both_true _ _ (misformed_cons edition p.before i r rs e).0
      (subst (λ (l : List Packet). none_before l r.time ≡ true) a (heard-from edition r.time p.before i (r ∷ rs) e (omega arith))))
      (le-leb p.free r.time free))

cons_next : (left : List Packet) (r : Row) (l : List Packet) → packet_of r ∷ l ≡ left → (is_next left r ≡ true) × (l ≡ others left)
cons_next left r l e =
    subst (λ (x : List Packet). (is_next x r ≡ true) × (l ≡ others x)) e
    (both_true (eqb r.time r.time) (eqb r.kind r.kind) (eq-eqb r.time r.time refl) (eq-eqb r.kind r.kind refl), refl)

module _ (edition : Edition) (m : Monitor) (rs : List Row) where
  -- rows that explain what is left explain, without the first, what is left behind it
  continues_behind : {p : Progress} (r : Row) (left : List Packet) (now window : ℕ) (d : Config) → Continues m p (r ∷ rs) → heard rs ≡ left
      → CarriedBy m now d (sent_rows rs) → Keeping m.rule window (guesses m (sent_rows rs)) → Continues m (behind_row m r left now window d) rs
  unfolding packets
  continues_behind r left now window d c a b k =
      record { accounts = a; inbound = λ s l. c.inbound s (Memᴰ.tail l); clear = (spaced-from m (packet_of r) (packets rs)).0 c.clear.1; carried = b; kept = k }

  account_cons : (mark t k j : ℕ) (p : Progress) (i : ℕ) → misformed edition p.before i (marked mark t k j ∷ rs) ≡ None → Continues m p (marked mark t k j ∷ rs) → Accounted edition m p (marked mark t k j) rs
  unfolding keeps removes adds heard sent_rows packets guesses
  account_cons zero t k j p i e c =
      let r : Row = marked 0 t k j in
      let n = cons_next p.left r (heard rs) c.accounts in
      let d = c.carried in
      record {
        next = behind_sent m p r (others p.left) d.0;
        accounted = account-ready edition m p r rs i e c.accounts c.clear.0 ∙ (cond_true (is_next p.left r) _ n.0 ∙ some-sends m p r (others p.left) d.0 d.1 c.kept.0);
        last = refl;
        continues = continues_behind r (others p.left) t (window_behind m.rule p.window (guessed m r)) d.0 c n.1 d.2 c.kept.1;
      }
  account_cons (suc zero) t k j p i e c =
      let r : Row = marked 1 t k j in
      let n = cons_next p.left r (heard rs) c.accounts in
      record {
        next = removed_to m p r;
        accounted =
            account-ready edition m p r rs i e c.accounts c.clear.0
            ∙ cond_true (is_next p.left r && to_unit m k) _ (both_true _ _ n.0 (c.inbound r (Memᴰ.head refl) refl));
        last = refl;
        continues = continues_behind r (others p.left) p.now p.window p.config c n.1 c.carried c.kept;
      }
  account_cons (suc (suc zero)) t k j p i e c =
      let r : Row = marked 2 t k j in
      let d = c.carried in
      let f = (misformed_cons edition p.before i r rs e).1 in
      let n : none_at p.left t ≡ true = subst (λ (l : List Packet). none_at l t ≡ true) c.accounts (none_at_lem (heard rs) t (heard-from edition (suc t) (Some r) (suc i) rs f (from_past edition r (suc i) rs f))) in
      record {
        next = behind_sent m p r p.left d.0;
        accounted = account-ready edition m p r rs i e c.accounts c.clear.0 ∙ (cond_true (none_at p.left t) _ n ∙ some-sends m p r p.left d.0 d.1 c.kept.0);
        last = refl;
        continues = continues_behind r p.left t (window_behind m.rule p.window (guessed m r)) d.0 c c.accounts d.2 c.kept.1;
      }
  account_cons (suc (suc (suc n))) t k j p i e c =
      let r : Row = marked (suc (suc (suc n))) t k j in
      let h : suc (suc (suc n)) ≤ 2 = (in_form_lem edition p.before r (misformed_cons edition p.before i r rs e).0).mark in
      absurd (omega arith)

-- all rows

-- rows that break no rule explain what is left
broken_continues : (edition : Edition) (m : Monitor) (p : Progress) (i : ℕ) (rows : List Row) → broken edition m p i rows ≡ None → Continues m p rows
unfolding broken heard sent_rows packets guesses
broken_continues edition m p i [] e = record { accounts = empty p.left refl; inbound = λ r l. absurd (Memᴰ.not-nil l); clear = tt; carried = tt; kept = tt }
  where
    empty : (left : List Packet) → p.left ≡ left → [] ≡ p.left
    empty [] h = sym h
    empty (q ∷ qs) h = let z : ◌≡◌ {A = ℕ} 0 1 = cc in absurd (omega arith)
broken_continues edition m p i (r ∷ rs) e =
    let h = first-row edition m p i r rs e in
    continues_cons edition m rs r.mark r.time r.kind r.transition p h.0 h.1 (broken_continues edition m h.0 (suc i) rs h.2)

-- formed rows that explain what is left break no rule
continues_broken : (edition : Edition) (m : Monitor) (p : Progress) (i j : ℕ) (rows : List Row) → misformed edition p.before i rows ≡ None → Continues m p rows → broken edition m p j rows ≡ None
unfolding broken heard
continues_broken edition m p i j [] e c = cc
continues_broken edition m p i j (r ∷ rs) e c =
    let a : Accounted edition m p r rs = account_cons edition m rs r.mark r.time r.kind r.transition p i e c in
    let f : misformed edition a.next.before (suc i) rs ≡ None = subst (λ (b : Option Row). misformed edition b (suc i) rs ≡ None) (sym a.last) (misformed_cons edition p.before i r rs e).1 in
    rw (a.accounted, broken) (continues_broken edition m a.next (suc i) (suc j) rs f a.continues)

account-last : (edition : Edition) (m : Monitor) (p : Progress) (r : Row) {q : Progress} → account edition m p r ≡ Some q → q.before ≡ Some r
unfolding keeps removes adds
account-last edition m p r {q} e = go (eqb r.mark kept) (is_removed r) (passed edition m p r q e).by
  where
    sent-last : (left : List Packet) → sends m p r left ≡ Some q → q.before ≡ Some r
    sent-last left h = ap (λ (x : Progress). x.before) (sym (sends-fires m p r left q h).2)

    go : (a b : Bool) → cond a (keeps m p r) (cond b (removes m p r) (adds m p r)) ≡ Some q → q.before ≡ Some r
    go true b h = sent-last (others p.left) (cond-some (is_next p.left r) (sends m p r (others p.left)) q h).1
    go false true h = let same = cond-some (is_next p.left r && to_unit m r.kind) (Some (removed_to m p r)) q h in cc
    go false false h = sent-last p.left (cond-some (none_at p.left r.time) (sends m p r p.left) q h).1

-- each row's form is tested
broken_formed : (edition : Edition) (m : Monitor) (p : Progress) (i j : ℕ) (rows : List Row) → broken edition m p i rows ≡ None → misformed edition p.before j rows ≡ None
unfolding misformed
broken_formed edition m p i j [] e = refl
broken_formed edition m p i j (r ∷ rs) e =
    let h = first-row edition m p i r rs e in
    let f : misformed edition (Some r) (suc j) rs ≡ None = subst (λ (b : Option Row). misformed edition b (suc j) rs ≡ None) (account-last edition m p r h.1) (broken_formed edition m h.0 (suc i) (suc j) rs h.2) in
    rw ((passed edition m p r h.0 h.1).placed, misformed) f

pub unbroken_formed : (edition : Edition) (m : Monitor) (recording : List Packet) (rows : List Row) → broken edition m (begin recording) 0 rows ≡ None → Formed edition rows
unbroken_formed edition m recording rows e = broken_formed edition m (begin recording) 0 0 rows e

pub explained_under : (edition : Edition) (m : Monitor) (recording : List Packet) (rows : List Row) → 1 ≤ m.rule.window → Formed edition rows
    → (broken edition m (begin recording) 0 rows ≡ None) ↔ ExplainsUnder m recording rows
unfolding packets
explained_under edition m recording rows w f = (onto, from)
  where
    -- times are from 1 up by the form
    formed-trace : (l : List Row) → Formed edition l → TraceFrom m 0 (packets l) → PacketTrace m (packets l)
    formed-trace [] h x = tt
    formed-trace (r ∷ rs) h x = ((in_form_lem edition None r (misformed_cons edition None 0 r rs h).0).time, x.1)

    onto : broken edition m (begin recording) 0 rows ≡ None → ExplainsUnder m recording rows
    onto e =
        let c = broken_continues edition m (begin recording) 0 rows e in
        record {
          explains = record { accounts = c.accounts; inbound = c.inbound; spaced = formed-trace rows f c.clear; carried = c.carried };
          keeps = (row_by_row m.rule (guesses m (sent_rows rows)) w).0 c.kept;
        }

    from : ExplainsUnder m recording rows → broken edition m (begin recording) 0 rows ≡ None
    from y =
        let x : Explains m recording rows = y.explains in
        continues_broken edition m (begin recording) 0 0 rows f
        (record {
          accounts = x.accounts;
          inbound = x.inbound;
          clear = from_earlier m 1 0 (packets rows) (omega arith) ((trace-from m (packets rows)).0 x.spaced);
          carried = x.carried;
          kept = (row_by_row m.rule (guesses m (sent_rows rows)) w).1 y.keeps;
        })

-- demand 2 without a rule
pub explained : (edition : Edition) (m : Monitor) (recording : List Packet) (rows : List Row) → m.rule ≡ no_rule → Formed edition rows
    → (broken edition m (begin recording) 0 rows ≡ None) ↔ Explains m recording rows
explained edition m recording rows plain f =
    let (onto, from) = explained_under edition m recording rows (rw plain (omega arith)) f in
    (λ e. (onto e).explains, λ x. from (record { explains = x; keeps = rw plain (no_rule_kept _) }))
