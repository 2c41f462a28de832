-- What explains a recording makes it possible: the kept and added rows are the mutation trace, and all rows are what was on the air.
use Prim.Native.Nat.{ℕ, ◌<◌, ◌≤◌}
use native.Mathlib.Omega.{arith}
use mathlib.Core.Path.{◌≡◌, refl, sym, ap, subst, ◌∙◌}
use mathlib.Core.List.Memᴰ
use mathlib.Core.List.{List, [], ◌∷◌, Memᴰ}
use mathlib.Core.Bool.{Bool, true, false, cond, not, ◌&&◌}
use mathlib.Core.Logic.{◌↔◌, ◌⊎◌, inl, inr, ⊎_elim}
use lib.Dec.{eqb}
use borrow.Author.Tests.{eqb-true, eq-eqb, ne_eqb}
use Rattle.model.specs.Rule.{KeepsRule}
use Rattle.model.specs.Monitor.{Monitor, Config, start, to_unit, is_guess}
use Rattle.model.specs.Trace.{Packet, Carries, Possible, is_recorded, guesses_in, PossibleUnder}
use Rattle.model.specs.Witness.{Row, removed, added, is_removed}
use Rattle.model.specs.Claims.{packet_of, heard, sent_rows, packets, CarriedBy, Explains, guesses, ExplainsUnder}
use Rattle.model.proofs.Spacing.{free_after, TraceFrom, trace-from, from_earlier, spaced-from}

carried_carries : (m : Monitor) (now : ℕ) (c : Config) (rows : List Row) → CarriedBy m now c rows → Carries m now c (packets rows)
unfolding packets
carried_carries m now c [] h = tt
carried_carries m now c (r ∷ rs) h = (r.transition, h.0, h.1, carried_carries m r.time h.0 rs h.2)

-- a recorded packet is sent, or its row is removed
abbrev SentOrRemoved : Packet → List Row → Type 0
SentOrRemoved p rows = Memᴰ p (packets (sent_rows rows)) ⊎ ((r : Row) × Memᴰ r rows × (r.mark ≡ removed) × (r.kind ≡ p.kind))

heard_cases : (rows : List Row) (p : Packet) → Memᴰ p (heard rows) → SentOrRemoved p rows
unfolding heard sent_rows packets
heard_cases [] p l = absurd (Memᴰ.not-nil l)
heard_cases (r ∷ rs) p l = ⊎_elim (here (is_removed r) refl) (λ h. behind (is_removed r) (heard_cases rs p h)) (where-heard (eqb r.mark added) l)
  where
    where-heard : (t : Bool) → Memᴰ p (cond t (heard rs) (packet_of r ∷ heard rs)) → (p ≡ packet_of r) ⊎ Memᴰ p (heard rs)
    where-heard true h = inr h
    where-heard false h = Memᴰ.cases_cons h

    after : Bool → Type 0
    after t = Memᴰ p (packets (cond t (sent_rows rs) (r ∷ sent_rows rs))) ⊎ ((s : Row) × Memᴰ s (r ∷ rs) × (s.mark ≡ removed) × (s.kind ≡ p.kind))

    here : (t : Bool) → is_removed r ≡ t → p ≡ packet_of r → after t
    here true e h = inr (r, Memᴰ.head refl, eqb-true r.mark removed e, ap (λ (q : Packet). q.kind) (sym h))
    here false e h = inl (Memᴰ.head h)

    behind : (t : Bool) → SentOrRemoved p rs → after t
    behind true (inl h) = inl h
    behind false (inl h) = inl (Memᴰ.tail h)
    behind t (inr h) = inr (h.0, Memᴰ.tail h.1, h.2, h.3)

-- the kept and added rows alone are a packet trace too

sent-from : (m : Monitor) (n : ℕ) (rows : List Row) → TraceFrom m n (packets rows) → TraceFrom m n (packets (sent_rows rows))
unfolding sent_rows packets
sent-from m n [] x = tt
sent-from m n (r ∷ rs) x = go (is_removed r) (sent-from m (free_after m (packet_of r)) rs ((spaced-from m (packet_of r) (packets rs)).0 x.1))
  where
    go : (t : Bool) → TraceFrom m (free_after m (packet_of r)) (packets (sent_rows rs)) → TraceFrom m n (packets (cond t (sent_rows rs) (r ∷ sent_rows rs)))
    go true y = from_earlier m (free_after m (packet_of r)) n (packets (sent_rows rs)) (omega (arith, x.0)) y
    go false y = (x.0, (spaced-from m (packet_of r) (packets (sent_rows rs))).1 y)

-- a row is recorded or sent, and what is recorded or sent is a row

abbrev HeardOrSent : Packet → List Row → Type 0
HeardOrSent p rows = Memᴰ p (heard rows) ⊎ Memᴰ p (packets (sent_rows rows))

row_cases : (rows : List Row) (p : Packet) → Memᴰ p (packets rows) → HeardOrSent p rows
unfolding heard sent_rows packets
row_cases [] p l = absurd (Memᴰ.not-nil l)
row_cases (r ∷ rs) p l =
    ⊎_elim (here (eqb r.mark added) (is_removed r) refl refl) (λ h. behind (eqb r.mark added) (is_removed r) (row_cases rs p h)) (Memᴰ.cases_cons l)
  where
    after : Bool → Bool → Type 0
    after a b = Memᴰ p (cond a (heard rs) (packet_of r ∷ heard rs)) ⊎ Memᴰ p (packets (cond b (sent_rows rs) (r ∷ sent_rows rs)))

    here : (a b : Bool) → eqb r.mark added ≡ a → is_removed r ≡ b → p ≡ packet_of r → after a b
    here true true e f h = let x : r.mark ≡ added = eqb-true r.mark added e in let y : r.mark ≡ removed = eqb-true r.mark removed f in absurd (omega arith)
    here true false e f h = inr (Memᴰ.head h)
    here false b e f h = inl (Memᴰ.head h)

    behind : (a b : Bool) → HeardOrSent p rs → after a b
    behind true b (inl h) = inl h
    behind false b (inl h) = inl (Memᴰ.tail h)
    behind a true (inr h) = inr h
    behind a false (inr h) = inr (Memᴰ.tail h)

among : (away : Bool) (p q : Packet) (part all : List Packet) → (Memᴰ p part → Memᴰ p all) → Memᴰ p (cond away part (q ∷ part)) → Memᴰ p (q ∷ all)
among true p q part all again h = Memᴰ.tail (again h)
among false p q part all again h = ⊎_elim (λ e. Memᴰ.head e) (λ i. Memᴰ.tail (again i)) (Memᴰ.cases_cons h)

heard-row : (rows : List Row) (p : Packet) → Memᴰ p (heard rows) → Memᴰ p (packets rows)
unfolding heard packets
heard-row [] p l = l
heard-row (r ∷ rs) p l = among (eqb r.mark added) p (packet_of r) (heard rs) (packets rs) (heard-row rs p) l

sent-row : (rows : List Row) (p : Packet) → Memᴰ p (packets (sent_rows rows)) → Memᴰ p (packets rows)
unfolding sent_rows packets
sent-row [] p l = l
sent-row (r ∷ rs) p l = among (is_removed r) p (packet_of r) (packets (sent_rows rs)) (packets rs) (sent-row rs p) (subst (Memᴰ p) (go (is_removed r)) l)
  where
    go : (away : Bool) → packets (cond away (sent_rows rs) (r ∷ sent_rows rs)) ≡ cond away (packets (sent_rows rs)) (packet_of r ∷ packets (sent_rows rs))
    go true = refl
    go false = refl

pub explains-possible : (m : Monitor) (recording : List Packet) (rows : List Row) → Explains m recording rows → Possible m recording
explains-possible m recording rows x =
    record {
      trace = packets (sent_rows rows);
      spaced = (trace-from m (packets (sent_rows rows))).1 (sent-from m 1 rows ((trace-from m (packets rows)).0 x.spaced));
      mutation =
          λ p l away.
          ⊎_elim (λ h. absurd (away h)) (λ h. ap (to_unit m) (sym h.3) ∙ x.inbound h.0 h.1 h.2)
          (heard_cases rows p (subst (λ (k : List Packet). Memᴰ p k) (sym x.accounts) l));
      together =
          record {
            all = packets rows;
            spaced = x.spaced;
            entries =
                λ p.
                subst (λ (k : List Packet). Memᴰ p (packets rows) ↔ (Memᴰ p k ⊎ Memᴰ p (packets (sent_rows rows)))) x.accounts
                (row_cases rows p, ⊎_elim (heard-row rows p) (sent-row rows p));
          };
      satisfied = carried_carries m 0 start (sent_rows rows) x.carried;
    }

-- under a rule: a sent row is a guess exactly if its entry of the trace is one, since an added row is not recorded, and any other is

-- no packet before the rows is among those recorded
none_recorded : (m : Monitor) (n : ℕ) (rows : List Row) (p : Packet) → TraceFrom m n (packets rows) → p.time < n → is_recorded (heard rows) p ≡ false
unfolding heard packets is_recorded
none_recorded m n [] p x h = refl
none_recorded m n (r ∷ rs) p x h =
    go (eqb r.mark added) (none_recorded m (free_after m (packet_of r)) rs p ((spaced-from m (packet_of r) (packets rs)).0 x.1) (omega (arith, x.0)))
  where
    go : (t : Bool) → is_recorded (heard rs) p ≡ false → is_recorded (cond t (heard rs) (packet_of r ∷ heard rs)) p ≡ false
    go true e = e
    go false e = rw (ne_eqb r.time p.time (omega (arith, x.0))) e

-- what is recorded from an instant on is what the rows from there on were heard as
abbrev HeardFrom : (n : ℕ) → (recording : List Packet) → List Row → Type 0
HeardFrom n recording rows = (p : Packet) → n ≤ p.time → is_recorded recording p ≡ is_recorded (heard rows) p

same-guesses : (m : Monitor) (recording : List Packet) (n : ℕ) (rows : List Row) → TraceFrom m n (packets rows) → HeardFrom n recording rows
    → guesses_in m recording (packets (sent_rows rows)) ≡ guesses m (sent_rows rows)
unfolding heard sent_rows packets guesses guesses_in is_recorded
same-guesses m recording n [] x h = refl
same-guesses m recording n (r ∷ rs) x h = go (is_removed r) refl (same-guesses m recording (free_after m (packet_of r)) rs after later)
  where
    after : TraceFrom m (free_after m (packet_of r)) (packets rs)
    after = (spaced-from m (packet_of r) (packets rs)).0 x.1

    later : HeardFrom (free_after m (packet_of r)) recording rs
    later p l = h p (omega (arith, x.0)) ∙ on (eqb r.mark added)
      where
        on : (t : Bool) → is_recorded (cond t (heard rs) (packet_of r ∷ heard rs)) p ≡ is_recorded (heard rs) p
        on true = refl
        on false = rw (ne_eqb r.time p.time (omega arith))

    -- the row itself
    here : (t : Bool) → eqb r.mark added ≡ t → is_removed r ≡ false → not (is_recorded recording (packet_of r)) ≡ t
    here t e f = ap not (h (packet_of r) x.0) ∙ on t e
      where
        on : (t : Bool) → eqb r.mark added ≡ t → not (is_recorded (cond (eqb r.mark added) (heard rs) (packet_of r ∷ heard rs)) (packet_of r)) ≡ t
        on true e = rw e (ap not (none_recorded m (free_after m (packet_of r)) rs (packet_of r) after (omega arith)))
        on false e = rw (e, eq-eqb r.time r.time refl, eq-eqb r.kind r.kind refl)

    go : (away : Bool) → is_removed r ≡ away → guesses_in m recording (packets (sent_rows rs)) ≡ guesses m (sent_rows rs)
        → guesses_in m recording (packets (cond away (sent_rows rs) (r ∷ sent_rows rs))) ≡ guesses m (cond away (sent_rows rs) (r ∷ sent_rows rs))
    go true e again = again
    go false e again = λ i. (here (eqb r.mark added) refl e i && is_guess m r.kind) ∷ again i

pub explains_possible_under : (m : Monitor) (recording : List Packet) (rows : List Row) → ExplainsUnder m recording rows → PossibleUnder m recording
unfolding explains-possible packets
explains_possible_under m recording rows x =
    record {
      possible = explains-possible m recording rows x.explains;
      keeps = subst (KeepsRule m.rule) (sym same) x.keeps;
    }
  where
    same : guesses_in m recording (packets (sent_rows rows)) ≡ guesses m (sent_rows rows)
    same =
        same-guesses m recording 1 rows ((trace-from m (packets rows)).0 x.explains.spaced)
        (λ p l. ap (λ (l : List Packet). is_recorded l p) (sym x.explains.accounts))
