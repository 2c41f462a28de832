-- What a row that breaks no rule passes: its form, its turn, the air, and the rule for its mark.
use Prim.Native.Nat.{ℕ, suc, ◌-◌, ◌≤◌}
use mathlib.Core.Path.{◌≡◌, refl, sym, ◌∙◌}
use mathlib.Core.List.{List, ◌∷◌}
use mathlib.Core.Bool.{Bool, true, false, cond, not, ◌&&◌, ◌||◌}
use Rattle.std.specs.Prelude.{Option, Some, None}
use Rattle.std.specs.Option.{option_map}
use Rattle.std.proofs.lemmas.Option.{none-some, same_Some}
use Rattle.model.proofs.Options.{some-ne-none}
use lib.Dec.{leb, eqb}
use borrow.Author.Tests.{eqb-true, leb-true, eq-eqb}
use Rattle.model.specs.Edition.{latest_time}
use Rattle.model.specs.Rule.{window_behind, allows}
use Rattle.model.specs.Monitor.{Monitor, Config, wait, fires, within_rule}
use Rattle.model.specs.Trace.{Packet}
use Rattle.model.specs.Witness.{Row, kept, removed, no_transition, is_removed, in_form, follows, in_place}
use Rattle.model.specs.Rules.{Progress, none_before, behind_row, guessed, sends, removes, keeps, adds, account, broken}
use Rattle.model.specs.declared.Edition.{Edition}
use Rattle.model.proofs.Basics.{and_left, and_right, cond-some}

-- its form

pub record InForm (r : Row) : Type 0 where
  pub mark : r.mark ≤ 2
  pub time : 1 ≤ r.time
  pub transition : r.mark ≡ removed → r.transition ≡ no_transition

pub in_form_lem : (edition : Edition) (o : Option Row) (r : Row) → in_place edition o r ≡ true → InForm r
unfolding in_form
in_form_lem edition o r e =
    let f = four-true (leb r.mark 2) (leb 1 r.time) (leb r.time (latest_time edition)) (not (is_removed r) || eqb r.transition no_transition) (form o e) in
    record {
      mark = leb-true r.mark 2 f.0;
      time = leb-true 1 r.time f.1;
      transition = λ h. eqb-true r.transition no_transition (rw (eq-eqb r.mark removed h) at f.3);
    }
  where
    form : (x : Option Row) → in_place edition x r ≡ true → in_form edition r ≡ true
    form None f = f
    form (Some p) f = and_left (in_form edition r) (follows p r) f

    four-true : (a b c d : Bool) → a && b && c && d ≡ true → (a ≡ true) × (b ≡ true) × (c ≡ true) × (d ≡ true)
    four-true a b c d q =
        let f = and_left (a && b && c) d q in
        let g = and_left (a && b) c f in
        (and_left a b g, and_right a b g, and_right (a && b) c f, and_right (a && b && c) d q)

-- its turn, the air, and the rule for its mark

abbrev pub by_mark : Monitor → Progress → Row → Option Progress
by_mark m p r = cond (eqb r.mark kept) (keeps m p r) (cond (is_removed r) (removes m p r) (adds m p r))

pub record Passed (edition : Edition) (m : Monitor) (p : Progress) (r : Row) (q : Progress) : Type 0 where
  pub placed : in_place edition p.before r ≡ true
  pub turn : none_before p.left r.time ≡ true
  pub free : p.free ≤ r.time
  pub by : by_mark m p r ≡ Some q

pub passed : (edition : Edition) (m : Monitor) (p : Progress) (r : Row) (q : Progress) → account edition m p r ≡ Some q → Passed edition m p r q
unfolding account
passed edition m p r q e =
    let placed : Bool = in_place edition p.before r in
    let turn : Bool = none_before p.left r.time in
    let h = cond-some (placed && turn && leb p.free r.time) (by_mark m p r) q e in
    let f = and_left (placed && turn) (leb p.free r.time) h.0 in
    record {
      placed = and_left placed turn f;
      turn = and_right placed turn f;
      free = leb-true p.free r.time (and_right (placed && turn) (leb p.free r.time) h.0);
      by = h.1;
    }

-- behind a kept or added row that led to c
abbrev pub behind_sent : Monitor → Progress → Row → List Packet → Config → Progress
behind_sent m p r left c = behind_row m r left r.time (window_behind m.rule p.window (guessed m r)) c

-- a kept or added row fires its transition and keeps the rule
pub sends-fires : (m : Monitor) (p : Progress) (r : Row) (left : List Packet) (q : Progress) → sends m p r left ≡ Some q
    → (c : Config)
    × (fires m r.transition r.kind (wait (r.time - p.now) p.config) ≡ Some c)
    × (behind_sent m p r left c ≡ q)
    × (allows m.rule p.window (guessed m r) ≡ true)
unfolding sends within_rule
sends-fires m p r left q e = go (allows m.rule p.window (guessed m r)) refl (fires m r.transition r.kind (wait (r.time - p.now) p.config)) refl e
  where
    go : (allowed : Bool) → allows m.rule p.window (guessed m r) ≡ allowed
        → (o : Option Config) → fires m r.transition r.kind (wait (r.time - p.now) p.config) ≡ o
        → option_map (behind_sent m p r left) (cond allowed o None) ≡ Some q
        → (c : Config)
        × (fires m r.transition r.kind (wait (r.time - p.now) p.config) ≡ Some c)
        × (behind_sent m p r left c ≡ q)
        × (allows m.rule p.window (guessed m r) ≡ true)
    go true a None f h = absurd (none-some q h)
    go true a (Some c) f h = (c, f, same_Some (behind_sent m p r left c) q h, a)
    go false a o f h = absurd (none-some q h)

-- rows, the first of which is accounted for

pub broken_next : (edition : Edition) (m : Monitor) (p : Progress) (r : Row) (q : Progress) → account edition m p r ≡ Some q → (i : ℕ) (rs : List Row) → broken edition m p i (r ∷ rs) ≡ broken edition m q (suc i) rs
unfolding broken
broken_next edition m p r q e i rs = rw (e, broken)

pub first-row : (edition : Edition) (m : Monitor) (p : Progress) (i : ℕ) (r : Row) (rs : List Row) → broken edition m p i (r ∷ rs) ≡ None
    → (q : Progress) × (account edition m p r ≡ Some q) × (broken edition m q (suc i) rs ≡ None)
unfolding broken
first-row edition m p i r rs e = go (account edition m p r) refl
  where
    go : (o : Option Progress) → account edition m p r ≡ o → (q : Progress) × (account edition m p r ≡ Some q) × (broken edition m q (suc i) rs ≡ None)
    go None f = absurd (some-ne-none i (rw (f, broken) at e))
    go (Some q) f = (q, f, sym (broken_next edition m p r q f i rs) ∙ e)
