-- What a row comes to, by the tests that the code has made.
use Prim.Native.Nat.{ℕ, zero, suc, ◌+◌, ◌-◌, ◌<◌, ◌≤◌}
use native.Mathlib.Omega.{arith}
use native.Mathlib.Numerals.{add-one}
use mathlib.Core.Path.{◌≡◌, refl, sym, ap, ◌∙◌}
use mathlib.Core.List.{List, [], ◌∷◌}
use mathlib.Core.Bool.{true, ◌&&◌}
use Rattle.std.specs.Prelude.{Option, Some, None}
use lib.ListN.{get_or, drop, length-map}
use lib.Dec.{leb}
use borrow.Author.Tests.{ltb-true, leb-true}
use Rattle.model.specs.Trace.{Packet}
use Rattle.model.specs.Readiness.{waited}
use Rattle.model.specs.Edition.{latest_time}
use Rattle.model.specs.Witness.{Row, added, in_form, in_place}
use Rattle.model.specs.Rules.{others}
use Rattle.model.specs.Monitor.{Monitor, under, wait, fires}
use Rattle.model.specs.declared.Config.{Config}
use Rattle.model.specs.declared.Edition.{Edition}
use Rattle.model.specs.declared.Rule.{Rule}
use Rattle.std.proofs.lemmas.List.{get_or-map}
use Rattle.monitor.proofs.Records.{fired-length, fired-below}
use Rattle.model.proofs.Basics.{and_left, and_right}
use Rattle.witness.specs.declared.Entry.{Entry}
use Rattle.witness.specs.Rows.{row_of, before_of}
use Rattle.account.specs.declared.Standing.{Standing}
use Rattle.account.specs.Standing.{last_of, Bounded, Ready}

pub others_drop : (i : ℕ) (l : List Packet) → others (drop i l) ≡ drop (i + 1) l
others_drop i l = go i l ∙ ap (λ (k : ℕ). drop k l) (sym (add-one i))
  where
    go : (i : ℕ) (l : List Packet) → others (drop i l) ≡ drop (suc i) l
    go zero [] = refl
    go zero (p ∷ l) = refl
    go (suc i) [] = refl
    go (suc i) (p ∷ l) = go i l

in_form-time : (edition : Edition) (r : Row) → in_form edition r ≡ true → 0 < r.time
unfolding in_form
in_form-time edition r e =
    let times = and_left (leb r.mark added && leb 1 r.time && leb r.time (latest_time edition)) _ e in
    leb-true 1 r.time (and_right (leb r.mark added) _ (and_left (leb r.mark added && leb 1 r.time) _ times))

behind_last : (edition : Edition) (before : Option Entry) (e : Entry) → in_place edition (before_of before) (row_of e) ≡ true → last_of before < e.time
behind_last edition None e h = in_form-time edition (row_of e) h
behind_last edition (Some p) e h = ltb-true p.time e.time (and_right (in_form edition (row_of e)) _ h)

pub ready_row : (edition : Edition) (s : Standing) (e : Entry) → Bounded s → in_place edition (before_of s.before) (row_of e) ≡ true → Ready s e
ready_row edition s e b h = record { bounded = b; behind = behind_last edition s.before e h }

-- the rule is no part of how the monitor fires
pub fires_under : (rule : Rule) (m : Monitor) (j k : ℕ) (c : Config) → fires (under rule m) j k c ≡ fires m j k c
unfolding fires
fires_under rule m j k c = refl

-- what fires behind a wait until a row keeps two clocks, which read at most the ticks until then
pub sent_bounded : (m : Monitor) (s : Standing) (e : Entry) (d : Config) (next free window : ℕ) → Ready s e → fires m e.transition e.kind (wait (e.time - s.now) s.config) ≡ Some d →
    Bounded (record { before = Some e; next = next; now = e.time; free = free; config = d; window = window })
sent_bounded m s e d next free window ready fired =
    record {
      fired = omega arith;
      clocks = fired-length m e.transition e.kind (wait (e.time - s.now) s.config) d fired ∙ length-map s.config.clocks (λ x. x + (e.time - s.now)) ∙ ready.bounded.clocks;
      first = omega (arith, below 0, ready.bounded.first, read 0 (omega arith));
      second = omega (arith, below 1, ready.bounded.second, read 1 (omega arith));
    }
  where
    below : (i : ℕ) → get_or d.clocks i 0 ≤ get_or (waited (e.time - s.now) s.config.clocks) i 0
    below = fired-below m e.transition e.kind (wait (e.time - s.now) s.config) d fired

    read : (i : ℕ) → i < 2 → get_or (waited (e.time - s.now) s.config.clocks) i 0 ≡ get_or s.config.clocks i 0 + (e.time - s.now)
    read i h = get_or-map (λ x. x + (e.time - s.now)) s.config.clocks i 0 0 (omega (arith, ready.bounded.clocks))
