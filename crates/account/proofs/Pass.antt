-- One row more of a pass, and its end.
use Prim.Native.Nat.{ℕ, suc, ◌+◌, ◌<◌, ◌≤◌}
use native.Mathlib.Omega.{arith}
use native.Mathlib.Numerals.{add-one}
use mathlib.Core.Path.{◌≡◌, sym, ap, ◌∙◌}
use mathlib.Core.List.{List, [], ◌∷◌}
use mathlib.Core.Bool.{cond}
use Rattle.std.specs.Prelude.{Option, Some, None, Ok, Err}
use Rattle.std.specs.Option.{option_map}
use lib.ListN.{length, drop}
use lib.Dec.{eqb}
use Rattle.model.specs.Trace.{Packet}
use Rattle.model.specs.Monitor.{Monitor}
use Rattle.model.specs.Recording.{count_at, packets_at}
use Rattle.model.specs.Witness.{Row, kept, row_at, rows_at, witness_count_at}
use Rattle.model.specs.Rules.{Progress, begin, account, broken, changes}
use Rattle.model.specs.declared.Edition.{Edition}
use Rattle.model.specs.declared.Refusal.TheVariants.{WitnessRow}
use Rattle.model.proofs.Basics.{length-tab}
use Rattle.witness.specs.declared.Entry.{Entry}
use Rattle.witness.specs.Rows.{row_of}
use Rattle.row_tests.proofs.Left.{tab_cons, tab-past, left_cons, left-past}
use Rattle.account.specs.declared.Standing.{Standing}
use Rattle.account.specs.Standing.{progress_of, Bounded, Stepped, checked_rows}

module _ (edition : Edition) (m : Monitor) (p : Progress) (i : ℕ) where
  broken_none : (r : Row) (rs : List Row) → account edition m p r ≡ None → broken edition m p i (r ∷ rs) ≡ Some i
  unfolding broken
  broken_none r rs e = rw (e, broken)

  broken-some : (q : Progress) (r : Row) (rs : List Row) → account edition m p r ≡ Some q → broken edition m p i (r ∷ rs) ≡ broken edition m q (suc i) rs
  unfolding broken
  broken-some q r rs e = rw (e, broken)

  broken-left : (x : Packet) (l : List Packet) → p.left ≡ x ∷ l → broken edition m p i [] ≡ Some i
  unfolding broken
  broken-left x l e = rw e

  broken-done : p.left ≡ [] → broken edition m p i [] ≡ None
  unfolding broken
  broken-done e = rw e

-- the pass at row i: what is ahead decides, and so many rows before it were removed or added
pub record Ahead (edition : Edition) (m : Monitor) (recording witness : List ℕ) (s : Standing) (changed i : ℕ) : Type 0 where
  pub rules : broken edition m (begin (packets_at recording)) 0 (rows_at edition witness) ≡ broken edition m (progress_of (packets_at recording) s) i (drop i (rows_at edition witness))
  pub counted : changes (rows_at edition witness) ≡ changed + changes (drop i (rows_at edition witness))
  pub few : changed ≤ i

module _ (edition : Edition) (m : Monitor) (recording witness : List ℕ) (s : Standing) (changed i : ℕ) (a : Ahead edition m recording witness s changed i) where
  abbrev ps : List Packet
  ps = packets_at recording

  abbrev rows : List Row
  rows = rows_at edition witness

  -- row i, and what it leads to
  module _ (e : Entry) (next : Option Standing) (h : i < witness_count_at edition witness) (r : row_of e ≡ row_at edition witness i)
      (g : Stepped ps (account edition m (progress_of ps s) (row_of e)) next) where
    row-ahead : drop i rows ≡ row_of e ∷ drop (suc i) rows
    row-ahead = rw r (tab_cons (row_at edition witness) (witness_count_at edition witness) i h)

    pub ahead_broken : next ≡ None → Err (WitnessRow i) ≡ checked_rows edition m ps rows
    unfolding checked_rows
    ahead_broken n =
        let step = broken_none edition m (progress_of ps s) i (row_of e) (drop (suc i) rows) (sym g.is ∙ ap (option_map (progress_of ps)) n) in
        rw (a.rules, row-ahead, step)

    pub ahead_more : (t : Standing) (more : ℕ) → next ≡ Some t → more ≡ cond (eqb e.mark kept) 0 1 → more ≤ 1 → Bounded t × Ahead edition m recording witness t (changed + more) (i + 1)
    unfolding changes
    ahead_more t more n counts small =
        let step = broken-some edition m (progress_of ps s) i (progress_of ps t) (row_of e) (drop (suc i) rows) (sym g.is ∙ ap (option_map (progress_of ps)) n) in
        let count : changes (drop i rows) ≡ more + changes (drop (suc i) rows) = rw (row-ahead, ← counts) in (
          rw n at g.bounded,
          record {
            rules = rw (add-one i) (a.rules ∙ rw row-ahead step);
            counted = rw (add-one i) (omega (arith, a.counted, count));
            few = omega (arith, a.few);
          },
        )

  -- no row is ahead
  module _ (count : ℕ) (all : count ≡ witness_count_at edition witness) (end : i ≡ count) where
    none_ahead : drop i rows ≡ []
    none_ahead = tab-past (row_at edition witness) (witness_count_at edition witness) i (omega arith)

    pub ahead_left : s.next < count_at recording → Err (WitnessRow count) ≡ checked_rows edition m ps rows
    unfolding checked_rows
    ahead_left n = rw (← end, a.rules, none_ahead, broken-left edition m (progress_of ps s) i _ _ (left_cons recording s.next n))

    pub ahead_done : count_at recording ≤ s.next → Ok (record { changed = changed; rows = count }) ≡ checked_rows edition m ps rows
    unfolding checked_rows changes
    ahead_done n =
        let number : changed ≡ changes rows = omega (arith, a.counted, ap changes none_ahead) in
        let rowed : count ≡ length rows = omega (arith, length-tab (row_at edition witness) (witness_count_at edition witness)) in
        rw (a.rules, none_ahead, broken-done edition m (progress_of ps s) i (left-past recording s.next n), number, rowed)
