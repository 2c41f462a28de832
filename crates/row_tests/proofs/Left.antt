-- The recorded packets that are not accounted for, and the rows ahead: each a list from an index on.
use Prim.Native.Nat.{ℕ, suc, ◌<◌, ◌≤◌}
use native.Mathlib.Omega.{arith}
use native.Mathlib.Decide.{dec_lt}
use mathlib.Core.Path.{◌≡◌, refl, sym, ap, ◌∙◌}
use mathlib.Core.List.{List, [], ◌∷◌}
use mathlib.Core.Bool.{Bool, true, not, false≢true}
use Rattle.std.specs.Prelude.{Option, Some, None, IsTrue, MatchOption}
use Rattle.std.specs.Option.{option_eq}
use lib.Dec.{eqb, leb}
use lib.ListN.{drop, drop_of_length-le}
use lib.Seq.{drop-cons}
use Rattle.model.specs.Bytes.{tab}
use Rattle.model.specs.Trace.{Packet}
use Rattle.model.specs.Recording.{count_at, time_at, row_kind_at, recording_parts, packets_of, packets_at}
use Rattle.model.specs.Witness.{Row}
use Rattle.model.specs.Rules.{none_before, none_at, is_next}
use Rattle.model.proofs.Basics.{length-tab, get_or-tab}
use Rattle.model.proofs.Places.{get_or_column}
use Rattle.row_tests.specs.Left.{first_time}

module _ {A : Type 0} (f : ℕ → A) (n i : ℕ) where
  pub tab_cons : i < n → drop i (tab f n) ≡ f i ∷ drop (suc i) (tab f n)
  tab_cons h =
      drop-cons (tab f n) i (f i) (omega (arith, length-tab f n))
      ∙ ap (λ (a : A). a ∷ drop (suc i) (tab f n)) (get_or-tab f (f i) n i h)

  pub tab-past : n ≤ i → drop i (tab f n) ≡ []
  tab-past h = drop_of_length-le (tab f n) {i = i} (omega (arith, length-tab f n))

module _ (b : List ℕ) (i : ℕ) where
  abbrev pub packet_at : Packet
  packet_at = record { time = time_at b i; kind = row_kind_at b i }

  pub left_cons : i < count_at b → drop i (packets_at b) ≡ packet_at ∷ drop (suc i) (packets_at b)
  unfolding packets_of recording_parts
  left_cons h = rw tab_cons (simp get_or_column)

  pub left-past : count_at b ≤ i → drop i (packets_at b) ≡ []
  unfolding packets_of recording_parts
  left-past h = rw tab-past

  pub first_left : i < count_at b → Some (time_at b i) ≡ first_time (drop i (packets_at b))
  first_left h = ap first_time (sym (left_cons h))

  pub none_left : count_at b ≤ i → None ≡ first_time (drop i (packets_at b))
  none_left h = ap first_time (sym (left-past h))

  -- a row of the first packet's time is the next one if its kind is that packet's too
  pub is_next_first : (r : Row) → option_eq eqb (first_time (drop i (packets_at b))) (Some r.time) ≡ true →
      (eqb (row_kind_at b i) r.kind ≡ is_next (drop i (packets_at b)) r) × (i < count_at b)
  is_next_first r e = on (dec_lt i (count_at b))
    where
      on : Dec (i < count_at b) → (eqb (row_kind_at b i) r.kind ≡ is_next (drop i (packets_at b)) r) × (i < count_at b)
      on (yes h) =
          let time : eqb (time_at b i) r.time ≡ true = ap (λ (o : Option ℕ). option_eq eqb o (Some r.time)) (first_left h) ∙ e in
          (rw (left_cons h, time), h)
      on (no h) = let past : count_at b ≤ i = omega arith in absurd (false≢true (ap (λ (o : Option ℕ). option_eq eqb o (Some r.time)) (none_left past) ∙ e))

-- what is asked of the first packet's time

pub none_before_first : (l : List Packet) (t : ℕ) (answer : Bool) → MatchOption (first_time l) (IsTrue answer) (λ x. answer ≡ leb t x) → answer ≡ none_before l t
none_before_first [] t answer h = h
none_before_first (p ∷ ps) t answer h = h

pub none_at_first : (l : List Packet) (t : ℕ) → not (option_eq eqb (first_time l) (Some t)) ≡ none_at l t
none_at_first [] t = refl
none_at_first (p ∷ ps) t = refl
