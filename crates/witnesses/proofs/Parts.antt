-- What the definitions of reading a witness give, by its answer and its columns.
use Prim.Native.Nat.{ℕ, ◌+◌, ◌*◌, ◌≤◌}
use native.Mathlib.Omega.{arith}
use mathlib.Core.Path.{◌≡◌, ap, ◌∙◌}
use mathlib.Core.List.{List}
use Rattle.std.specs.Prelude.{Ok, replicate}
use Rattle.model.specs.Limits.{witness_places}
use Rattle.model.specs.Edition.{version_place, count_place, rows_place, most_rows}
use Rattle.model.specs.Bytes.{byte_at, word_at, tab, padded}
use Rattle.model.specs.Witness.{witness_count_at, row_place, row_at, witness_frame, witness_answer, witness_parts, no_witness}
use Rattle.model.specs.declared.Edition.{Edition}
use Rattle.model.specs.declared.Edition.TheVariants.{One, Two}
use Rattle.model.specs.declared.WitnessParts.{WitnessParts}
use Rattle.model.specs.declared.Refusal.TheVariants.{WitnessFrame, WitnessVersion, WitnessCount}
use Rattle.model.proofs.Basics.{and_then-left}
use Rattle.model.proofs.Tests.{rows_facts}
use Rattle.columns.specs.Filled.{filled}
use Rattle.columns.proofs.Columns.{filled_zeros}

most_places : (edition : Edition) → most_rows edition ≤ witness_places
most_places One = omega arith
most_places Two = omega arith

module _ (edition : Edition) (b : List ℕ) where
  pub sound_count : witness_answer edition b ≡ Ok tt → witness_count_at edition b ≤ witness_places
  unfolding witness_answer witness_frame
  sound_count sound =
      let framed = and_then-left (witness_frame edition b) _ sound in
      let rows = rows_facts edition b 5 (most_rows edition) WitnessFrame (WitnessVersion (version_place edition)) (WitnessCount (count_place edition)) framed in
      omega (arith, rows.count, most_places edition)

-- a column over zeros, whose numbers are those at the places of a field
field_column :
    (g place : ℕ → ℕ) (start n : ℕ) → ((i : ℕ) → start + 5 * i ≡ place i) → n ≤ witness_places → (zeros column : List ℕ) → zeros ≡ replicate witness_places 0
    → column ≡ filled (λ i. g (start + 5 * i)) n zeros → column ≡ padded witness_places (tab (λ i. g (place i)) n)
field_column g place start n same few zeros column empty e =
    e ∙ filled_zeros (λ i. g (start + 5 * i)) n witness_places zeros few empty ∙ (λ j. padded witness_places (tab (λ i. g (same i j)) n))

pub parts_are :
    (edition : Edition) (b : List ℕ) (w : WitnessParts) → w ≡ no_witness → (n start : ℕ) → n ≡ witness_count_at edition b
    → n ≤ witness_places → start ≡ rows_place edition → (m t k x : List ℕ)
    → m ≡ filled (λ i. byte_at b (start + 5 * i)) n w.marks
    → t ≡ filled (λ i. word_at b ((start + 1) + 5 * i)) n w.times
    → k ≡ filled (λ i. byte_at b ((start + 3) + 5 * i)) n w.kinds
    → x ≡ filled (λ i. byte_at b ((start + 4) + 5 * i)) n w.transitions
    → record { count = n; marks = m; times = t; kinds = k; transitions = x } ≡ witness_parts edition b
unfolding witness_parts row_at no_witness
parts_are edition b w none n start counted few at m t k x p q r s =
    rw (
      field_column (byte_at b) (row_place edition) start n (λ i. omega (arith, at)) few w.marks m (ap (λ (v : WitnessParts). v.marks) none) p,
      field_column (word_at b) (λ i. row_place edition i + 1) (start + 1) n (λ i. omega (arith, at)) few w.times t (ap (λ (v : WitnessParts). v.times) none) q,
      field_column (byte_at b) (λ i. row_place edition i + 3) (start + 3) n (λ i. omega (arith, at)) few w.kinds k (ap (λ (v : WitnessParts). v.kinds) none) r,
      field_column (byte_at b) (λ i. row_place edition i + 4) (start + 4) n (λ i. omega (arith, at)) few w.transitions x (ap (λ (v : WitnessParts). v.transitions) none) s,
      counted,
    )
