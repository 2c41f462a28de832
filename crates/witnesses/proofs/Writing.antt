-- What writing a witness gives, by the tests that the code makes.
use Prim.Native.Nat.{ℕ, ◌<◌, ◌≤◌}
use mathlib.Core.Path.{◌≡◌, refl, ◌∙◌}
use mathlib.Core.List.{List}
use Rattle.std.specs.Prelude.{None, Ok, Err}
use borrow.Author.Tests.{le-leb, lt-leb}
use Rattle.model.specs.Answers.{Writes}
use Rattle.model.specs.Bytes.{byte_at, tab}
use Rattle.model.specs.Edition.{count_place, most_rows}
use Rattle.model.specs.First.{Reading, Writing}
use Rattle.model.specs.Room.{write}
use Rattle.model.specs.Witness.{misformed, bad_row, row_in, witness_bytes, witness_writable, write_witness}
use Rattle.model.specs.declared.Edition.{Edition}
use Rattle.model.specs.declared.WitnessParts.{WitnessParts}
use Rattle.model.specs.declared.Refusal.{Refusal}
use Rattle.model.specs.declared.Refusal.TheVariants.{WitnessCount}
use Rattle.model.proofs.AnswerLaws.{writes_by}
use Rattle.model.proofs.Tests.{then_sound}
use Rattle.model.proofs.WitnessForm.{written-answer}
use Rattle.frame.proofs.Written.{write-refused}

module _ (edition : Edition) (w : WitnessParts) (room : List ℕ) where
  pub too_many : most_rows edition < w.count → (at : ℕ) → at ≡ count_place edition → Writes (write_witness edition w room) (Err (WitnessCount at)) room
  unfolding write_witness witness_writable
  too_many h at e = rw (lt-leb _ _ h, e) (writes_by _ _ _ refl refl)

  module _ (few : w.count ≤ most_rows edition) (times : (i : ℕ) → byte_at w.times i < 65536) (rows : Reading)
      (is : rows ≡ bad_row (misformed edition None 0 (tab (row_in w) w.count))) where
    -- the rows alone decide
    writable : witness_writable edition w ≡ rows
    unfolding witness_writable row_in
    writable = rw (le-leb _ _ few, written-answer edition (row_in w) w.count few (λ i h. times i), is) (then_sound _)

    pub rows_refused : (why : Refusal) → rows ≡ Err why → Writes (write_witness edition w room) (Err why) room
    unfolding write_witness
    rows_refused why e = write-refused _ _ _ _ (writable ∙ e)

    pub rows_written : rows ≡ Ok tt → (r : Writing) (after : List ℕ) → Writes (write (Ok tt) (witness_bytes edition (tab (row_in w) w.count)) room) r after
        → Writes (write_witness edition w room) r after
    unfolding write_witness
    rows_written e r after h = rw (writable, e) h
