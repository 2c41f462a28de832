-- The bytes of a witness, as they are placed row by row, and what writing them into a room gives.
use Prim.Native.Nat.{ℕ, ◌+◌, ◌*◌, ◌<◌, ◌≤◌}
use native.Mathlib.Numerals.{add-one}
use native.Mathlib.Omega.{arith}
use mathlib.Core.Path.{◌≡◌, refl, sym, ap, ◌∙◌}
use mathlib.Core.List.{List, [], ◌++◌, append_assoc, append-nil}
use Rattle.std.specs.Prelude.{Ok, Err}
use lib.ListN.{length, length-append}
use borrow.Author.Tests.{le-leb, lt-leb}
use Rattle.model.specs.Answers.{Writes}
use Rattle.model.specs.Bytes.{tab}
use Rattle.model.specs.Edition.{rows_place}
use Rattle.model.specs.Frame.{rows_frame}
use Rattle.model.specs.Room.{over, write}
use Rattle.model.specs.Witness.{Row, row_place, row_bytes, rows_bytes, witness_bytes}
use Rattle.model.specs.declared.Edition.{Edition}
use Rattle.model.specs.declared.Refusal.TheVariants.{WriteRoom}
use Rattle.model.proofs.Basics.{length-tab}
use Rattle.model.proofs.AnswerLaws.{writes_by}
use Rattle.model.proofs.EditionLaws.{frame_length}
use Rattle.model.proofs.WitnessForm.{rows_bytes_snoc, rows_bytes-length, witness_length}
use Rattle.wire.specs.Placed.{placed}
use Rattle.wire.proofs.Room.{placed-behind}

-- the bytes that encoding has made when it has come to row i

module _ (edition : Edition) (f : ℕ → Row) (count : ℕ) where
  unfoldable pub bytes_to : ℕ → List ℕ
  bytes_to i = rows_frame edition 5 count ++ rows_bytes (tab f i)

  bytes-more : (i : ℕ) → bytes_to i ++ row_bytes (f i) ≡ bytes_to (i + 1)
  unfolding bytes_to tab rows_bytes
  bytes-more i =
      append_assoc (rows_frame edition 5 count) (rows_bytes (tab f i)) (row_bytes (f i))
      ∙ ap (λ (l : List ℕ). rows_frame edition 5 count ++ l) (sym (rows_bytes_snoc (tab f i) (f i)))
      ∙ ap bytes_to (sym (add-one i))

  length-bytes : (i : ℕ) → length (bytes_to i) ≡ row_place edition i
  unfolding bytes_to
  length-bytes i =
      length-append (rows_frame edition 5 count) (rows_bytes (tab f i))
      ∙ omega (arith, frame_length edition 5 count, rows_bytes-length (tab f i), length-tab f i)

  pub bytes-all : bytes_to count ≡ witness_bytes edition (tab f count)
  unfolding bytes_to witness_bytes
  bytes-all = rw (length-tab f count)

  module _ (room : List ℕ) (fits : row_place edition count ≤ length room) where
    pub encode_none : placed (rows_frame edition 5 count) 0 room ≡ over (bytes_to 0) room
    unfolding bytes_to tab rows_bytes
    encode_none =
        placed-behind [] (rows_frame edition 5 count) room 0 refl (omega (arith, frame_length edition 5 count))
        ∙ ap (λ (l : List ℕ). over l room) (sym (append-nil (rows_frame edition 5 count)))

    -- row r behind those that are placed
    pub encode_more :
        (start : ℕ) → start ≡ rows_place edition → (i : ℕ) → i < count → (out after bytes : List ℕ) (r : Row) → out ≡ over (bytes_to i) room
        → bytes ≡ row_bytes r → r ≡ f i → after ≡ placed bytes (start + 5 * i) out → after ≡ over (bytes_to (i + 1)) room
    encode_more start at i h out after bytes r e b q g =
        (rw (at, b, q, e) at g)
        ∙ placed-behind (bytes_to i) (row_bytes (f i)) room (row_place edition i) (length-bytes i) (omega arith)
        ∙ ap (λ (l : List ℕ). over l room) (bytes-more i)

  -- writing them, by the test that the code makes

  module _ (room : List ℕ) (wanted : ℕ) (whole : wanted ≡ row_place edition count) where
    long : length (witness_bytes edition (tab f count)) ≡ wanted
    long = witness_length edition (tab f count) ∙ ap (row_place edition) (length-tab f count) ∙ sym whole

    pub rows_short : length room < wanted → Writes (write (Ok tt) (witness_bytes edition (tab f count)) room) (Err (WriteRoom wanted)) room
    rows_short h = rw (long, lt-leb _ _ h) (writes_by _ _ _ refl refl)

    pub rows_fit :
        wanted ≤ length room → (after : List ℕ) (i : ℕ) → i ≡ count → after ≡ over (bytes_to i) room
        → Writes (write (Ok tt) (witness_bytes edition (tab f count)) room) (Ok wanted) after
    rows_fit h after i all e =
        rw (long, le-leb _ _ h) (writes_by _ _ _ refl (e ∙ ap (λ (k : ℕ). over (bytes_to k) room) all ∙ ap (λ (l : List ℕ). over l room) bytes-all ∙ rw long))
