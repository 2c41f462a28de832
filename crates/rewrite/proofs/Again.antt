-- Sound bytes read and written again are the same bytes.
use Prim.Native.Nat.{ℕ}
use mathlib.Core.Path.{◌≡◌, sym, ap, subst, ◌∙◌}
use mathlib.Core.List.{List, [], ◌∷◌}
use lib.Dec.{leb}
use borrow.Author.Tests.{le-leb}
use Rattle.model.specs.Limits.{row_limit}
use Rattle.model.specs.Edition.{count_place, most_rows}
use Rattle.model.specs.Answers.{Writes}
use Rattle.model.specs.First.{unless, first_of, read_as, Reading, Writing}
use Rattle.model.specs.Bytes.{tab}
use Rattle.model.specs.Room.{Lent, write}
use Rattle.model.specs.Table.{table_answer, table_parts, write_table, answer_with, device_column}
use Rattle.model.specs.Recording.{recording_answer, recording_parts, recording_early, recording_writable, write_recording, count_at}
use Rattle.model.specs.Witness.{row_at, witness_answer, witness_parts, witness_bytes, witness_writable, write_witness, witness_count_at}
use Rattle.model.specs.declared.Edition.{Edition}
use Rattle.std.specs.Prelude.{Ok, Err}
use Rattle.model.specs.declared.Refusal.{Refusal}
use Rattle.model.specs.declared.Refusal.TheVariants.{WitnessCount}
use Rattle.model.proofs.AnswerLaws.{writes_by}
use Rattle.model.proofs.Places.{AllBytes}
use Rattle.model.proofs.TableTrip.{table_again}
use Rattle.model.proofs.RecordingForm.{recording_facts, sound_table, recording_again}
use Rattle.model.proofs.WitnessForm.{witness_facts, witness_again, witness_rows}
use Rattle.tables.proofs.Readings.{answer_same, parts_same}
use Rattle.rewrite.specs.Rewriting.{again, Rewrites, rewrite_witness}

module _ (answer : Reading) (b room : List ℕ) (written : Lent) (same : answer ≡ Ok tt → written ≡ write (Ok tt) b room) where
  same-again : answer ≡ Ok tt → again answer written room ≡ write (Ok tt) b room
  same-again e = ap (λ (a : Reading). again a written room) e ∙ same e

  pub refused : (why : Refusal) → answer ≡ Err why → Rewrites answer b room room (again answer written room) (Err why)
  refused why e =
      record {
        writes = writes_by _ _ _ (ap (λ (a : Reading). (again a written room).answer) (sym e)) (ap (λ (a : Reading). (again a written room).room) (sym e));
        same = same-again;
      }

  pub rewritten : answer ≡ Ok tt → (r : Writing) (room_then : List ℕ) → Writes written r room_then → Rewrites answer b room room_then (again answer written room) r
  rewritten e r room_then w = record { writes = subst (λ (a : Reading). Writes (again a written room) r room_then) (sym e) w; same = same-again }

pub table_same : (b room : List ℕ) → AllBytes b → table_answer b ≡ Ok tt → write_table (table_parts b) room ≡ write (Ok tt) b room
unfolding write_table table_parts table_answer
table_same b room bytes sound =
    ap (λ (x : List ℕ). write (answer_with (device_column b) x) x room) (table_again b bytes sound) ∙ ap (λ (a : Reading). write a b room) sound

pub recording_same : (table b room : List ℕ) → AllBytes b → recording_answer table b ≡ Ok tt → write_recording table (recording_parts b) room ≡ write (Ok tt) b room
unfolding write_recording recording_writable recording_early recording_parts
recording_same table b room bytes sound =
    ap (λ (x : List ℕ). write (first_of (recording_early table (count_at b) ∷ recording_answer table x ∷ [])) x room)
    (recording_again table b bytes sound)
    ∙ ap (λ (a : Reading). write a b room) writable
  where
    writable : first_of (recording_early table (count_at b) ∷ recording_answer table b ∷ []) ≡ Ok tt
    writable = rw (sound_table table b sound, le-leb (count_at b) row_limit (recording_facts table b sound).rows.count, sound)

pub witness_same : (edition : Edition) (b room : List ℕ) → AllBytes b → witness_answer edition b ≡ Ok tt → write_witness edition (witness_parts edition b) room ≡ write (Ok tt) b room
unfolding write_witness witness_writable witness_parts
witness_same edition b room bytes sound =
    ap (λ (x : List ℕ). write (first_of (unless (leb (witness_count_at edition b) (most_rows edition)) (WitnessCount (count_place edition)) ∷ witness_answer edition x ∷ [])) x room)
    (ap (witness_bytes edition) (witness_rows edition b) ∙ witness_again edition b bytes sound)
    ∙ ap (λ (a : Reading). write a b room) writable
  where
    writable : first_of (unless (leb (witness_count_at edition b) (most_rows edition)) (WitnessCount (count_place edition)) ∷ witness_answer edition b ∷ []) ≡ Ok tt
    writable = rw (le-leb (witness_count_at edition b) (most_rows edition) (witness_facts edition b sound).rows.count, sound)

-- the functions' ways out, by what reading gave

module _ {P : Type 0} (answer : Reading) (whole : P) (b room : List ℕ) (write_parts : P → Lent) (same : answer ≡ Ok tt → write_parts whole ≡ write (Ok tt) b room) where
  pub read-refused : (why : Refusal) → Err why ≡ read_as answer whole → Rewrites answer b room room (again answer (write_parts whole) room) (Err why)
  read-refused why e = refused answer b room (write_parts whole) same why (sym (answer_same answer whole (Err why) e))

  pub read-rewritten : (parts : P) → Ok parts ≡ read_as answer whole → (r : Writing) (room_then : List ℕ) → Writes (write_parts parts) r room_then
      → Rewrites answer b room room_then (again answer (write_parts whole) room) r
  read-rewritten parts e r room_then w =
      rewritten answer b room (write_parts whole) same (sym (answer_same answer whole (Ok parts) e)) r room_then
      (subst (λ (p : P). Writes (write_parts p) r room_then) (parts_same answer whole parts e) w)

module _ (edition : Edition) (b room : List ℕ) (bytes : AllBytes b) where
  pub witness_refused : (why : Refusal) → witness_answer edition b ≡ Err why → Rewrites (witness_answer edition b) b room room (rewrite_witness edition b room) (Err why)
  unfolding rewrite_witness
  witness_refused why e = refused (witness_answer edition b) b room (write_witness edition (witness_parts edition b) room) (witness_same edition b room bytes) why e

  pub witness_rewritten : witness_answer edition b ≡ Ok tt → (r : Writing) (room_then : List ℕ)
      → Writes (write (Ok tt) (witness_bytes edition (tab (row_at edition b) (witness_count_at edition b))) room) r room_then
      → Rewrites (witness_answer edition b) b room room_then (rewrite_witness edition b room) r
  unfolding rewrite_witness
  witness_rewritten e r room_then w =
      rewritten (witness_answer edition b) b room (write_witness edition (witness_parts edition b) room) (witness_same edition b room bytes) e r room_then
      (rw (witness_same edition b room bytes e, ← witness_again edition b bytes e) w)
