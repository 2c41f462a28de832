-- What is written reads back to the same parts.
use Prim.Native.Nat.{ℕ, ◌*◌, ◌<◌, ◌≤◌}
use native.Mathlib.Omega.{arith}
use mathlib.Core.Path.{◌≡◌, sym, ap, subst, ◌∙◌}
use mathlib.Core.List.{List, [], ◌∷◌}
use lib.ListN.{length, take}
use lib.Dec.{leb}
use lib.Seq.{length-take-le}
use Rattle.model.specs.Limits.{transition_limit, guard_limit, row_limit}
use Rattle.model.specs.Edition.{count_place, most_rows}
use Rattle.model.specs.Answers.{Writes}
use Rattle.model.specs.Bytes.{byte_at}
use Rattle.model.specs.First.{unless, read_as, answer_of, Reading, Writing}
use Rattle.model.specs.Numbers.{reading_values}
use Rattle.model.specs.Room.{Lent, write}
use Rattle.model.specs.Table.{table_answer, table_bytes, table_parts, read_table, table_writable, write_table}
use Rattle.model.specs.Recording.{recording_answer, recording_bytes, recording_parts, read_recording, recording_early, recording_writable, write_recording}
use Rattle.model.specs.Witness.{witness_answer, witness_bytes, witness_parts, read_witness, rows_in, witness_writable, write_witness}
use Rattle.model.specs.declared.Edition.{Edition}
use Rattle.model.specs.declared.TableParts.{TableParts}
use Rattle.model.specs.declared.RecordingParts.{RecordingParts}
use Rattle.model.specs.declared.WitnessParts.{WitnessParts}
use Rattle.std.specs.Prelude.{Result, Ok, Err}
use Rattle.model.specs.declared.Refusal.{Refusal}
use Rattle.model.specs.declared.Refusal.TheVariants.{RecordingCount, WitnessCount}
use Rattle.model.proofs.Tests.{test, le_test}
use Rattle.model.specs.Same.{SameTable, TableZero, SameRecording, RecordingZero, SameWitness, WitnessZero}
use Rattle.model.proofs.RoomLaws.{written}
use Rattle.model.proofs.TableForm.{scan_sound}
use Rattle.model.proofs.TableTrip.{sound_back, table_back_lem, zero_beyond}
use Rattle.model.proofs.RecordingForm.{recording_back_lem, recording_zero}
use Rattle.model.proofs.WitnessForm.{witness_parts_back, witness_zero}
use Rattle.read_back.specs.Back.{back_by, Kept, TableKept, RecordingKept, WitnessKept, ReadsBack}

-- what was written lies within the room
module _ (w : Writing) (room_then : List ℕ) (n : ℕ) where
  fits : (a : Reading) (bytes room : List ℕ) → Writes (write a bytes room) w room_then → w ≡ Ok n → n ≤ length room_then
  fits a bytes room g done = subst (λ (r : List ℕ). n ≤ length r) (sym g.lent) (written a bytes room n (sym g.answered ∙ done)).2

  pub table_fits : (t : TableParts) (room : List ℕ) → Writes (write_table t room) w room_then → w ≡ Ok n → n ≤ length room_then
  unfolding write_table
  table_fits t room = fits (table_writable t) (table_bytes t) room

  pub recording_fits : (table : List ℕ) (r : RecordingParts) (room : List ℕ) → Writes (write_recording table r room) w room_then → w ≡ Ok n → n ≤ length room_then
  unfolding write_recording
  recording_fits table r room = fits (recording_writable table r) (recording_bytes r) room

  pub witness_fits : (edition : Edition) (v : WitnessParts) (room : List ℕ) → Writes (write_witness edition v room) w room_then → w ≡ Ok n → n ≤ length room_then
  unfolding write_witness
  witness_fits edition v room = fits (witness_writable edition v) (witness_bytes edition (rows_in v)) room

pub ruleset fitting = (table_fits, recording_fits, witness_fits, length-take-le)

-- a function's two ways out, by writing's answer
module _ (given : Lent) (room_then : List ℕ) (w : Writing) (g : Writes given w room_then) {P : Type 0} (read : List ℕ → Result P Refusal) (x : Result P Refusal) (kept : Type 0) where
  abbrev back : Result P Refusal
  back = back_by (λ n. read (take n given.room)) given.answer

  pub read_back : (n : ℕ) → w ≡ Ok n → x ≡ read (take n room_then) → (given.answer ≡ Ok n → x ≡ read (take n given.room) → kept) → ReadsBack given room_then back x kept
  read_back n done e keep =
      let answer : given.answer ≡ Ok n = sym g.answered ∙ done in
      let same : x ≡ read (take n given.room) = e ∙ ap (λ (r : List ℕ). read (take n r)) g.lent in
      record { lent = g.lent; answered = same ∙ ap (back_by (λ m. read (take m given.room))) (sym answer); back = λ m p. keep answer same }

  pub not_written : (why : Refusal) → w ≡ Err why → x ≡ Err why → ReadsBack given room_then back x kept
  not_written why e f =
      record { lent = g.lent; answered = f ∙ ap (back_by (λ n. read (take n given.room))) (sym e ∙ g.answered); back = λ m p. absurd (never m (sym e ∙ g.answered ∙ p)) }
    where
      never : (m : ℕ) → Err why ≡ Ok m → ⊥
      never m q = let z : ◌≡◌ {A = ℕ} 0 1 = cc in omega arith

-- a sound reading, whose parts are kept
kept_by : {P : Type 0} (Same : P → P → Type 0) (IsZero : P → Type 0) (t : P) (answer : Reading) (whole : P) (x : Result P Refusal)
    → x ≡ read_as answer whole → answer ≡ Ok tt → Same whole t → IsZero whole → Kept Same IsZero t x
kept_by {P} Same IsZero t answer whole x read sound same beyond =
    let is : x ≡ Ok whole = read ∙ ap (λ (a : Reading). read_as a whole) sound in
    record { parts = whole; sound = is; numbers = ap (λ (r : Result P Refusal). reading_values (answer_of r)) is; same = same; beyond = beyond }

module _ (t : TableParts) (room : List ℕ) (x : Result TableParts Refusal) where
  pub table_kept : length t.guards ≡ guard_limit * transition_limit → (n : ℕ) → (write_table t room).answer ≡ Ok n → x ≡ read_table (take n (write_table t room).room) → TableKept t x
  unfolding write_table read_table
  table_kept full n done read =
      let bytes : List ℕ = table_bytes t in
      let (writable, stands, _) = written (table_writable t) bytes room n done in
      let sound : table_answer bytes ≡ Ok tt = sound_back t full writable in
      kept_by SameTable TableZero t (table_answer bytes) (table_parts bytes) x (read ∙ ap read_table stands) sound
      (table_back_lem t full (scan_sound t.devices bytes writable)) (zero_beyond bytes sound)

module _ (table : List ℕ) (r : RecordingParts) (room : List ℕ) (x : Result RecordingParts Refusal) where
  pub recording_kept : ((i : ℕ) → i < r.count → byte_at r.times i < 65536) → (n : ℕ) → (write_recording table r room).answer ≡ Ok n
      → x ≡ read_recording table (take n (write_recording table r room).room) → RecordingKept r x
  unfolding write_recording read_recording recording_writable recording_early
  recording_kept times n done read =
      let bytes : List ℕ = recording_bytes r in
      let (writable, stands, _) = written (recording_writable table r) bytes room n done in
      let early : List Reading = table_answer table ∷ unless (leb r.count row_limit) RecordingCount ∷ [] in
      let all : List Reading = recording_early table r.count ∷ recording_answer table bytes ∷ [] in
      let few : r.count ≤ row_limit = le_test _ _ RecordingCount (test early (test all writable 0) 1) in
      kept_by SameRecording RecordingZero r (recording_answer table bytes) (recording_parts bytes) x (read ∙ ap (read_recording table) stands) (test all writable 1)
      (recording_back_lem r few times) (recording_zero bytes)

module _ (edition : Edition) (v : WitnessParts) (room : List ℕ) (x : Result WitnessParts Refusal) where
  pub witness_kept : ((i : ℕ) → i < v.count → byte_at v.times i < 65536) → (n : ℕ) → (write_witness edition v room).answer ≡ Ok n
      → x ≡ read_witness edition (take n (write_witness edition v room).room) → WitnessKept v x
  unfolding write_witness read_witness witness_writable
  witness_kept times n done read =
      let bytes : List ℕ = witness_bytes edition (rows_in v) in
      let (writable, stands, _) = written (witness_writable edition v) bytes room n done in
      let all : List Reading = unless (leb v.count (most_rows edition)) (WitnessCount (count_place edition)) ∷ witness_answer edition bytes ∷ [] in
      let few : v.count ≤ most_rows edition = le_test _ _ (WitnessCount (count_place edition)) (test all writable 0) in
      kept_by SameWitness WitnessZero v (witness_answer edition bytes) (witness_parts edition bytes) x (read ∙ ap (read_witness edition) stands) (test all writable 1)
      (witness_parts_back edition v few times) (witness_zero edition bytes)
