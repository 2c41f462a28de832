-- Parts written into a room and read back from what was written (demand 2): the first refusal of either, else the same parts.
use Rattle.std.specs.Prelude.{ℕ, ◌≡◌, List, take, Result, Ok, Err}
use Rattle.model.specs.Room.{Lent}
use Rattle.model.specs.Numbers.{values, reading_values}
use Rattle.model.specs.Table.{read_table}
use Rattle.model.specs.Recording.{read_recording}
use Rattle.model.specs.Witness.{read_witness}
use Rattle.model.specs.Same.{SameTable, TableZero, SameRecording, RecordingZero, SameWitness, WitnessZero}
use Rattle.model.specs.declared.Edition.{Edition}
use Rattle.model.specs.declared.TableParts.{TableParts}
use Rattle.model.specs.declared.RecordingParts.{RecordingParts}
use Rattle.model.specs.declared.WitnessParts.{WitnessParts}
use Rattle.model.specs.declared.Refusal.{Refusal}
use Rattle.model.specs.First.{Writing, answer_of}

-- what was written is read, and a refusal stays
abbrev pub back_by : {P : Type 0} → (ℕ → Result P Refusal) → Writing → Result P Refusal
back_by read (Ok n) = read n
back_by read (Err why) = Err why

-- by writing's answer and the room after it

abbrev pub table_back : Lent → Result TableParts Refusal
table_back given = back_by (λ n. read_table (take n given.room)) given.answer

abbrev pub recording_back : List ℕ → Lent → Result RecordingParts Refusal
recording_back table given = back_by (λ n. read_recording table (take n given.room)) given.answer

abbrev pub witness_back : Edition → Lent → Result WitnessParts Refusal
witness_back edition given = back_by (λ n. read_witness edition (take n given.room)) given.answer

-- parts, with the numbers 0, 0 and 0: the same as those written, and 0 beyond them
pub record Kept {P : Type 0} (Same : P → P → Type 0) (IsZero : P → Type 0) (t : P) (x : Result P Refusal) : Type 0 where
  pub parts : P
  pub sound : x ≡ Ok parts
  pub numbers : reading_values (answer_of x) ≡ values 0 0 0
  pub same : Same parts t
  pub beyond : IsZero parts

abbrev pub TableKept : TableParts → Result TableParts Refusal → Type 0
TableKept t x = Kept SameTable TableZero t x

abbrev pub RecordingKept : RecordingParts → Result RecordingParts Refusal → Type 0
RecordingKept r x = Kept SameRecording RecordingZero r x

abbrev pub WitnessKept : WitnessParts → Result WitnessParts Refusal → Type 0
WitnessKept w x = Kept SameWitness WitnessZero w x

-- room and reading are the definition's; and where something was written, it is kept
pub record ReadsBack (given : Lent) (room_then : List ℕ) {A : Type 0} (read x : A) (kept : Type 0) : Type 0 where
  pub lent : room_then ≡ given.room
  pub answered : x ≡ read
  pub back : (n : ℕ) → given.answer ≡ Ok n → kept
