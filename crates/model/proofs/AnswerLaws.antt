-- What reading and writing promise of an answer that is the definition's.
use Prim.Native.Nat.{ℕ, ◌*◌}
use mathlib.Core.Path.{◌≡◌, refl, sym, ap, subst, ◌∙◌}
use mathlib.Core.List.{List}
use Rattle.std.specs.Prelude.{Result, Ok, Err}
use lib.ListN.{length}
use Rattle.model.specs.Answers.{Reads, RefusesUnreached, Writes}
use Rattle.model.specs.First.{Reading, Writing, read_as, answer_of}
use Rattle.model.specs.Numbers.{reading_values, writing_values}
use Rattle.model.specs.Devices.{JudgesDevices}
use Rattle.model.specs.Limits.{guard_limit, transition_limit}
use Rattle.model.specs.Room.{Lent}
use Rattle.model.specs.Table.{table_answer, table_parts, read_table, table_bytes, write_table}
use Rattle.model.specs.Recording.{recording_answer, recording_parts, read_recording}
use Rattle.model.specs.Witness.{witness_answer, witness_parts, read_witness}
use Rattle.model.specs.declared.Edition.{Edition}
use Rattle.model.specs.declared.Refusal.{Refusal}
use Rattle.model.specs.declared.RecordingParts.{RecordingParts}
use Rattle.model.specs.declared.WitnessParts.{WitnessParts}
use Rattle.model.specs.declared.TableParts.{TableParts}
use Rattle.model.proofs.DeviceLaws.{read_judged, written-judged}
use Rattle.model.proofs.TableStates.{refuses_unreached}

-- a reading that is the definition's
pub read-answer : {P : Type 0} (given : Reading) (parts : P) → answer_of (read_as given parts) ≡ given
read-answer (Ok _) parts = refl
read-answer (Err why) parts = refl

pub reads_by : {P : Type 0} (given : Reading) (whole : P) (result : Result P Refusal) → result ≡ read_as given whole → Reads given whole result
reads_by {P} given whole result same =
    record {
      sound = λ e. let is : result ≡ Ok whole = same ∙ ap (λ g. read_as g whole) e in (ap (λ (r : Result P Refusal). reading_values (answer_of r)) is, is);
      refused = λ why e. let is : result ≡ Err why = same ∙ ap (λ g. read_as g whole) e in (ap (λ (r : Result P Refusal). reading_values (answer_of r)) is, is);
    }

-- what the three readings promise

pub table_reads : (b : List ℕ) (x : Result TableParts Refusal) → x ≡ read_table b
    → (x ≡ read_table b)
    × (Reads (table_answer b) (table_parts b) x × RefusesUnreached b (answer_of x) × JudgesDevices (table_parts b) b (reading_values (answer_of x)))
unfolding read_table
table_reads b x e =
    let answer : answer_of x ≡ table_answer b = ap (λ (y : Result TableParts Refusal). answer_of y) e ∙ read-answer (table_answer b) (table_parts b) in (
      e,
      (
        reads_by _ _ _ e,
        subst (λ (r : Reading). RefusesUnreached b r) (sym answer) (refuses_unreached b),
        subst (λ (r : Reading). JudgesDevices (table_parts b) b (reading_values r)) (sym answer) (read_judged b),
      ),
    )

pub recording_reads : (table b : List ℕ) (x : Result RecordingParts Refusal) → x ≡ read_recording table b
    → (x ≡ read_recording table b) × Reads (recording_answer table b) (recording_parts b) x
unfolding read_recording
recording_reads table b x e = (e, reads_by _ _ _ e)

pub witness_reads : (edition : Edition) (b : List ℕ) (x : Result WitnessParts Refusal) → x ≡ read_witness edition b
    → (x ≡ read_witness edition b) × Reads (witness_answer edition b) (witness_parts edition b) x
unfolding read_witness
witness_reads edition b x e = (e, reads_by _ _ _ e)

pub writes_by : (given : Lent) (answer : Writing) (room : List ℕ) → answer ≡ given.answer → room ≡ given.room → Writes given answer room
writes_by given answer room same lent = record { answered = same; numbers = ap writing_values same; lent = lent }

-- what writing a table promises
pub table_writes : (t : TableParts) → length t.guards ≡ guard_limit * transition_limit → (room : List ℕ) (w : Writing) (room_then : List ℕ) → Writes (write_table t room) w room_then
    → Writes (write_table t room) w room_then × JudgesDevices t (table_bytes t) (writing_values w)
table_writes t full room w room_then g = (g, subst (JudgesDevices t (table_bytes t)) (sym g.numbers) (written-judged t full room))
