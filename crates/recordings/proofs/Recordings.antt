-- Rows of a recording: one turn of the scan, the answer by its parts, and the bytes of its rows.
use Prim.Native.Nat.{ℕ, suc, ◌+◌, ◌-◌, ◌*◌, ◌≤◌, ◌<◌}
use native.Mathlib.Omega.{arith}
use native.Mathlib.Numerals.{add-one}
use mathlib.Core.Path.{◌≡◌, refl, sym, ap, ◌∙◌}
use mathlib.Core.List.{List, [], ◌++◌}
use mathlib.Core.Bool.{true}
use lib.Dec.{ltb}
use lib.ListN.{length, take, length-append}
use borrow.Author.Tests.{le-leb, lt-leb}
use Rattle.model.specs.Limits.{row_limit}
use Rattle.model.specs.Bytes.{joined}
use Rattle.model.specs.Frame.{rows_frame}
use Rattle.model.specs.First.{and_then, Reading, Writing}
use Rattle.model.specs.Answers.{Writes}
use Rattle.model.specs.Room.{write, over}
use Rattle.model.specs.Monitor.{airtime}
use Rattle.model.specs.Table.{table_answer}
use Rattle.model.specs.Recording.{count_at, time_at, row_kind_at, clear_of_before, recorded_row, recorded_rows, recording_scan, recording_answer, recording_parts, no_recording, recorded_bytes, recording_bytes, recording_early, recording_writable, write_recording}
use Rattle.model.specs.declared.Edition.TheVariants.{One}
use Rattle.model.specs.declared.RecordingParts.{RecordingParts}
use Rattle.model.specs.declared.Refusal.TheVariants.{RecordingCount}
use Rattle.std.specs.Prelude.{Ok, Err}
use Rattle.model.specs.declared.Refusal.{Refusal}
use Rattle.model.proofs.Tests.{then_sound}
use Rattle.model.proofs.RecordingForm.{recording_facts}
use Rattle.scan.proofs.Scans.{left}
use Rattle.columns.specs.Filled.{filled}
use Rattle.columns.proofs.Columns.{filled_zeros, joined-long}
use Rattle.monitor.specs.From.{monitor_from}
use Rattle.monitor.proofs.Described.{airtime-from}
use Rattle.frame.proofs.Written.{taken, write-refused}

module _ (table b : List ℕ) where
  pub clear_first : (i : ℕ) → i ≡ 0 → clear_of_before table b i ≡ true
  unfolding clear_of_before
  clear_first i e = rw e

  pub clear_behind : (i before air : ℕ) → i ≡ suc before → ((offsets : List ℕ) → air ≡ airtime (monitor_from table offsets) (row_kind_at b before))
      → clear_of_before table b i ≡ ltb (time_at b before + air) (time_at b i)
  unfolding clear_of_before
  clear_behind i before air e takes = rw (e, takes [], airtime-from table [] (row_kind_at b before))

  pub rows_turn : (n i : ℕ) → i < n → recorded_rows (n - i) table b i ≡ and_then (recorded_row table b i) (recorded_rows (n - (i + 1)) table b (i + 1))
  unfolding recorded_rows
  rows_turn n i h = rw (left n i h, add-one i, then_sound (recorded_rows (n - suc i) table b (suc i)))

  pub rows_end : (n i : ℕ) → n ≤ i → recorded_rows (n - i) table b i ≡ Ok tt
  unfolding recorded_rows
  rows_end n i h = let none : n - i ≡ 0 = omega arith in rw none

  pub count_bound : recording_answer table b ≡ Ok tt → count_at b ≤ row_limit
  count_bound h = (recording_facts table b h).rows.count

-- columns over zeros
pub parts_are :
    (b : List ℕ) (r : RecordingParts) → r ≡ no_recording → (n : ℕ) → n ≡ count_at b → n ≤ row_limit → (times kinds : List ℕ)
    → times ≡ filled (time_at b) n r.times → kinds ≡ filled (row_kind_at b) n r.kinds → record { count = n; times = times; kinds = kinds } ≡ recording_parts b
unfolding recording_parts no_recording
parts_are b r none n counted few times kinds t k =
    rw (
      t ∙ filled_zeros (time_at b) n row_limit r.times few (ap (λ (q : RecordingParts). q.times) none),
      k ∙ filled_zeros (row_kind_at b) n row_limit r.kinds few (ap (λ (q : RecordingParts). q.kinds) none),
      counted,
    )

-- writing

pub long-rows : (count : ℕ) (times kinds : List ℕ) (i : ℕ) → length (rows_frame One 3 count ++ joined (recorded_bytes times kinds) i) ≡ 5 + 3 * i
long-rows count times kinds i =
    length-append (rows_frame One 3 count) (joined (recorded_bytes times kinds) i) ∙ omega (arith, joined-long (recorded_bytes times kinds) 3 i (λ j h. refl))

module _ (table : List ℕ) (r : RecordingParts) (room : List ℕ) where
  -- the table's numbers
  pub write_first : (why : Refusal) → table_answer table ≡ Err why → Writes (write_recording table r room) (Err why) room
  unfolding write_recording recording_writable recording_early
  write_first why e = write-refused _ (recording_bytes r) room why (rw e)

  module _ (sound : table_answer table ≡ Ok tt) where
    -- 22
    pub write_many : row_limit < r.count → Writes (write_recording table r room) (Err RecordingCount) room
    unfolding write_recording recording_writable recording_early
    write_many h = write-refused _ (recording_bytes r) room RecordingCount (rw (sound, lt-leb _ _ h))

    pub write_late : (bytes : List ℕ) (answer : Reading) → r.count ≤ row_limit → bytes ≡ recording_bytes r → answer ≡ recording_scan table bytes
        → (w : Writing) (after : List ℕ) → Writes (write answer bytes room) w after → Writes (write_recording table r room) w after
    unfolding write_recording recording_writable recording_early recording_answer
    write_late bytes answer few e g w after h = rw (sound, le-leb _ _ few, ← e, then_sound (recording_scan table bytes), ← g, then_sound answer) h

pub bytes_are : (r : RecordingParts) → rows_frame One 3 r.count ++ joined (recorded_bytes r.times r.kinds) r.count ≡ recording_bytes r
unfolding recording_bytes
bytes_are r = refl

pub encoded : (r : RecordingParts) (room out : List ℕ) (n : ℕ) → out ≡ over (recording_bytes r) room → n ≡ 5 + 3 * r.count → take n out ≡ recording_bytes r
encoded r room out n e h = taken (recording_bytes r) room out n e (sym (ap length (bytes_are r)) ∙ long-rows r.count r.times r.kinds r.count ∙ sym h)
