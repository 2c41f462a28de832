-- The recording, read and written against a table, whose numbers come first.
use Rattle.std.specs.Prelude.{ℕ, zero, suc, ◌+◌, ◌*◌, ◌≡◌, List, [], ◌∷◌, ◌++◌, Bool, true, get_or, replicate, leb, ltb, Result, Ok}
use Rattle.model.specs.Limits.{row_limit, time_limit}
use Rattle.model.specs.Bytes.{byte_at, word_at, word_bytes, tab, joined, padded}
use Rattle.model.specs.First.{unless, first_of, Reading, read_as}
use Rattle.model.specs.Frame.{framed_rows, rows_frame}
use Rattle.model.specs.Room.{Lent, write}
use Rattle.model.specs.Monitor.{airtime}
use Rattle.model.specs.Trace.{Packet}
use Rattle.model.specs.Table.{table_answer, kinds_at, monitor_at}
use Rattle.model.specs.declared.RecordingParts.{RecordingParts}
use Rattle.model.specs.declared.Edition.TheVariants.{One}
use Rattle.model.specs.declared.Refusal.{Refusal}
use Rattle.model.specs.declared.Refusal.TheVariants.{RecordingFrame, RecordingVersion, RecordingCount, RecordingRange, RecordingOrder}

-- "two-byte count n (0 to 512), then n rows of two-byte time (1 to 4,096)", to 65,535 since R-5, "and kind"
abbrev pub count_at : List ℕ → ℕ
count_at b = word_at b 3

abbrev pub time_at : List ℕ → ℕ → ℕ
time_at b i = word_at b (5 + 3 * i)

abbrev pub row_kind_at : List ℕ → ℕ → ℕ
row_kind_at b i = byte_at b (7 + 3 * i)

-- 24: "row overlaps or precedes the one before". The first row has none before it
unfoldable pub clear_of_before : List ℕ → List ℕ → ℕ → Bool
clear_of_before table b zero = true
clear_of_before table b (suc i) = ltb (time_at b i + airtime (monitor_at table) (row_kind_at b i)) (time_at b (suc i))

-- "Rows go front to back, 23 before 24"
unfoldable pub recorded_row : List ℕ → List ℕ → ℕ → Reading
recorded_row table b i =
    first_of
    (unless (leb 1 (time_at b i)) (RecordingRange i)
    ∷ unless (leb (time_at b i) time_limit) (RecordingRange i)
    ∷ unless (ltb (row_kind_at b i) (kinds_at table)) (RecordingRange i)
    ∷ unless (clear_of_before table b i) (RecordingOrder i)
    ∷ [])

-- n rows from row i on
unfoldable pub recorded_rows : ℕ → List ℕ → List ℕ → ℕ → Reading
recorded_rows zero table b i = Ok tt
recorded_rows (suc n) table b i = first_of (recorded_row table b i ∷ recorded_rows n table b (suc i) ∷ [])

-- 20, 21 and 22
unfoldable pub recording_frame : List ℕ → Reading
recording_frame b = framed_rows One b 3 row_limit RecordingFrame RecordingVersion RecordingCount

-- 20 to 24, the recording's own numbers
unfoldable pub recording_scan : List ℕ → List ℕ → Reading
recording_scan table b = first_of (recording_frame b ∷ recorded_rows (count_at b) table b 0 ∷ [])

-- the table's numbers, then the recording's
unfoldable pub recording_answer : List ℕ → List ℕ → Reading
recording_answer table b = first_of (table_answer table ∷ recording_scan table b ∷ [])

unfoldable pub recording_parts : List ℕ → RecordingParts
recording_parts b =
    record {
      count = count_at b;
      times = padded row_limit (tab (time_at b) (count_at b));
      kinds = padded row_limit (tab (row_kind_at b) (count_at b));
    }

unfoldable pub no_recording : RecordingParts
no_recording = record { count = 0; times = replicate row_limit 0; kinds = replicate row_limit 0 }

unfoldable pub read_recording : List ℕ → List ℕ → Result RecordingParts Refusal
read_recording table b = read_as (recording_answer table b) (recording_parts b)

-- "a recording [is sound] if none from 20 to 24 does" apply, against a sound table
abbrev pub SoundRecording : List ℕ → List ℕ → Type 0
SoundRecording table b = recording_answer table b ≡ Ok tt

-- the rows of a recording, as packets

unfoldable pub packets_of : RecordingParts → List Packet
packets_of r = tab (λ i. record { time = get_or r.times i 0; kind = get_or r.kinds i 0 }) r.count

abbrev pub packets_at : List ℕ → List Packet
packets_at b = packets_of (recording_parts b)

-- "Let T be the last recorded time, 0 if there is none"
unfoldable pub end_of : List Packet → ℕ
end_of [] = 0
end_of (p ∷ []) = p.time
end_of (p ∷ q ∷ r) = end_of (q ∷ r)

-- the bytes of parts

abbrev pub recorded_bytes : (times kinds : List ℕ) → ℕ → List ℕ
recorded_bytes times kinds i = word_bytes (get_or times i 0) ++ (get_or kinds i 0 ∷ [])

unfoldable pub recording_bytes : RecordingParts → List ℕ
recording_bytes r = rows_frame One 3 r.count ++ joined (recorded_bytes r.times r.kinds) r.count

-- writing: the table's numbers, then 22 for a count outside its limits
unfoldable pub recording_early : List ℕ → (count : ℕ) → Reading
recording_early table count = first_of (table_answer table ∷ unless (leb count row_limit) RecordingCount ∷ [])

-- .. then the numbers that reading the same bytes would give
unfoldable pub recording_writable : List ℕ → RecordingParts → Reading
recording_writable table r = first_of (recording_early table r.count ∷ recording_answer table (recording_bytes r) ∷ [])

unfoldable pub write_recording : List ℕ → RecordingParts → List ℕ → Lent
write_recording table r room = write (recording_writable table r) (recording_bytes r) room
