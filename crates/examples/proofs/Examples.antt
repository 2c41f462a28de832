-- The desk's small monitor and its recordings P1 to P12 (document 01), for either edition of the witness, from the bytes of the page through the whole definition of validation:
-- the answer's three values and two counts, and every lent byte. Scratch and room are lent dirty.
use Prim.Native.Nat.{ℕ}
use mathlib.Core.Path.{◌≡◌, refl}
use mathlib.Core.List.{List, [], ◌∷◌, ◌++◌, map}
use Rattle.std.specs.Option.{option_and_then}
use lib.ListN.{length, drop, replicate}
use Rattle.model.specs.Bytes.{tab, joined, padded}
use Rattle.model.specs.Frame.{framed, framed_rows}
use Rattle.model.specs.Guard.{holds, largest, leaf_at, guard_at}
use Rattle.model.specs.Readiness.{greatest_bound, comes_by, readiness}
use Rattle.model.specs.Rule.{window_behind, set_bits, allows}
use Rattle.model.specs.Monitor.{Monitor, changed, reset, fires, within_rule, tried}
use Rattle.model.specs.Size.{largest_in, greatest, cap, table_size, size}
use Rattle.model.specs.Reach.{among, targets, reached_in, is_reached, lowest_missing, states_answer}
use Rattle.model.specs.Kinds.{implied_device, device_at, device_fits, kind_record}
use Rattle.model.specs.Table.{guard_in, transition_in, monitor_of, counts_of, kind_records, apart, transition_fields, guard_record, transition_record, transition_records, transition_at, guard_place, table_parts, scan_with, table_scan, whole_answer, answer_with, table_answer, monitor_at}
use Rattle.model.specs.Recording.{clear_of_before, recorded_row, recorded_rows, recording_frame, recording_scan, recording_answer, recording_parts, packets_of, packets_at, end_of}
use Rattle.model.specs.Ruled.{rule_answer, ruled_answer}
use Rattle.model.specs.Situation.{capped, sent, missed, moved, step_by, recorded_at, move_of, number, situation_of, step_number}
use Rattle.model.specs.Layers.{count, first_from, spread, image, layer, total, last_instant, cost, passing, leads, live, walk, least_moves}
use Rattle.model.specs.Pairs.{how_many, pairs, answer_in}
use Rattle.model.specs.Numbers.{Values, values, verdict_values, Counts, counts, verdict_counts}
use Rattle.model.specs.Witness.{rows_bytes, witness_bytes}
use Rattle.model.specs.Validation.{rows_by, rows_of, preferred, pairs_at, verdict, scratch_wanted, refusal_of, validation_of, validation, scratch_by, room_by, scratch_left, room_left, scratch_after, room_after, possible_after}
use Rattle.model.specs.Desk.{digits, row_lines, verdict_lines, judged_lines, table_length, lines_for, desk_lines}
use Rattle.model.specs.declared.Edition.{Edition}
use Rattle.model.specs.First.{Reading, Validating}
use Rattle.model.specs.declared.Edition.TheVariants.{One}

-- what a run leaves: its values, the scratch and the room
pub record Run : Type 0 where
  pub answer : Values
  pub counts : Counts
  pub scratch : List ℕ
  pub room : List ℕ

pub dirty_scratch : List ℕ
dirty_scratch = replicate 100 7

pub dirty_room : List ℕ
dirty_room = replicate 90 9

-- a run as the definitions give it
abbrev pub defined : Edition → (table recording : List ℕ) → ℕ → Run
defined edition table recording budget =
    record {
      answer = verdict_values (validation edition table recording budget (length dirty_scratch) (length dirty_room));
      counts = verdict_counts (validation edition table recording budget (length dirty_scratch) (length dirty_room));
      scratch = scratch_after edition table recording budget dirty_scratch dirty_room;
      room = room_after edition table recording budget dirty_scratch dirty_room;
    }

-- the same, with the verdict worked out once; given: the answer on table, recording and rule
unfoldable pub run_of : Reading → Edition → Monitor → (recording : List ℕ) → ℕ → Run
unfolding dirty_scratch dirty_room tab joined padded holds largest leaf_at guard_at changed reset fires largest_in greatest cap table_size size among targets reached_in is_reached lowest_missing states_answer whole_answer rule_answer ruled_answer guard_in transition_in monitor_of framed framed_rows counts_of implied_device device_at device_fits kind_record kind_records apart transition_fields guard_record transition_record transition_records transition_at guard_place table_parts scan_with table_scan answer_with table_answer clear_of_before recorded_row recorded_rows recording_frame recording_scan recording_answer recording_parts packets_of end_of capped window_behind set_bits allows within_rule sent missed moved step_by recorded_at move_of number situation_of step_number count first_from spread image layer total last_instant cost passing leads live walk least_moves rows_by rows_of preferred greatest_bound comes_by readiness tried how_many pairs answer_in pairs_at verdict refusal_of validation_of rows_bytes witness_bytes
run_of given edition m recording budget =
    let v : Validating = validation_of given edition m (packets_at recording) budget (length dirty_scratch) (length dirty_room) in
    record {
      answer = verdict_values v;
      counts = verdict_counts v;
      scratch = scratch_by v (scratch_wanted m (packets_at recording)) dirty_scratch;
      room = room_by v (witness_bytes edition (preferred m (packets_at recording))) dirty_room;
    }

abbrev pub run : Edition → (table recording : List ℕ) → ℕ → Run
run edition table recording = run_of (recording_answer table recording) edition (monitor_at table) recording

-- a run that answers 0, 1 or 2: so many bytes of the scratch are zero, and these stand at the start of the room
judged_with : Counts → Values → ℕ → List ℕ → Run
unfolding dirty_scratch dirty_room
judged_with both answer zeros witness =
    record { answer = answer; counts = both; scratch = replicate zeros 0 ++ drop zeros dirty_scratch; room = witness ++ drop (length witness) dirty_room }

-- where no pair is counted: so P3 and P9, which are rejected (R-10), and all that are not
judged : Values → ℕ → List ℕ → Run
unfolding judged_with
judged = judged_with (counts 0 0)

-- a rejection with its two counts, the room untouched
unfoldable pub rejected : Values → Counts → ℕ → Run
unfolding judged_with
rejected answer both zeros = judged_with both answer zeros []

unfoldable pub refused : Values → Run
unfolding dirty_scratch dirty_room
refused answer = record { answer = answer; counts = counts 0 0; scratch = dirty_scratch; room = dirty_room }

unfoldable pub table : List ℕ
table =
    0x00 ∷ 0x42 ∷ 0x01 ∷ 0x03 ∷ 0x00 ∷ 0x01 ∷ 0x03 ∷ 0x05 ∷ 0x00 ∷ 0x01 ∷ 0x00 ∷ 0x01 ∷ 0x01 ∷ 0x00 ∷ 0x00 ∷ 0x01 ∷ 0x00
    ∷ 0x00 ∷ 0x00 ∷ 0x01 ∷ 0x01 ∷ 0x00 ∷ 0x01 ∷ 0x00 ∷ 0x02 ∷ 0x00 ∷ 0x00 ∷ 0x00 ∷ 0x03 ∷ 0x01 ∷ 0x00 ∷ 0x03 ∷ 0x01 ∷ 0x02
    ∷ 0x01 ∷ 0x00 ∷ 0x00 ∷ 0x01 ∷ 0x08 ∷ 0x05 ∷ 0x04 ∷ 0x01 ∷ 0x00 ∷ 0x03 ∷ 0x01 ∷ 0x00 ∷ 0x06 ∷ 0x02 ∷ 0x00 ∷ 0x02 ∷ 0x00
    ∷ 0x00 ∷ 0x00 ∷ 0x03 ∷ 0x01 ∷ 0x00 ∷ 0x03 ∷ 0x02 ∷ 0x01 ∷ 0x00 ∷ 0x00 ∷ 0x00 ∷ 0x01 ∷ 0x04 ∷ 0x04 ∷ 0x01 ∷ 0x00 ∷ 0x03
    ∷ []

-- a recording of one, two or three rows, each a time below 256 and a kind: 0 DATA, 1 RETRY, 2 ACK

one : (t k : ℕ) → List ℕ
one t k = 0 ∷ 6 ∷ 1 ∷ 0 ∷ 1 ∷ 0 ∷ t ∷ k ∷ []

unfoldable pub two : (t k u l : ℕ) → List ℕ
two t k u l = 0 ∷ 9 ∷ 1 ∷ 0 ∷ 2 ∷ 0 ∷ t ∷ k ∷ 0 ∷ u ∷ l ∷ []

unfoldable pub p5 : List ℕ
p5 = 0 ∷ 12 ∷ 1 ∷ 0 ∷ 3 ∷ 0 ∷ 1 ∷ 0 ∷ 0 ∷ 3 ∷ 2 ∷ 0 ∷ 6 ∷ 1 ∷ []

unfoldable pub runs : Edition → (table : List ℕ) → List Run
unfolding run_of one two p5
runs edition table =
    run edition table (0 ∷ 3 ∷ 1 ∷ 0 ∷ 0 ∷ []) 0
    ∷ run edition table (one 1 0) 10000
    ∷ run edition table (one 1 1) 10000
    ∷ run edition table (one 1 2) 10000
    ∷ run edition table p5 10000
    ∷ run edition table p5 13
    ∷ run edition table p5 12
    ∷ run edition table p5 7
    ∷ run edition table (two 1 0 12 0) 10000
    ∷ run edition table (two 1 0 3 0) 10000
    ∷ run edition table (two 1 0 4 0) 10000
    ∷ run edition table (two 1 0 2 0) 10000
    ∷ run edition table (two 1 0 4 2) 10000
    ∷ run edition table (two 1 0 5 2) 10000
    ∷ []

p5_witness : List ℕ
p5_witness = 0 ∷ 18 ∷ 1 ∷ 0 ∷ 3 ∷ 0 ∷ 0 ∷ 1 ∷ 0 ∷ 0 ∷ 1 ∷ 0 ∷ 3 ∷ 2 ∷ 255 ∷ 0 ∷ 0 ∷ 6 ∷ 1 ∷ 2 ∷ []

-- P1 to P12 in order. P6 has two budgets and P12 two recordings. The page's witnesses have edition 1; form: what they are in the room
unfoldable pub expected : (form : List ℕ → List ℕ) → List Run
unfolding judged refused p5_witness
expected form =
    judged (values 0 0 0) 6 (form (0x00 ∷ 0x03 ∷ 0x01 ∷ 0x00 ∷ 0x00 ∷ []))
    ∷ judged (values 0 1 1) 12 (form (0x00 ∷ 0x08 ∷ 0x01 ∷ 0x00 ∷ 0x01 ∷ 0x00 ∷ 0x00 ∷ 0x01 ∷ 0x00 ∷ 0x00 ∷ []))
    ∷ judged (values 1 1 1) 12 []
    ∷ judged (values 0 1 1) 12 (form (0 ∷ 8 ∷ 1 ∷ 0 ∷ 1 ∷ 1 ∷ 0 ∷ 1 ∷ 2 ∷ 255 ∷ []))
    ∷ judged (values 0 13 3) 42 (form p5_witness)
    ∷ judged (values 0 13 3) 42 (form p5_witness)
    ∷ judged (values 2 12 6) 42 []
    ∷ judged (values 2 7 5) 42 []
    ∷ judged (values 0 100 3) 78 (form (0 ∷ 18 ∷ 1 ∷ 0 ∷ 3 ∷ 0 ∷ 0 ∷ 1 ∷ 0 ∷ 0 ∷ 2 ∷ 0 ∷ 7 ∷ 1 ∷ 2 ∷ 0 ∷ 0 ∷ 12 ∷ 0 ∷ 4 ∷ []))
    ∷ judged (values 1 3 3) 24 []
    ∷ judged (values 0 5 3) 30 (form (0 ∷ 18 ∷ 1 ∷ 0 ∷ 3 ∷ 0 ∷ 0 ∷ 1 ∷ 0 ∷ 0 ∷ 2 ∷ 0 ∷ 3 ∷ 2 ∷ 1 ∷ 0 ∷ 0 ∷ 4 ∷ 0 ∷ 0 ∷ []))
    ∷ refused (values 24 1 0)
    ∷ judged (values 0 5 2) 30 (form (0 ∷ 13 ∷ 1 ∷ 0 ∷ 2 ∷ 0 ∷ 0 ∷ 1 ∷ 0 ∷ 0 ∷ 0 ∷ 0 ∷ 4 ∷ 2 ∷ 1 ∷ []))
    ∷ judged (values 0 8 2) 36 (form (0 ∷ 13 ∷ 1 ∷ 0 ∷ 2 ∷ 0 ∷ 0 ∷ 1 ∷ 0 ∷ 0 ∷ 1 ∷ 0 ∷ 5 ∷ 2 ∷ 255 ∷ []))
    ∷ []

-- P5's input to the program: table, recording, four-byte budget
pub p5_input : List ℕ
unfolding table p5
p5_input = table ++ p5 ++ (0 ∷ 0 ∷ 39 ∷ 16 ∷ [])

pub works : (table recording : List ℕ) → ℕ → List ℕ
unfolding run_of
works table recording n = tab (λ t. count (possible_after (monitor_at table) (packets_at recording) t)) n

unfoldable pub printed : List ℕ → List ℕ
unfolding run_of digits row_lines verdict_lines judged_lines table_length lines_for
printed s = desk_lines s

-- accepted 13 3, kept 1 0 0, removed 3 2 255, kept 6 1 2: a line each
pub p5_output : List ℕ
p5_output =
    97 ∷ 99 ∷ 99 ∷ 101 ∷ 112 ∷ 116 ∷ 101 ∷ 100 ∷ 32 ∷ 49 ∷ 51 ∷ 32 ∷ 51 ∷ 10
    ∷ 107 ∷ 101 ∷ 112 ∷ 116 ∷ 32 ∷ 49 ∷ 32 ∷ 48 ∷ 32 ∷ 48 ∷ 10
    ∷ 114 ∷ 101 ∷ 109 ∷ 111 ∷ 118 ∷ 101 ∷ 100 ∷ 32 ∷ 51 ∷ 32 ∷ 50 ∷ 32 ∷ 50 ∷ 53 ∷ 53 ∷ 10
    ∷ 107 ∷ 101 ∷ 112 ∷ 116 ∷ 32 ∷ 54 ∷ 32 ∷ 49 ∷ 32 ∷ 50 ∷ 10
    ∷ []

-- what document 01 says of P1 to P12
pub record Page : Type 0 where
  pub runs_defined : (edition : Edition) (table recording : List ℕ) (budget : ℕ) → run edition table recording budget ≡ defined edition table recording budget
  pub runs_right : runs One table ≡ expected (λ witness. witness)
  pub p5_works : works table p5 6 ≡ 1 ∷ 1 ∷ 1 ∷ 2 ∷ 3 ∷ 5 ∷ []
  pub p5_output_lem : printed p5_input ≡ p5_output

run_defined : (edition : Edition) (table recording : List ℕ) (budget : ℕ) → run edition table recording budget ≡ defined edition table recording budget
unfolding run_of scratch_left room_left
run_defined edition table recording budget = refl

pub page : Page
unfolding runs expected works printed table p5 p5_input p5_output
page = record { runs_defined = run_defined; runs_right = refl; p5_works = refl; p5_output_lem = refl }

-- a recording that ends with DATA at this time, given by its two bytes
unfoldable pub ending : (high low : ℕ) → List ℕ
ending high low = 0 ∷ 6 ∷ 1 ∷ 0 ∷ 1 ∷ high ∷ low ∷ 0 ∷ []

-- recordings of the small monitor are answered so: T, the edition, the lengths of scratch and room, the answer
abbrev pub Handed : List (List ℕ × Edition × ℕ × ℕ × Values) → Type 0
Handed handovers = map (λ c. verdict_values (validation c.1 table c.0 10000 c.2 c.3)) handovers ≡ map (λ c. c.4) handovers

-- "Edition 1 [..] is written only if T is at most 4,096; otherwise 31 is given with 0" (document 02, R-5): 4,096 with a room too short by a byte, and 4,097 with none
pub last_of_one : List (List ℕ × Edition × ℕ × ℕ × Values)
unfolding ending
last_of_one = (ending 16 0, One, 24582, 20489, values 31 20490 0) ∷ (ending 16 1, One, 24588, 0, values 31 0 0) ∷ []

pub last_of_one_lem : Handed last_of_one
unfolding run_of table ending last_of_one
last_of_one_lem = refl
