-- Validation: the verdict, and what scratch and room hold afterwards, for any bytes and any lengths. The edition of the witness, which the caller names, decides 31
-- and the bytes in the room, and nothing else. Under a rule (R-7) the monitor carries it, and 25 and 26 come before 30.
use Rattle.std.specs.Prelude.{ℕ, suc, ◌+◌, ◌-◌, ◌*◌, ◌≡◌, List, [], ◌∷◌, ◌++◌, Bool, true, false, length, drop, replicate, leb, ltb, Option, Some, None, Ok, Err}
use Rattle.model.specs.First.{unless, first_of, Reading, Validating, ValidatingUnder, read_as}
use Rattle.model.specs.Edition.{rows_place, latest_time}
use Rattle.model.specs.Room.{over}
use Rattle.model.specs.Rule.{Rule}
use Rattle.model.specs.Monitor.{Monitor}
use Rattle.model.specs.Trace.{Packet}
use Rattle.model.specs.Size.{size, set_bytes}
use Rattle.model.specs.Table.{monitor_at}
use Rattle.model.specs.Recording.{recording_answer, packets_at, end_of}
use Rattle.model.specs.Ruled.{monitor_under, ruled_answer}
use Rattle.model.specs.Witness.{Row, kept, removed, added, no_transition, marked, witness_bytes}
use Rattle.model.specs.Situation.{Move, keep, rest, add, move_of, move_limit, recorded_at, trigger_of, step_number, first_number}
use Rattle.model.specs.Pairs.{pairs, is_pair}
use Rattle.model.specs.Layers as L
use Rattle.model.specs.declared.Edition.{Edition}
use Rattle.model.specs.declared.Readiness.{Readiness}
use Rattle.model.specs.declared.Readiness.TheVariants.{NotYet, NoMore}
use Rattle.model.specs.declared.Verdict.{Verdict}
use Rattle.model.specs.declared.Verdict.TheVariants.{Accepted, Rejected, Exhausted}
use Rattle.model.specs.declared.RuledVerdict.{RuledVerdict}
use Rattle.model.specs.declared.RuledVerdict.TheVariants as Ruling
use Rattle.model.specs.declared.Refusal.TheVariants.{Scratch, WitnessRoom}

-- the rows of moves

-- a row of a kind, if there is one
abbrev pub row_for : (mark t : ℕ) → Option ℕ → (transition : ℕ) → List Row
row_for mark t None j = []
row_for mark t (Some k) j = marked mark t k j ∷ []

-- what one move at instant t, with a row recorded there or not, comes to: at most one row
unfoldable pub rows_by : Monitor → Option ℕ → ℕ → Move → List Row
rows_by m recorded t (keep j) = row_for kept t recorded j
rows_by m recorded t rest = row_for removed t recorded no_transition
rows_by m recorded t (add j) = row_for added t (trigger_of m j) j

-- a move has what its rows name: a recorded row to keep, a transition of the table to add by where none is recorded
abbrev pub HasRows : Monitor → Option ℕ → Move → Type 0
HasRows m None (keep j) = ⊥
HasRows m (Some k) (keep j) = Unit {0}
HasRows m recorded rest = Unit {0}
HasRows m None (add j) = (a : ℕ) × (trigger_of m j ≡ Some a)
HasRows m (Some k) (add j) = ⊥

-- the rows of a list of moves, the first at instant t
unfoldable pub rows_of : Monitor → List Packet → ℕ → List ℕ → List Row
rows_of m recording t [] = []
rows_of m recording t (k ∷ ks) = rows_by m (recorded_at recording t) t (move_of k) ++ rows_of m recording (suc t) ks

-- the sets of document 01 for a monitor and a recording

abbrev pub possible_after : Monitor → List Packet → ℕ → List Bool
possible_after m recording t = L.layer (size m) move_limit (step_number m recording) (first_number m) t

abbrev pub last_of : Monitor → List Packet → ℕ
last_of m recording = L.last_instant (size m) move_limit (step_number m recording) (first_number m) (end_of recording)

abbrev pub total_of : Monitor → List Packet → ℕ → ℕ
total_of m recording t = L.total (size m) move_limit (step_number m recording) (first_number m) t

abbrev pub cost_of : Monitor → List Packet → ℕ
cost_of m recording = L.cost (size m) move_limit (step_number m recording) (first_number m) (end_of recording)

abbrev pub passing_of : Monitor → List Packet → ℕ → ℕ
passing_of m recording budget = L.passing (size m) move_limit (step_number m recording) (first_number m) (end_of recording) budget

abbrev pub moves_of : Monitor → List Packet → List ℕ
moves_of m recording = L.least_moves (size m) move_limit (step_number m recording) (first_number m) (end_of recording)

-- how many pairs answer a "just before the moves of the rejected instant" (R-10)
unfoldable pub pairs_at : Monitor → List Packet → Readiness → (instant : ℕ) → ℕ
pairs_at m recording a instant =
    pairs (is_pair m (possible_after m recording (instant - 1)) (recorded_at recording instant) a) (size m) (length m.transitions)

-- the witness of the least moves, which is the preferred one
unfoldable pub preferred : Monitor → List Packet → List Row
preferred m recording = rows_of m recording 1 (moves_of m recording)

-- 0, 1 and 2
unfoldable pub verdict : Monitor → List Packet → ℕ → Verdict
verdict m recording budget =
    elim (ltb budget (cost_of m recording)) [
      | true ↦ Exhausted budget (passing_of m recording budget)
      | false ↦
          elim (L.is_empty (possible_after m recording (last_of m recording))) [
            | true ↦
                Rejected (cost_of m recording) (last_of m recording) (pairs_at m recording NotYet (last_of m recording))
                (pairs_at m recording NoMore (last_of m recording))
            | false ↦ Accepted (cost_of m recording) (length (preferred m recording))
          ]
    ]

-- "scratch below (T+1) x S", "witness room below 5 + 5(T+n)", in edition 2 "room 9 + 5(T+n)"

abbrev pub scratch_wanted : Monitor → List Packet → ℕ
scratch_wanted m recording = (end_of recording + 1) * set_bytes (size m)

abbrev pub room_wanted : Edition → List Packet → ℕ
room_wanted edition recording = rows_place edition + 5 * (end_of recording + length recording)

-- given: the answer on table and recording, and on the rule where there is one; m: the monitor that is judged. "Edition 1 keeps its limits and is written only if
-- T is at most 4,096; otherwise 31 is given with 0 however large the room"
unfoldable pub refusal_of : (given : Reading) → Edition → Monitor → List Packet → (scratch_length room_length : ℕ) → Reading
refusal_of given edition m recording scratch_length room_length =
    first_of
    (given
    ∷ unless (leb (scratch_wanted m recording) scratch_length) (Scratch (scratch_wanted m recording))
    ∷ unless (leb (end_of recording) (latest_time edition)) (WitnessRoom 0)
    ∷ unless (leb (room_wanted edition recording) room_length) (WitnessRoom (room_wanted edition recording))
    ∷ [])

unfoldable pub validation_of : (given : Reading) → Edition → Monitor → List Packet → (budget scratch_length room_length : ℕ) → Validating
validation_of given edition m recording budget scratch_length room_length =
    read_as (refusal_of given edition m recording scratch_length room_length) (verdict m recording budget)

-- "After 0, 1 or 2 the wanted part of the scratch is zero and the rest untouched"; "After a refusal every lent byte is untouched"
abbrev pub scratch_by : Validating → ℕ → List ℕ → List ℕ
scratch_by (Ok v) wanted scratch = replicate wanted 0 ++ drop wanted scratch
scratch_by (Err r) wanted scratch = scratch

-- "After 0 the witness stands at the start of its room, the rest untouched; after 1 and 2 that room is untouched"
abbrev pub room_by : Validating → List ℕ → List ℕ → List ℕ
room_by (Ok (Accepted c r)) witness room = over witness room
room_by (Ok (Rejected c i y n)) witness room = room
room_by (Ok (Exhausted b i)) witness room = room
room_by (Err r) witness room = room

unfoldable pub scratch_left : (given : Reading) → Edition → Monitor → List Packet → (budget : ℕ) → (scratch room : List ℕ) → List ℕ
scratch_left given edition m recording budget scratch room =
    scratch_by (validation_of given edition m recording budget (length scratch) (length room)) (scratch_wanted m recording) scratch

unfoldable pub room_left : (given : Reading) → Edition → Monitor → List Packet → (budget : ℕ) → (scratch room : List ℕ) → List ℕ
room_left given edition m recording budget scratch room =
    room_by (validation_of given edition m recording budget (length scratch) (length room)) (witness_bytes edition (preferred m recording)) room

-- of a table and a recording: table, recording, 30, 31

abbrev pub refusal : Edition → (table recording : List ℕ) → (scratch_length room_length : ℕ) → Reading
refusal edition table recording = refusal_of (recording_answer table recording) edition (monitor_at table) (packets_at recording)

abbrev pub validation : Edition → (table recording : List ℕ) → (budget scratch_length room_length : ℕ) → Validating
validation edition table recording = validation_of (recording_answer table recording) edition (monitor_at table) (packets_at recording)

abbrev pub scratch_after : Edition → (table recording : List ℕ) → (budget : ℕ) → (scratch room : List ℕ) → List ℕ
scratch_after edition table recording = scratch_left (recording_answer table recording) edition (monitor_at table) (packets_at recording)

abbrev pub room_after : Edition → (table recording : List ℕ) → (budget : ℕ) → (scratch room : List ℕ) → List ℕ
room_after edition table recording = room_left (recording_answer table recording) edition (monitor_at table) (packets_at recording)

-- the same under a rule (R-7): table, recording, 25, 26, 30, 31

abbrev pub refusal_under : Rule → Edition → (table recording : List ℕ) → (scratch_length room_length : ℕ) → Reading
refusal_under rule edition table recording = refusal_of (ruled_answer rule table recording) edition (monitor_under rule table) (packets_at recording)

-- "answer 1 is called 'rejected as unlikely'"
abbrev pub ruling : Verdict → RuledVerdict
ruling (Accepted cost rows) = Ruling.Accepted cost rows
ruling (Rejected cost instant not_yet no_more) = Ruling.Unlikely cost instant not_yet no_more
ruling (Exhausted budget instant) = Ruling.Exhausted budget instant

abbrev pub ruled : Validating → ValidatingUnder
ruled (Ok v) = Ok (ruling v)
ruled (Err r) = Err r

abbrev pub validation_under : Rule → Edition → (table recording : List ℕ) → (budget scratch_length room_length : ℕ) → Validating
validation_under rule edition table recording = validation_of (ruled_answer rule table recording) edition (monitor_under rule table) (packets_at recording)

abbrev pub scratch_after_under : Rule → Edition → (table recording : List ℕ) → (budget : ℕ) → (scratch room : List ℕ) → List ℕ
scratch_after_under rule edition table recording = scratch_left (ruled_answer rule table recording) edition (monitor_under rule table) (packets_at recording)

abbrev pub room_after_under : Rule → Edition → (table recording : List ℕ) → (budget : ℕ) → (scratch room : List ℕ) → List ℕ
room_after_under rule edition table recording = room_left (ruled_answer rule table recording) edition (monitor_under rule table) (packets_at recording)
