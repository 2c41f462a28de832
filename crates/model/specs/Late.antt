-- What the caller's edition decides (document 02, R-5): "Edition 1 keeps its limits and is written only if T is at most 4,096; otherwise 31 is given with 0 however
-- large the room". In edition 2 no recording ends too late.
use Rattle.std.specs.Prelude.{ℕ, ◌<◌, ◌≤◌, ◌≡◌, ◌↔◌, List, Ok}
use Rattle.model.specs.Edition.{latest_time}
use Rattle.model.specs.Rule.{Rule}
use Rattle.model.specs.Monitor.{Monitor}
use Rattle.model.specs.Trace.{Packet}
use Rattle.model.specs.Table.{monitor_at}
use Rattle.model.specs.Recording.{recording_answer, packets_at, end_of}
use Rattle.model.specs.Ruled.{monitor_under, ruled_answer}
use Rattle.model.specs.Numbers.{Values, values}
use Rattle.model.specs.Validation.{scratch_wanted}
use Rattle.model.specs.declared.Edition.{Edition}
use Rattle.model.specs.First.{Reading}

-- of the answer to a recording of which nothing is refused before 30, where 30 does not apply either, whatever the budget and the room
abbrev pub RefusesLateOf : (given : Reading) → Edition → Monitor → List Packet → (scratch_length : ℕ) → Values → Type 0
RefusesLateOf given edition m recording scratch_length answer =
    given ≡ Ok tt → scratch_wanted m recording ≤ scratch_length → (answer ≡ values 31 0 0) ↔ (latest_time edition < end_of recording)

abbrev pub RefusesLate : Edition → (table recording : List ℕ) → (scratch_length : ℕ) → Values → Type 0
RefusesLate edition table recording = RefusesLateOf (recording_answer table recording) edition (monitor_at table) (packets_at recording)

-- the same under a rule (R-7)
abbrev pub RefusesLateUnder : Rule → Edition → (table recording : List ℕ) → (scratch_length : ℕ) → Values → Type 0
RefusesLateUnder rule edition table recording = RefusesLateOf (ruled_answer rule table recording) edition (monitor_under rule table) (packets_at recording)
