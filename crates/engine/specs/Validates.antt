-- What validation promises for either edition of the witness, any bytes, any budget, and any lengths and contents of scratch and room.
use Rattle.std.specs.Prelude.{ℕ, ◌≡◌, List, length, Ok, IsOkAnd}
use Rattle.model.specs.Monitor.{Monitor}
use Rattle.model.specs.Table.{monitor_at}
use Rattle.model.specs.Recording.{packets_at}
use Rattle.model.specs.Numbers.{verdict_values, verdict_counts, ruled_values, ruled_counts}
use Rattle.model.specs.Validation.{validation_of, scratch_left, room_left, refusal, validation, scratch_after, room_after, refusal_under, validation_under, ruled, scratch_after_under, room_after_under}
use Rattle.model.specs.Late.{RefusesLate, RefusesLateUnder}
use Rattle.model.specs.Claims.{Judged, JudgedUnder}
use Rattle.model.specs.Ruled.{monitor_under}
use Rattle.model.specs.declared.Rule.{Rule}
use Rattle.model.specs.declared.Edition.{Edition}
use Rattle.model.specs.First.{Reading, Validating, ValidatingUnder}

-- the answer and the lent buffers are the definition's; given: the answer on table, recording and rule; m: the monitor that is judged
pub record Answered (given : Reading) (edition : Edition) (m : Monitor) (recording : List ℕ) (budget : ℕ) (scratch room scratch_then room_then : List ℕ) (v : Validating) : Type 0 where
  pub answered : v ≡ validation_of given edition m (packets_at recording) budget (length scratch) (length room)
  pub cleared : scratch_then ≡ scratch_left given edition m (packets_at recording) budget scratch room
  pub written : room_then ≡ room_left given edition m (packets_at recording) budget scratch room

-- the answer, document 01's numbers of it, R-10's counts and the lent buffers are the definition's; 31 with 0 in R-5's words; and where nothing is refused, demand 3 itself
pub record Validates (edition : Edition) (table recording : List ℕ) (budget : ℕ) (scratch room scratch_then room_then : List ℕ) (v : Validating) : Type 0 where
  pub answered : v ≡ validation edition table recording budget (length scratch) (length room)
  pub numbers : verdict_values v ≡ verdict_values (validation edition table recording budget (length scratch) (length room))
  pub counts : verdict_counts v ≡ verdict_counts (validation edition table recording budget (length scratch) (length room))
  pub cleared : scratch_then ≡ scratch_after edition table recording budget scratch room
  pub written : room_then ≡ room_after edition table recording budget scratch room
  pub late : RefusesLate edition table recording (length scratch) (verdict_values v)
  pub judged : refusal edition table recording (length scratch) (length room) ≡ Ok tt → IsOkAnd v (Judged edition (monitor_at table) (packets_at recording) budget)

-- the same under a rule (R-7). Demand 3 speaks of mutation traces that keep it, and what is called rejected there is called unlikely
pub record ValidatesUnder (rule : Rule) (edition : Edition) (table recording : List ℕ) (budget : ℕ) (scratch room scratch_then room_then : List ℕ) (v : ValidatingUnder) : Type 0 where
  pub answered : v ≡ ruled (validation_under rule edition table recording budget (length scratch) (length room))
  pub numbers : ruled_values v ≡ verdict_values (validation_under rule edition table recording budget (length scratch) (length room))
  pub counts : ruled_counts v ≡ verdict_counts (validation_under rule edition table recording budget (length scratch) (length room))
  pub cleared : scratch_then ≡ scratch_after_under rule edition table recording budget scratch room
  pub written : room_then ≡ room_after_under rule edition table recording budget scratch room
  pub late : RefusesLateUnder rule edition table recording (length scratch) (ruled_values v)
  pub judged : refusal_under rule edition table recording (length scratch) (length room) ≡ Ok tt
      → IsOkAnd (validation_under rule edition table recording budget (length scratch) (length room)) (JudgedUnder edition (monitor_under rule table) (packets_at recording) budget)
