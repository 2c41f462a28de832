-- What judging a sound recording starts from and ends with.
use Rattle.std.specs.Prelude.{ℕ, ◌+◌, ◌*◌, ◌≤◌, ◌≡◌, List, length, replicate, Ok}
use Rattle.model.specs.Edition.{rows_place}
use Rattle.model.specs.Monitor.{Monitor}
use Rattle.model.specs.Table.{table_parts}
use Rattle.model.specs.Recording.{packets_at}
use Rattle.model.specs.Ruled.{SoundUnder}
use Rattle.model.specs.Witness.{witness_bytes}
use Rattle.model.specs.Validation.{preferred, verdict, room_by}
use Rattle.model.specs.declared.Edition.{Edition}
use Rattle.model.specs.declared.Verdict.{Verdict}
use Rattle.measures.specs.Measured.{Measured}
use Rattle.measures.specs.Setting.{monitor_by, Setting, Triggers}
use Rattle.forward.specs.Forwarding.{Ended}
use Rattle.measures.specs.declared.Measures.{Measures}
use Rattle.forward.specs.declared.Outcome.{Outcome}

-- a sound table and recording, a rule that 25 and 26 let through, and what is measured of them; the wanted part of the scratch; room enough
pub record Judging (edition : Edition) (table recording scratch room : List ℕ) (g : Measures) : Type 0 where
  pub sound : SoundUnder g.shape.rule table recording
  pub measured : Measured (table_parts table) g.shape.rule recording g
  pub long : g.row * (g.last + 1) ≤ length scratch
  pub roomy : rows_place edition + 5 * (g.last + length (packets_at recording)) ≤ length room

-- what ending a forward pass starts from
pub record Ending (edition : Edition) (table offsets recording scratch room : List ℕ) (g : Measures) (budget : ℕ) (o : Outcome) : Type 0 where
  pub setting : Setting table offsets recording g
  pub triggers : Triggers table offsets
  pub roomy : rows_place edition + 5 * (g.last + length (packets_at recording)) ≤ length room
  pub ended : Ended (monitor_by g table) recording scratch budget g.row g.last o

-- what it ends with: the verdict, and the witness in the room where there is one
pub record Concluded (edition : Edition) (m : Monitor) (recording : List ℕ) (budget : ℕ) (scratch room scratch_then room_then : List ℕ) (v : Verdict) : Type 0 where
  pub long : length scratch_then ≡ length scratch
  pub answered : v ≡ verdict m (packets_at recording) budget
  pub written : room_then ≡ room_by (Ok v) (witness_bytes edition (preferred m (packets_at recording))) room

-- the verdict, the scratch zero, and the witness in the room where there is one
pub record Settled (edition : Edition) (m : Monitor) (recording : List ℕ) (budget : ℕ) (scratch room scratch_then room_then : List ℕ) (v : Verdict) : Type 0 where
  pub answered : v ≡ verdict m (packets_at recording) budget
  pub cleared : scratch_then ≡ replicate (length scratch) 0
  pub written : room_then ≡ room_by (Ok v) (witness_bytes edition (preferred m (packets_at recording))) room
