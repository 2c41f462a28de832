-- What reading and writing promise of an answer, in document 01's number, second and third value.
use Rattle.std.specs.Prelude.{ℕ, ◌<◌, ◌≤◌, ◌≡◌, ◌↔◌, List, Result, Ok, Err}
use Rattle.model.specs.Limits.{size_limit}
use Rattle.model.specs.Room.{Lent}
use Rattle.model.specs.Size.{table_size}
use Rattle.model.specs.Reach.{Reached, LowestUnreached}
use Rattle.model.specs.Table.{states_at, table_scan, monitor_at}
use Rattle.model.specs.Numbers.{values, refusal_values, reading_values, writing_values}
use Rattle.model.specs.declared.Refusal.{Refusal}
use Rattle.model.specs.First.{Reading, Writing, answer_of}

-- "Reading sound bytes gives 0, 0 and 0 beside the parts"; a refused reading gives none. given: what the definition answers; whole: the parts of the bytes
pub record Reads {P : Type 0} (given : Reading) (whole : P) (result : Result P Refusal) : Type 0 where
  pub sound : given ≡ Ok tt → (reading_values (answer_of result) ≡ values 0 0 0) × (result ≡ Ok whole)
  pub refused : (why : Refusal) → given ≡ Err why → (reading_values (answer_of result) ≡ refusal_values why) × (result ≡ Err why)

-- none of the numbers 10 to 16 applies
abbrev pub SoundButStates : List ℕ → Type 0
SoundButStates b = (table_scan b ≡ Ok tt) × (table_size (monitor_at b) ≤ size_limit)

-- "Refuse with 17, after 16, a table in which some state cannot be reached from state 0 [..]; second value the lowest such state" (document 02, R-8)
pub record RefusesUnreached (b : List ℕ) (answer : Reading) : Type 0 where
  pub sound : (reading_values answer ≡ values 0 0 0) ↔ (SoundButStates b × ((s : ℕ) → s < states_at b → Reached (monitor_at b) s))
  pub refused : (s : ℕ) → (reading_values answer ≡ values 17 s 0) ↔ (SoundButStates b × LowestUnreached (monitor_at b) s)

-- answer and room are the definition's
pub record Writes (given : Lent) (answer : Writing) (room : List ℕ) : Type 0 where
  pub answered : answer ≡ given.answer
  pub numbers : writing_values answer ≡ writing_values given.answer
  pub lent : room ≡ given.room
