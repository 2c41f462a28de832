-- Reading and writing again (demand 2): "What we write reads back to the same parts; sound bytes read and written again are the same bytes".
use Rattle.std.specs.Prelude.{ℕ, ◌≡◌, List, Ok, Err}
use Rattle.model.specs.Answers.{Writes}
use Rattle.model.specs.Room.{Lent, write}
use Rattle.model.specs.Table.{table_answer, table_parts, write_table}
use Rattle.model.specs.Recording.{recording_answer, recording_parts, write_recording}
use Rattle.model.specs.Witness.{witness_answer, witness_parts, write_witness}
use Rattle.model.specs.declared.Edition.{Edition}
use Rattle.model.specs.First.{Reading, Writing}

-- what reading refuses, and else what writing the parts gives
abbrev pub again : Reading → Lent → List ℕ → Lent
again (Ok _) written room = written
again (Err r) written room = record { answer = Err r; room = room }

unfoldable pub rewrite_table : List ℕ → List ℕ → Lent
rewrite_table b room = again (table_answer b) (write_table (table_parts b) room) room

unfoldable pub rewrite_recording : List ℕ → List ℕ → List ℕ → Lent
rewrite_recording table b room = again (recording_answer table b) (write_recording table (recording_parts b) room) room

unfoldable pub rewrite_witness : Edition → List ℕ → List ℕ → Lent
rewrite_witness edition b room = again (witness_answer edition b) (write_witness edition (witness_parts edition b) room) room

-- an answer and a room are the definition's; and of sound bytes, the same bytes, where they fit
pub record Rewrites (answer : Reading) (b room room_then : List ℕ) (given : Lent) (r : Writing) : Type 0 where
  pub writes : Writes given r room_then
  pub same : answer ≡ Ok tt → given ≡ write (Ok tt) b room
