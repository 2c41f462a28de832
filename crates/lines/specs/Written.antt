-- What judging an input leaves in all that is lent.
use Rattle.std.specs.Prelude.{ℕ, ◌≤◌, ◌≡◌, List, length, take, drop}
use Rattle.model.specs.Desk.{table_length, lines_for, judged_lines, in_text, scratch_for, room_for}
use Rattle.model.specs.Validation.{scratch_after, room_after}
use Rattle.model.specs.declared.Edition.TheVariants.{One}
use Rattle.text.specs.Put.{Wrote}

-- table and recording judged, with the lent bytes before and after
pub record FilesJudged (files : List ℕ) (budget : ℕ) (scratch room text scratch_left room_left text_left : List ℕ) (next : ℕ) : Type 0 where
  pub wrote :
      Wrote (judged_lines (length scratch) (length room) (take (table_length files) files) (drop (table_length files) files) budget) 0 text text_left next
  pub scratch_after : scratch_left ≡ scratch_after One (take (table_length files) files) (drop (table_length files) files) budget scratch room
  pub room_after : room_left ≡ room_after One (take (table_length files) files) (drop (table_length files) files) budget scratch room

-- what the program's function promises: how many bytes the lines are, and the lent bytes after them; the lines of any input fit 400,000 bytes
pub record Lines (input scratch room text scratch_left room_left text_left : List ℕ) (bytes : ℕ) : Type 0 where
  pub count : bytes ≡ length (lines_for (length scratch) (length room) input)
  pub short : bytes ≤ 400000
  pub text_after : text_left ≡ in_text (lines_for (length scratch) (length room) input) text
  pub scratch_after : scratch_left ≡ scratch_for input scratch room
  pub room_after : room_left ≡ room_for input scratch room
