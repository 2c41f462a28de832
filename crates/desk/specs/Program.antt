-- The program of document 01: the lines that it prints.
use Rattle.std.specs.Prelude.{ℕ, ◌≤◌, ◌≡◌, List, length}
use Rattle.model.specs.Desk.{desk_lines, in_text}

-- the lines for an input, as far as they fit the text, and how many bytes they are: never more than 400,000
pub record Printed (input text text_left : List ℕ) (bytes : ℕ) : Type 0 where
  pub count : bytes ≡ length (desk_lines input)
  pub short : bytes ≤ 400000
  pub text_after : text_left ≡ in_text (desk_lines input) text
