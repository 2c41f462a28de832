-- Lines judged with a scratch and a witness room of the program's lengths are the program's.
use Prim.Native.Nat.{ℕ}
use mathlib.Core.Path.{◌≡◌, ap₂, ◌∙◌}
use mathlib.Core.List.{List}
use lib.ListN.{length}
use Rattle.model.specs.Desk.{desk_scratch, desk_room, lines_for, in_text}
use Rattle.lines.specs.Written.{Lines}
use Rattle.desk.specs.Program.{Printed}

pub own_lines : (input scratch room text scratch_left room_left text_left : List ℕ) (bytes : ℕ) → length scratch ≡ desk_scratch → length room ≡ desk_room
    → Lines input scratch room text scratch_left room_left text_left bytes → Printed input text text_left bytes
own_lines input scratch room text scratch_left room_left text_left bytes s r l =
    record {
      count = l.count ∙ ap₂ (λ (m n : ℕ). length (lines_for m n input)) s r;
      short = l.short;
      text_after = l.text_after ∙ ap₂ (λ (m n : ℕ). in_text (lines_for m n input) text) s r;
    }
