-- 30 and 31 by what is wanted and what is lent; last: the last recorded time.
use Rattle.std.specs.Prelude.{ℕ, [], ◌∷◌, leb}
use Rattle.model.specs.Edition.{latest_time}
use Rattle.model.specs.First.{unless, and_then, first_of, Reading}
use Rattle.model.specs.declared.Edition.{Edition}
use Rattle.model.specs.declared.Refusal.TheVariants.{Scratch, WitnessRoom}

-- an edition whose times end before the last recorded one is not written, however large the room
abbrev pub room_lent : Edition → (last wanted length : ℕ) → Reading
room_lent edition last wanted length = first_of (unless (leb last (latest_time edition)) (WitnessRoom 0) ∷ unless (leb wanted length) (WitnessRoom wanted) ∷ [])

unfoldable pub lent_answer : Edition → (last scratch_wanted room_wanted scratch_length room_length : ℕ) → Reading
lent_answer edition last scratch_wanted room_wanted scratch_length room_length =
    and_then (unless (leb scratch_wanted scratch_length) (Scratch scratch_wanted)) (room_lent edition last room_wanted room_length)
