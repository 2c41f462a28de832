-- A set joined with itself, moved.
use Rattle.std.specs.Prelude.{ℕ, Bool, ◌||◌}
use Rattle.shifts.specs.Shifted.{Moves, moved}

abbrev pub with_moved : Moves → ℕ → (ℕ → Bool) → ℕ → Bool
with_moved m k p i = p i || moved m k p i
