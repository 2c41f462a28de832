-- Where situations lie among the numbers: the clock values of a window, state and variables are one plane; the situations of which the air is free come first.
use Rattle.std.specs.Prelude.{ℕ, ◌+◌, ◌*◌, ◌/◌, ◌%◌, ◌^◌, List, [], ◌∷◌}
use Rattle.model.specs.Rule.{masks}
use Rattle.model.specs.Monitor.{Monitor}
use Rattle.model.specs.Size.{cap}

-- the values of each clock
abbrev pub firsts : Monitor → ℕ
firsts m = cap m 0 + 1

abbrev pub seconds : Monitor → ℕ
seconds m = cap m 1 + 1

-- the numbers of one plane
abbrev pub plane : Monitor → ℕ
plane m = firsts m * seconds m

-- the assignments to variables
abbrev pub assignments : Monitor → ℕ
assignments m = 2 ^ m.variables

-- where the plane of variables v, a state and a window starts, with the air free
unfoldable pub plane_at : Monitor → (v state window : ℕ) → ℕ
plane_at m v state window = plane m * (v + assignments m * (state + m.states * window))

-- how many situations have the air free; so many numbers further the air is taken for one tick more
unfoldable pub free : Monitor → ℕ
free m = plane m * (assignments m * (m.states * masks m.rule))

-- the clocks at a place of a plane
abbrev pub clocks_at : Monitor → ℕ → List ℕ
clocks_at m p = p % firsts m ∷ p / firsts m ∷ []
