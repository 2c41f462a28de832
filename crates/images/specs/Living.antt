-- The states that have a situation in a set.
use Rattle.std.specs.Prelude.{ℕ, ◌+◌, ◌*◌, List, Bool}
use Rattle.words.specs.Words.{mem, any_below}
use Rattle.situation.specs.declared.Shape.{Shape}

-- the numbers of one state in one window
abbrev pub numbers_of : Shape → ℕ
numbers_of h = h.first * h.second * h.masks

-- one of them is in the set
unfoldable pub in_window : Shape → List ℕ → (state w : ℕ) → Bool
in_window h s state w = any_below (λ i. mem s (numbers_of h * (state + h.states * w) + i)) (numbers_of h)

unfoldable pub is_live : Shape → List ℕ → ℕ → Bool
is_live h s state = any_below (in_window h s state) h.windows
