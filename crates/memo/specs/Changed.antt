-- Places of a memory, and words that are written there.
use Rattle.std.specs.Prelude.{ℕ, ◌+◌, ◌*◌, ◌≤◌, ◌<◌, ◌≡◌, List, length, get_or}

-- nothing below one place, and nothing from another on
pub record Changed (low high : ℕ) (before after : List ℕ) : Type 0 where
  pub size : length after ≡ length before
  pub under : (j : ℕ) → j < low → get_or after j 0 ≡ get_or before j 0
  pub over : (j : ℕ) → high ≤ j → get_or after j 0 ≡ get_or before j 0

-- some entry of w words, of those that long words have room for, starts there
pub record Starts (w long place : ℕ) : Type 0 where
  pub slot : ℕ
  pub start : place ≡ w * slot
  pub fits : place + w ≤ long
