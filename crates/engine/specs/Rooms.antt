-- The words that judging works in.
use Rattle.std.specs.Prelude.{ℕ, ◌*◌, ◌≤◌, ◌≡◌, List, length}
use Rattle.images.specs.Buffers.{Sized}

-- room for sets of n words: marks and sets for four, planes for 80, the others for one each
pub record Rooms (n : ℕ) (planes marks cur row sets one two : List ℕ) : Type 0 where
  pub guards : 80 * n ≤ length planes
  pub marked : Sized n marks one two
  pub sized : Sized n sets one two
  pub current : length cur ≡ n
  pub single : length row ≡ n
