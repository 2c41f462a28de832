-- What the rows of a recording say of an instant, by a cursor: the number of rows before that instant.
use Rattle.std.specs.Prelude.{ℕ, ◌+◌, ◌≤◌, ◌<◌, List, Bool, cond, ◌&&◌, ltb, eqb, Option, Some, None}
use Rattle.model.specs.Recording.{count_at, time_at, row_kind_at}

-- row i is there, at instant t
unfoldable pub is_at : List ℕ → (i t : ℕ) → Bool
is_at b i t = ltb i (count_at b) && eqb (time_at b i) t

-- the kind of row i where that is at instant t
unfoldable pub heard_at : List ℕ → (i t : ℕ) → Option ℕ
heard_at b i t = cond (is_at b i t) (Some (row_kind_at b i)) None

-- the cursor behind row i where that is at instant t
unfoldable pub passed_by : List ℕ → (i t : ℕ) → ℕ
passed_by b i t = cond (is_at b i t) (i + 1) i

-- exactly the first i rows have times below t
pub record Cursor (b : List ℕ) (i t : ℕ) : Type 0 where
  pub within : i ≤ count_at b
  pub before : (k : ℕ) → k < i → time_at b k < t
  pub behind : (k : ℕ) → i ≤ k → k < count_at b → t ≤ time_at b k
