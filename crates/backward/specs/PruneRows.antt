-- Cutting the situations from which the end cannot be reached, row by row, from the last to the first.
use Rattle.std.specs.Prelude.{ℕ, ◌+◌, ◌-◌, ◌*◌, ◌<◌, ◌≤◌, ◌≡◌, List, Bool, false, cond, ◌&&◌, length, get_or}
use Rattle.model.specs.Size
use Rattle.model.specs.Monitor.{Monitor}
use Rattle.model.specs.Recording.{packets_at}
use Rattle.model.specs.Situation.{move_limit, step_number}
use Rattle.model.specs.Validation.{possible_after}
use Rattle.model.specs.Layers.{alive}
use Rattle.bits.specs.Member.{mem}
use Rattle.situation.specs.Rows.{is_at, Cursor}
use Rattle.words.specs.Words as Words
use Rattle.images.specs.Buffers.{Sized}
use Rattle.memo.specs.Known.{KnownBack}
use Rattle.measures.specs.declared.Measures.{Measures}
use Rattle.measures.specs.Setting.{RowHolds}

-- the cursor before row j - 1 where that is at instant t
unfoldable pub cursor_before : List ℕ → (j t : ℕ) → ℕ
cursor_before b j t = cond (is_at b (j - 1) t) (j - 1) j

-- situation z is possible after instant t, and from it the end, the instant last, can be reached
abbrev pub remains : Monitor → (recording : List ℕ) → (last t z : ℕ) → Bool
remains m recording last t z =
    let packets = packets_at recording in
    get_or (possible_after m packets t) z false && get_or (alive (Size.size m) move_limit (step_number m packets) (last - t) t) z false

-- the row of instant t holds the situations that remain there
abbrev pub PrunedRow : Monitor → (recording scratch : List ℕ) → (row size last t : ℕ) → Type 0
PrunedRow m recording scratch row size last t = (z : ℕ) → z < size → mem scratch (8 * row * t + z) ≡ remains m recording last t z

abbrev pub PrunedRows : Monitor → (recording scratch : List ℕ) → (row size last : ℕ) → Type 0
PrunedRows m recording scratch row size last = (t : ℕ) → t ≤ last → PrunedRow m recording scratch row size last t

-- pruning has come back to instant t: the rows from it on are pruned, and those before it are not; the cursor j has the rows of the recording up to t before it; next holds what remains at
-- t, the other buffers have their lengths, and what is remembered is so
pub record PrunedTo (m : Monitor) (g : Measures) (recording : List ℕ) (t j : ℕ) (scratch next row sets one two memo : List ℕ) : Type 0 where
  pub before : (u : ℕ) → u < t → RowHolds scratch g.row u (possible_after m (packets_at recording) u)
  pub from : (u : ℕ) → t ≤ u → u ≤ g.last → PrunedRow m recording scratch g.row g.size g.last u
  pub cursor : Cursor recording j (t + 1)
  pub holds : (z : ℕ) → z < g.size → Words.mem next z ≡ remains m recording g.last t z
  pub words : length next ≡ g.words
  pub single : length row ≡ g.words
  pub sized : Sized g.words sets one two
  pub known : KnownBack m g.words memo
