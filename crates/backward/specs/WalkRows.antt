-- The rows of a walk along the least moves, and what it writes of them.
use Rattle.std.specs.Prelude.{ℕ, ◌+◌, ◌-◌, ◌*◌, ◌≤◌, ◌≡◌, List, ◌++◌, true, false, length, get_or}
use Rattle.model.specs.Size
use Rattle.model.specs.Monitor.{Monitor}
use Rattle.model.specs.Recording.{packets_at}
use Rattle.model.specs.Situation.{move_limit, step_number}
use Rattle.model.specs.Validation.{possible_after, rows_of}
use Rattle.model.specs.Witness.{Row, rows_bytes}
use Rattle.model.specs.Layers.{alive, least_from}
use Rattle.wire.specs.Placed.{placed}
use Rattle.situation.specs.Rows.{Cursor}
use Rattle.measures.specs.declared.Measures.{Measures}
use Rattle.measures.specs.Setting.{monitor_by, Setting, Triggers}
use Rattle.backward.specs.PruneRows.{PrunedRows}

-- what a walk goes by: pruned rows of the scratch
pub record Ground (table offsets recording scratch : List ℕ) (g : Measures) : Type 0 where
  pub setting : Setting table offsets recording g
  pub triggers : Triggers table offsets
  pub pruned : PrunedRows (monitor_by g table) recording scratch g.row g.size g.last

-- rows stand in the room, which begins with row 0, from row r on, and next is the number of the row behind them
pub record RowsPut (rows : List Row) (r next : ℕ) (before after : List ℕ) : Type 0 where
  pub bytes : after ≡ placed (rows_bytes rows) (5 * r) before
  pub count : next ≡ r + length rows

-- so many rows have a place in the room from row r on
abbrev pub Room : (rows : List Row) → (r : ℕ) → List ℕ → Type 0
Room rows r room = 5 * (r + length rows) ≤ length room

-- the walk stands after instant t at number n, from which the end, last, can be reached, and j rows are recorded up to t
pub record Stands (m : Monitor) (recording : List ℕ) (last t n j : ℕ) : Type 0 where
  pub here : get_or (possible_after m (packets_at recording) t) n false ≡ true
  pub alive : get_or (alive (Size.size m) move_limit (step_number m (packets_at recording)) (last - t) t) n false ≡ true
  pub cursor : Cursor recording j (t + 1)

-- the rows of the least moves from number n after instant t
abbrev pub rows_after : Monitor → (recording : List ℕ) → (last t n : ℕ) → List Row
rows_after m recording last t n =
    let packets = packets_at recording in
    rows_of m packets (t + 1) (least_from (Size.size m) move_limit (step_number m packets) (last - t) t n)

-- the walk went on from number n after instant t to number x, and wrote the rows of its move behind row r
pub record WalkedOn (m : Monitor) (recording : List ℕ) (last t n r x j next : ℕ) (before after : List ℕ) : Type 0 where
  pub rows : List Row
  pub stands : Stands m recording last (t + 1) x j
  pub wrote : RowsPut rows r next before after
  pub split : rows_after m recording last t n ≡ rows ++ rows_after m recording last (t + 1) x
