-- What the engine's passes go by: a sound table and recording, and rows of the scratch that hold sets of situations.
use Rattle.std.specs.Prelude.{ℕ, ◌+◌, ◌*◌, ◌<◌, ◌≤◌, ◌≡◌, List, Bool, false, length, get_or, Some, slice_get}
use Rattle.model.specs.Size
use Rattle.model.specs.Bytes.{byte_at}
use Rattle.model.specs.Monitor.{Monitor, Transition}
use Rattle.model.specs.Table.{monitor_at}
use Rattle.model.specs.Recording.{packets_at, end_of}
use Rattle.model.specs.Ruled.{monitor_under}
use Rattle.model.specs.Situation.{recorded_at, situation_of, step_number, first_number}
use Rattle.model.specs.Validation.{possible_after}
use Rattle.model.specs.Sane.{Sane, SaneRecording}
use Rattle.bits.specs.Member.{mem}
use Rattle.monitor.specs.From.{monitor_from, transition_count}
use Rattle.situation.specs.Numbering.{situation_by}
use Rattle.steps.specs.Stepping.{step_at}
use Rattle.measures.specs.declared.Measures.{Measures}

-- the monitor that is judged: the table's, under the rule of the measures
abbrev pub monitor_by : Measures → List ℕ → Monitor
monitor_by g table = monitor_under g.shape.rule table

-- the measures are right, and the code's monitor, situations and step are the definition's, at every instant
pub record Setting (table offsets recording : List ℕ) (g : Measures) : Type 0 where
  pub sane : Sane (monitor_by g table)
  pub sound : SaneRecording (monitor_by g table) (packets_at recording)
  pub whole : g.size ≡ Size.size (monitor_by g table)
  pub wide : g.size ≤ 8 * g.row
  pub narrow : g.row ≤ 8192
  pub end : g.last ≡ end_of (packets_at recording)
  pub start : g.first ≡ first_number (monitor_by g table)
  pub described : monitor_from table offsets ≡ monitor_at table
  pub counted : transition_count table ≡ length (monitor_at table).transitions
  pub situations : (n : ℕ) → n < g.size → situation_by g.shape n ≡ situation_of (monitor_by g table) n
  pub stepping : (t n k : ℕ) → n < g.size
      → step_at table offsets g.shape (recorded_at (packets_at recording) t) n k ≡ step_number (monitor_by g table) (packets_at recording) t n k

-- the row of instant t, of so many bytes, holds a set
abbrev pub RowHolds : List ℕ → (row t : ℕ) → List Bool → Type 0
RowHolds scratch row t set = (z : ℕ) → z < 8 * row → mem scratch (8 * row * t + z) ≡ get_or set z false

-- the rows of the instants 0 to t hold the situations possible after them
abbrev pub LayersUpTo : Monitor → (recording scratch : List ℕ) → (row t : ℕ) → Type 0
LayersUpTo m recording scratch row t =
    (u : ℕ) → u ≤ t → RowHolds scratch row u (possible_after m (packets_at recording) u)

-- a transition's offset finds its trigger
pub record Triggers (table offsets : List ℕ) : Type 0 where
  pub trigger : (j : ℕ) (t : Transition) → slice_get (monitor_at table).transitions j ≡ Some t → byte_at table (get_or offsets j 0 + 2) ≡ t.trigger
