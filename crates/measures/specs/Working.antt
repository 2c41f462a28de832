-- What the passes work with: marks of clock values and the planes of guards; and sets in words.
use Rattle.std.specs.Prelude.{ℕ, ◌*◌, ◌<◌, ◌≤◌, ◌≡◌, List, Bool, false, length, get_or}
use Rattle.model.specs.Limits.{guard_limit}
use Rattle.model.specs.Table.{guard_length_at}
use Rattle.monitor.specs.From.{transition_count}
use Rattle.words.specs.Words.{mem}
use Rattle.firings.specs.Ready.{Ready}
use Rattle.planes.specs.Numbering.{Clocks}
use Rattle.images.specs.Advanced.{Given}
use Rattle.measures.specs.declared.Measures.{Measures}
use Rattle.measures.specs.Setting.{monitor_by}

abbrev pub Working : (table offsets : List ℕ) → Measures → (marks planes : List ℕ) → Type 0
Working table offsets g marks planes = Given (monitor_by g table) table offsets g.shape g.size g.words marks planes

-- n words hold a set
pub record Holds (n : ℕ) (words : List ℕ) (set : List Bool) : Type 0 where
  pub long : length words ≡ n
  pub all : (i : ℕ) → i < 64 * n → mem words i ≡ get_or set i false

-- what marks and planes are made of: a sound table, and guards that are not too long
pub record Preparing (table offsets : List ℕ) (g : Measures) : Type 0 where
  pub ready : Ready (monitor_by g table) table offsets g.shape g.size g.words
  pub clocks : Clocks g.shape.first g.shape.second
  pub short : (j : ℕ) → j < transition_count table → guard_length_at table (get_or offsets j 0) ≤ guard_limit
  pub few : g.words ≤ 1024
