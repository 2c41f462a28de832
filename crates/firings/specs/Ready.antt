-- What an instant's sets are worked out with, where a table is sound: numbers, marks of clock values, and the planes of guards.
use Rattle.std.specs.Prelude.{ℕ, ◌+◌, ◌*◌, ◌/◌, ◌<◌, ◌≤◌, ◌≡◌, List, Bool, false, length, Some, slice_get}
use Rattle.model.specs.Size
use Rattle.model.specs.Rule.{masks}
use Rattle.model.specs.Monitor.{Monitor, Transition}
use Rattle.model.specs.Sane.{Sane}
use Rattle.monitor.specs.From.{transition_count}
use Rattle.words.specs.Words.{bit, mem}
use Rattle.situation.specs.Numbering.{Fits}
use Rattle.situation.specs.Ruled.{ruled_from}
use Rattle.situation.specs.declared.Shape.{Shape}
use Rattle.instants.specs.Digit.{is_lowest, is_highest}
use Rattle.instants.specs.Grid.{firsts, seconds, plane, assignments, plane_at, free}
use Rattle.instants.specs.Firing.{holds_at}
use Rattle.instants.specs.Sourced.{Sourced}
use Rattle.firings.specs.declared.Plan.{Plan}

-- how many bits the planes of one transition's guard take, in whole words
abbrev pub apart_by : Monitor → ℕ
apart_by m = 64 * ((plane m * assignments m + 63) / 64)

-- the lowest and the highest values of each clock are marked, in four sets of n words
pub record Marked (m : Monitor) (n : ℕ) (marks : List ℕ) : Type 0 where
  pub low_first : (i : ℕ) → i < 64 * n → mem marks i ≡ is_lowest 1 (firsts m) i
  pub high_first : (i : ℕ) → i < 64 * n → mem marks (64 * n + i) ≡ is_highest 1 (firsts m) i
  pub low_second : (i : ℕ) → i < 64 * n → mem marks (64 * n * 2 + i) ≡ is_lowest (firsts m) (seconds m) i
  pub high_second : (i : ℕ) → i < 64 * n → mem marks (64 * n * 3 + i) ≡ is_highest (firsts m) (seconds m) i

-- each transition's guard, at each variables and place
abbrev pub Guarded : Monitor → List ℕ → Type 0
Guarded m planes =
    (j : ℕ) (t : Transition) → slice_get m.transitions j ≡ Some t
    → (v x : ℕ) → v < assignments m → x < plane m → mem planes (apart_by m * j + (plane m * v + x)) ≡ holds_at m t v x

-- m is the monitor of the table, h numbers its situations, and sets of n words have room for them
pub record Ready (m : Monitor) (table offsets : List ℕ) (h : Shape) (size n : ℕ) : Type 0 where
  pub sane : Sane m
  pub sourced : Sourced m
  pub fits : Fits h m
  pub described : ruled_from h table offsets ≡ m
  pub counted : transition_count table ≡ length m.transitions
  pub whole : size ≡ Size.size m
  pub wide : size ≤ 64 * n
  pub narrow : size ≤ 65536
  pub few : h.states ≤ 64

-- a plan that goes by these
pub record Planned (m : Monitor) (h : Shape) (n : ℕ) (p : Plan) : Type 0 where
  pub shape : p.shape ≡ h
  pub plane : p.plane ≡ plane m
  pub free : p.free ≡ free m
  pub gap : p.gap ≡ 64 * n
  pub apart : p.apart ≡ apart_by m

-- a state that is not live has nothing in a set
abbrev pub Live : Monitor → (live : ℕ) → (ℕ → Bool) → Type 0
Live m live s =
    (state w v x : ℕ) → bit live state ≡ false → state < m.states → w < masks m.rule → v < assignments m → x < plane m
    → s (plane_at m v state w + x) ≡ false
