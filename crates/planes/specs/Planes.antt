-- The sets of a table's guards, one after the other: that of transition j in the n words from n * j on.
use Rattle.std.specs.Prelude.{ℕ, ◌+◌, ◌*◌, ◌/◌, ◌≤◌, ◌<◌, min, ◌≡◌, List, length, get_or}
use Rattle.model.specs.Limits.{guard_limit}
use Rattle.model.specs.Table.{guard_length_at}
use Rattle.monitor.specs.From.{guard_from}
use Rattle.words.specs.Words.{mem}
use Rattle.planes.specs.Numbering.{holds_by}

-- so many sets are in hand at once for the guard whose transition's record starts at an offset: at most 32, and 17 where its length is sound
abbrev pub sets_at : List ℕ → ℕ → ℕ
sets_at table at = min guard_limit (1 + guard_length_at table at / 2)

-- plane j is there, if there is room for it, and the planes before it are as they were
pub record Placed (f s n : ℕ) (table : List ℕ) (at j : ℕ) (before after : List ℕ) : Type 0 where
  pub plane : n * (j + sets_at table at) ≤ length before → (x : ℕ) → x < 64 * n → mem after (64 * (n * j) + x) ≡ holds_by f s (guard_from table at) x
  pub others : (i : ℕ) → i < 64 * (n * j) → mem after i ≡ mem before i

pub record Planes (f s n : ℕ) (table offsets : List ℕ) (count : ℕ) (before after : List ℕ) : Type 0 where
  pub all : (j : ℕ) → j < count → n * (j + sets_at table (get_or offsets j 0)) ≤ length before → (x : ℕ) → x < 64 * n
      → mem after (64 * (n * j) + x) ≡ holds_by f s (guard_from table (get_or offsets j 0)) x
