-- What a memory holds: entries of w words one behind the other, each a tag, the sets that were given, and the set that an instant made of them.
use Rattle.std.specs.Prelude.{ℕ, ◌+◌, ◌*◌, ◌≤◌, ◌<◌, ◌≡◌, List, length, get_or, Option, Some, None}
use Rattle.model.specs.Monitor.{Monitor}
use Rattle.images.specs.Advanced.{AdvancedTo, RetreatedTo}

-- what is recorded at an instant, as a number; 0 is the tag of an entry that holds nothing
unfoldable pub tag_of : Option ℕ → ℕ
tag_of None = 1
tag_of (Some kind) = kind + 2

-- the words of s, from a place on
pub record Stands (memo : List ℕ) (place : ℕ) (s : List ℕ) : Type 0 where
  pub same : (i : ℕ) → i < length s → get_or memo (place + i) 0 ≡ get_or s i 0

-- entry k is there, with the tag of what is recorded
pub record Entry (memo : List ℕ) (w k : ℕ) (recorded : Option ℕ) : Type 0 where
  pub fits : w * (k + 1) ≤ length memo
  pub tagged : get_or memo (w * k) 0 ≡ tag_of recorded

-- forward: each entry holds a set a, and z, which the instant makes of a
pub record Known (m : Monitor) (n : ℕ) (memo : List ℕ) : Type 0 where
  pub entries : (k : ℕ) (recorded : Option ℕ) (a z : List ℕ) → length a ≡ n → length z ≡ n → Entry memo (1 + 2 * n) k recorded
      → Stands memo ((1 + 2 * n) * k + 1) a → Stands memo ((1 + 2 * n) * k + 1 + n) z → AdvancedTo m recorded n a z

-- back: each entry holds a set a, a row b, and z, which is kept of b on the way into a
pub record KnownBack (m : Monitor) (n : ℕ) (memo : List ℕ) : Type 0 where
  pub entries : (k : ℕ) (recorded : Option ℕ) (a b z : List ℕ) → length a ≡ n → length b ≡ n → length z ≡ n → Entry memo (1 + 3 * n) k recorded
      → Stands memo ((1 + 3 * n) * k + 1) a → Stands memo ((1 + 3 * n) * k + 1 + n) b → Stands memo ((1 + 3 * n) * k + 1 + 2 * n) z → RetreatedTo m recorded n a b z
