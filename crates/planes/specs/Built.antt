-- What reading a guard leaves: where the guard ended, and in n words the set where it holds.
use Rattle.std.specs.Prelude.{ℕ, ◌+◌, ◌-◌, ◌*◌, ◌/◌, ◌<◌, min, ◌≡◌, List, Option, Some, None}
use Rattle.model.specs.Guard.{Guard, GuardRead, malformed, up_to}
use Rattle.words.specs.Words.{mem}
use Rattle.planes.specs.Numbering.{holds_by}

abbrev pub ended : GuardRead → Option ℕ
ended malformed = None
ended (up_to g k) = Some k

pub record Built (f s n : ℕ) (x : GuardRead) (r : Option ℕ) (after : List ℕ) : Type 0 where
  pub ends : r ≡ ended x
  pub all : (g : Guard) (k : ℕ) → x ≡ up_to g k → (i : ℕ) → i < 64 * n → mem after i ≡ holds_by f s g i

-- as many sets are in hand at once: the second guard of a conjunction starts two bytes further on, or more, and is one less deep
abbrev pub in_hand : (depth at end : ℕ) → ℕ
in_hand depth at end = min depth (1 + (end - at) / 2)
