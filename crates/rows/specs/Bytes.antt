-- A set of numbers in bytes, as crate `bits` has it.
use Rattle.std.specs.Prelude.{ℕ, ◌*◌, ◌<◌, ◌≡◌, List, Bool, length}
use Rattle.bits.specs.Member as bytes

-- a set that is p up to its end
pub record Is8 (p : ℕ → Bool) (before after : List ℕ) : Type 0 where
  pub size : length after ≡ length before
  pub all : (i : ℕ) → i < 8 * length before → bytes.mem after i ≡ p i
