-- A number stands for variables and two clocks: clock 0 lowest, of f values, then clock 1, of s values, then the variables' mask.
use Rattle.std.specs.Prelude.{ℕ, zero, suc, ◌*◌, ◌/◌, ◌%◌, ◌≤◌, ◌<◌, [], ◌∷◌, Bool}
use Rattle.model.specs.Guard.{Guard, holds}

-- a guard's value where a number says
unfoldable pub holds_by : (f s : ℕ) → Guard → ℕ → Bool
holds_by f s g x = holds g (x / (f * s)) (x % f ∷ x / f % s ∷ [])

-- a clock's digit: how much one tick of it counts, and how many values it has. A clock that is not there has the value 0

unfoldable pub weight : (f : ℕ) → ℕ → ℕ
weight f zero = 1
weight f (suc zero) = f
weight f (suc (suc n)) = 1

unfoldable pub values : (f s : ℕ) → ℕ → ℕ
values f s zero = f
values f s (suc zero) = s
values f s (suc (suc n)) = 1

-- a clock compared with bytes has at most 257 values that differ
pub record Clocks (f s : ℕ) : Type 0 where
  pub some : 0 < f
  pub most : f ≤ 257
  pub some₁ : 0 < s
  pub most₁ : s ≤ 257
