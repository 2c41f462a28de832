-- That the set operations of an instant come to the definition's moves.
use Rattle.std.specs.Prelude.{ℕ, ◌<◌, ◌≡◌, ◌↔◌, Bool, true, Option, Some}
use Rattle.std.specs.Option.{option_map}
use Rattle.model.specs.Monitor.{Monitor}
use Rattle.model.specs.Size.{size}
use Rattle.model.specs.Situation.{capped, step_by, move_of, move_limit, number, situation_of}
use Rattle.instants.specs.Forward.{forward}
use Rattle.instants.specs.Backward.{backward}

-- the step from number n by move k, where something is recorded or nothing
abbrev pub step_from : Monitor → Option ℕ → (n k : ℕ) → Option ℕ
step_from m recorded n k = option_map (number m) (step_by m (capped m) recorded (situation_of m n) (move_of k))

-- of a set of numbers below N: z is given exactly if some move leads from one of them to z
pub record Forwards (m : Monitor) (recorded : Option ℕ) (s : ℕ → Bool) : Type 0 where
  pub given : (z : ℕ) → (forward m recorded s z ≡ true) ↔ ((n : ℕ) × (k : ℕ) × (s n ≡ true) × (k < move_limit) × (step_from m recorded n k ≡ Some z))
  pub within : (z : ℕ) → forward m recorded s z ≡ true → z < size m

-- .. and a number below N is given exactly if some move leads from it into the set
pub record Backwards (m : Monitor) (recorded : Option ℕ) (s : ℕ → Bool) : Type 0 where
  pub given : (n : ℕ) → n < size m
      → (backward m recorded s n ≡ true) ↔ ((k : ℕ) × (z : ℕ) × (k < move_limit) × (step_from m recorded n k ≡ Some z) × (s z ≡ true))
