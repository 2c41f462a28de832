-- What the theorems about validation speak of: lists of moves that can be carried, on numbers and with real clocks.
use Prim.Native.Nat.{ℕ, suc, ◌<◌}
use mathlib.Core.Path.{◌≡◌}
use mathlib.Core.List.{List, [], ◌∷◌}
use mathlib.Core.Logic.{◌⊎◌}
use Rattle.std.specs.Prelude.{Option, Some}
use Rattle.model.specs.Monitor.{Monitor}
use Rattle.model.specs.Trace.{Packet}
use Rattle.model.specs.Situation.{move_of, move_limit, step_by, uncapped, recorded_at}
use Rattle.model.specs.declared.Situation.{Situation}

module _ (N K : ℕ) (step : ℕ → ℕ → ℕ → Option ℕ) where
  -- the moves ks, the first at instant t + 1, lead from number n to number z
  abbrev pub Leads : ℕ → ℕ → List ℕ → ℕ → Type 0
  Leads t n [] z = n ≡ z
  Leads t n (k ∷ ks) z = (x : ℕ) × (k < K) × (step (suc t) n k ≡ Some x) × (x < N) × Leads (suc t) x ks z

-- the moves ks, the first at instant t + 1, lead from situation s to situation z, with real clocks
abbrev pub Moves : Monitor → List Packet → ℕ → Situation → List ℕ → Situation → Type 0
Moves m recording t s [] z = s ≡ z
Moves m recording t s (k ∷ ks) z =
    (x : Situation) × (k < move_limit) × (step_by m uncapped (recorded_at recording (suc t)) s (move_of k) ≡ Some x) × Moves m recording (suc t) x ks z

-- two lists of moves: the first comes before the second where they first differ
abbrev pub Less : List ℕ → List ℕ → Type 0
Less [] ls = ⊥
Less (k ∷ ks) [] = ⊥
Less (k ∷ ks) (l ∷ ls) = (k < l) ⊎ ((k ≡ l) × Less ks ls)
