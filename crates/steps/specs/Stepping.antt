-- One step on numbers: the number of the situation that a move leads to.
use Rattle.std.specs.Prelude.{ℕ, List, Option}
use Rattle.std.specs.Option.{option_map}
use Rattle.model.specs.Situation as Model
use Rattle.model.specs.Situation.{step_by, move_of, keep, rest, add}
use Rattle.model.specs.declared.Situation.{Situation}
use Rattle.situation.specs.declared.Shape.{Shape}
use Rattle.situation.specs.Numbering.{capped_by, number_by, situation_by}
use Rattle.situation.specs.Ruled.{ruled_from}
use Rattle.steps.specs.declared.Move.{Move}
use Rattle.steps.specs.declared.Move.TheVariants.{Keep, Rest, Add}

-- the model's move
abbrev pub as_move : Move → Model.Move
as_move (Keep j) = keep j
as_move Rest = rest
as_move (Add j) = add j

-- the number of the situation just before the next instant, by a move from s
abbrev pub arrive_by : List ℕ → List ℕ → Shape → Option ℕ → Situation → Model.Move → Option ℕ
arrive_by table offsets h heard s a = option_map (number_by h) (step_by (ruled_from h table offsets) (capped_by h) heard s a)

-- .. by move k
unfoldable pub arrive_from : List ℕ → List ℕ → Shape → Option ℕ → Situation → ℕ → Option ℕ
arrive_from table offsets h heard s k = arrive_by table offsets h heard s (move_of k)

-- .. from the situation of number n, where something is recorded or nothing
abbrev pub step_at : List ℕ → List ℕ → Shape → Option ℕ → (n k : ℕ) → Option ℕ
step_at table offsets h heard n k = arrive_from table offsets h heard (situation_by h n) k
