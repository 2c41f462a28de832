-- The least move into a set. A set is a row of bits: number z is bit start + z of the scratch, for z below the size.
use Rattle.std.specs.Prelude.{ℕ, ◌+◌, ◌<◌, ◌≡◌, List, Bool, true, ◌&&◌, ltb, Option, Some, None}
use Rattle.model.specs.Situation as Model
use Rattle.model.specs.Situation.{keep, rest, add, rest_move, first_add, move_limit, move_of}
use Rattle.model.specs.Layers.{into, first_from}
use Rattle.bits.specs.Member.{mem}
use Rattle.steps.specs.Stepping.{as_move}
use Rattle.steps.specs.declared.Move.{Move}
use Rattle.steps.specs.declared.Move.TheVariants.{Keep, Rest, Add}
use Rattle.layers.specs.declared.Least.{Least}

-- number z is in the row that starts at a bit
abbrev pub in_row : List ℕ → (start size z : ℕ) → Bool
in_row scratch start size z = ltb z size && mem scratch (start + z)

-- the least move that leads from n into a row; the number of moves if none does
abbrev pub least_into : (step : ℕ → ℕ → Option ℕ) → List ℕ → (to size n : ℕ) → ℕ
least_into step scratch to size n = first_from (λ k. into (in_row scratch to size) (step n k)) move_limit 0

-- a move's number, in the order of preference
abbrev pub move_number : Move → ℕ
move_number (Keep j) = j
move_number Rest = rest_move
move_number (Add j) = first_add + j

-- the move by transition j: a recorded row is kept, and where none is recorded one is added
abbrev pub by_transition : Option ℕ → ℕ → Model.Move
by_transition (Some k) j = keep j
by_transition None j = add j

-- a move leads into the set, and where it leads
pub record Leads (test : ℕ → Bool) (arrive : Model.Move → Option ℕ) (a : Model.Move) (l : Least) : Type 0 where
  pub move : as_move l.k ≡ a
  pub to : arrive a ≡ Some l.to
  pub within : test l.to ≡ true

-- the first of n moves that leads into a set; n if none does
abbrev pub first_of : (test : ℕ → Bool) (arrive : Model.Move → Option ℕ) (a : ℕ → Model.Move) → ℕ → ℕ
first_of test arrive a n = first_from (λ j. into test (arrive (a j))) n 0

-- that move, and where it leads
pub record FirstBy (test : ℕ → Bool) (arrive : Model.Move → Option ℕ) (a : ℕ → Model.Move) (n : ℕ) (l : Least) : Type 0 where
  pub below : first_of test arrive a n < n
  pub leads : Leads test arrive (a (first_of test arrive a n)) l

-- the move of that number, and where it leads
pub record LeastMove (step : ℕ → Option ℕ) (least : ℕ) (l : Least) : Type 0 where
  pub number : move_number l.k ≡ least
  pub few : least < move_limit
  pub move : move_of least ≡ as_move l.k
  pub to : step least ≡ Some l.to
