-- Situations, their numbers, and moves (document 01, "Situations, cost and preference").
use Rattle.std.specs.Prelude.{ℕ, ◌+◌, ◌-◌, ◌*◌, ◌/◌, ◌%◌, ◌^◌, ◌<◌, ◌≤◌, min, ◌≡◌, List, [], ◌∷◌, map, Bool, true, false, cond, get_or, ltb, eqb, Option, Some, None, slice_get}
use Rattle.std.specs.Option.{option_map, option_and_then}
use Rattle.model.specs.Limits.{transition_limit}
use Rattle.model.specs.Rule.{masks, window_behind}
use Rattle.model.specs.Monitor.{Monitor, Config, fires, to_unit, airtime, is_guess, within_rule}
use Rattle.model.specs.Trace.{Packet}
use Rattle.model.specs.Size.{cap, largest_airtime}
use Rattle.model.specs.declared.Situation.{Situation}

abbrev pub config_of : Situation → Config
config_of s = record { state = s.state; variables = s.variables; clocks = s.clocks }

abbrev pub with_air : Config → (air window : ℕ) → Situation
with_air c air window = record { state = c.state; variables = c.variables; clocks = c.clocks; air = air; window = window }

-- how clocks are written: with values above M as M + 1, or as they are
unfoldable pub capped : Monitor → List ℕ → List ℕ
capped m c = min (get_or c 0 0) (cap m 0) ∷ min (get_or c 1 0) (cap m 1) ∷ []

abbrev pub uncapped : List ℕ → List ℕ
uncapped c = c

-- a list of two clocks, one for each place of the format
abbrev pub TwoClocks : List ℕ → Type 0
TwoClocks c = c ≡ get_or c 0 0 ∷ get_or c 1 0 ∷ []

-- "Just before instant 1 one situation is possible: state 0, variables false, clocks 1, air 0"; there are no rows yet, and so no guesses
abbrev pub first_by : (List ℕ → List ℕ) → Situation
first_by write = record { state = 0; variables = 0; clocks = write (1 ∷ 1 ∷ []); air = 0; window = 0 }

-- moves, in document 01's order of preference: keep by a transition; add nothing, which removes a recorded row; add a row by a transition
pub data Move : Type 0 where
  keep : ℕ → Move
  rest : Move
  add : ℕ → Move

-- a packet of kind k goes on the air where that is free, and of airtime a leaves a taken after the tick; o is where the monitor then is, none if the packet
-- cannot be there, and window which rows are then guesses
abbrev pub on_air : Monitor → ℕ → Situation → (window : ℕ) → Option Config → Option Situation
on_air m k s window o = cond (eqb s.air 0) (option_map (λ c. with_air c (airtime m k + 1) window) o) None

-- "A kept or added row finds the air free and fires one transition", and keeps the rule
unfoldable pub sent : Monitor → (guess : Bool) → (j k : ℕ) → Situation → Option Situation
sent m guess j k s = on_air m k s (window_behind m.rule s.window guess) (within_rule m s.window guess (fires m j k (config_of s)))

-- a removed row is to the unit; "the channel was taken, though the unit missed it" (R-3). It is not counted into the window
unfoldable pub missed : Monitor → ℕ → Situation → Option Situation
missed m k s = on_air m k s s.window (cond (to_unit m k) (Some (config_of s)) None)

-- the kind that an added row by transition j has
abbrev pub trigger_of : Monitor → ℕ → Option ℕ
trigger_of m j = option_map (λ t. t.trigger) (slice_get m.transitions j)

-- "Where no row is recorded, a move is nothing or an added row; where one is, it is keeping it, or, if the row is to the unit, removing it"; what is removed
-- takes the air, so nothing is added at its instant
unfoldable pub moved : Monitor → Option ℕ → Situation → Move → Option Situation
moved m None s (keep j) = None
moved m None s rest = Some s
moved m None s (add j) = option_and_then (λ a. sent m (is_guess m a) j a s) (trigger_of m j)
moved m (Some k) s (keep j) = sent m false j k s
moved m (Some k) s rest = missed m k s
moved m (Some k) s (add j) = None

-- "The tick raises each clock by 1 and leaves the air as said above"
abbrev pub tick : (List ℕ → List ℕ) → Situation → Situation
tick write s = record { state = s.state; variables = s.variables; clocks = write (map (λ x. x + 1) s.clocks); air = s.air - 1; window = s.window }

-- a move and then one tick
unfoldable pub step_by : Monitor → (List ℕ → List ℕ) → Option ℕ → Situation → Move → Option Situation
step_by m write recorded s a = option_map (tick write) (moved m recorded s a)

-- the kind recorded at an instant
unfoldable pub recorded_at : List Packet → ℕ → Option ℕ
recorded_at [] t = None
recorded_at (p ∷ ps) t = elim (eqb p.time t) [ true ↦ Some p.kind | false ↦ recorded_at ps t ]

-- moves as numbers, the preferred first: keep by each transition that a table can have, nothing, add by each transition

abbrev pub rest_move : ℕ
rest_move = transition_limit

abbrev pub first_add : ℕ
first_add = rest_move + 1

abbrev pub move_limit : ℕ
move_limit = first_add + transition_limit

unfoldable pub move_of : ℕ → Move
move_of n = cond (ltb n rest_move) (keep n) (cond (eqb n rest_move) rest (add (n - first_add)))

-- a situation of the table: a state, variables and two clocks as they are written, at most A ticks of taken air, and which of the last l-1 rows were guesses
pub record InRange (m : Monitor) (s : Situation) : Type 0 where
  pub state : s.state < m.states
  pub variables : s.variables < 2 ^ m.variables
  pub clocks : TwoClocks s.clocks
  pub first : get_or s.clocks 0 0 ≤ cap m 0
  pub second : get_or s.clocks 1 0 ≤ cap m 1
  pub air : s.air ≤ largest_airtime m
  pub window : s.window < masks m.rule

-- situations as numbers below N, and back: clocks, variables, state, window, air, the first the lowest digit

unfoldable pub number : Monitor → Situation → ℕ
number m s =
    get_or s.clocks 0 0
    + (cap m 0 + 1)
    * (get_or s.clocks 1 0 + (cap m 1 + 1) * (s.variables + 2 ^ m.variables * (s.state + m.states * (s.window + masks m.rule * s.air))))

unfoldable pub situation_of : Monitor → ℕ → Situation
situation_of m n =
    record {
      clocks = n % (cap m 0 + 1) ∷ n / (cap m 0 + 1) % (cap m 1 + 1) ∷ [];
      variables = n / (cap m 0 + 1) / (cap m 1 + 1) % 2 ^ m.variables;
      state = n / (cap m 0 + 1) / (cap m 1 + 1) / 2 ^ m.variables % m.states;
      window = n / (cap m 0 + 1) / (cap m 1 + 1) / 2 ^ m.variables / m.states % masks m.rule;
      air = n / (cap m 0 + 1) / (cap m 1 + 1) / 2 ^ m.variables / m.states / masks m.rule;
    }

-- the step at instant t from situation n by move k, on numbers
unfoldable pub step_number : Monitor → List Packet → (t n k : ℕ) → Option ℕ
step_number m recording t n k = option_map (number m) (step_by m (capped m) (recorded_at recording t) (situation_of m n) (move_of k))

abbrev pub first_number : Monitor → ℕ
first_number m = number m (first_by (capped m))
