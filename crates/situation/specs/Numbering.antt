-- A situation's number by a shape, and back: mixed radix, the first digit the lowest.
use Rattle.std.specs.Prelude.{ℕ, ◌+◌, ◌-◌, ◌*◌, ◌/◌, ◌%◌, ◌^◌, min, ◌≡◌, List, [], ◌∷◌, cond, get_or, leb, eqb}
use Rattle.model.specs.Limits.{variable_limit}
use Rattle.model.specs.Rule as Rules
use Rattle.model.specs.Monitor.{Monitor}
use Rattle.model.specs.Size.{cap}
use Rattle.model.specs.Table.{monitor_of}
use Rattle.model.specs.declared.TableParts.{TableParts}
use Rattle.model.specs.declared.Rule.{Rule}
use Rattle.model.specs.declared.Situation.{Situation}
use Rattle.rule.specs.Within.{within}
use Rattle.situation.specs.declared.Shape.{Shape}

-- the shape of a monitor's situations
pub record Fits (h : Shape) (m : Monitor) : Type 0 where
  pub states : h.states ≡ m.states
  pub masks : h.masks ≡ 2 ^ m.variables
  pub first : h.first ≡ cap m 0 + 1
  pub second : h.second ≡ cap m 1 + 1
  pub windows : h.windows ≡ Rules.masks m.rule
  pub rule : within h.rule ≡ m.rule

-- 2 to the number of variables; 0 where they are more than a table has
unfoldable pub masks_of : ℕ → ℕ
masks_of variables = cond (leb variables variable_limit) (2 ^ variables) 0

unfoldable pub shape_of : TableParts → Rule → Shape
shape_of t rule =
    record {
      states = t.states;
      masks = masks_of t.variables;
      first = cap (monitor_of t) 0 + 1;
      second = cap (monitor_of t) 1 + 1;
      windows = Rules.masks (within rule);
      rule = rule;
    }

-- clocks as they are written by a shape
unfoldable pub capped_by : Shape → List ℕ → List ℕ
capped_by h c = min (get_or c 0 0) (h.first - 1) ∷ min (get_or c 1 0) (h.second - 1) ∷ []

unfoldable pub number_by : Shape → Situation → ℕ
number_by h s =
    get_or s.clocks 0 0
    + h.first * (get_or s.clocks 1 0 + h.second * (s.variables + h.masks * (s.state + h.states * (s.window + h.windows * s.air))))

-- the lowest digit, and the number above it; 0 where the radix is 0
unfoldable pub digit_by : ℕ → ℕ → ℕ
digit_by radix n = cond (eqb radix 0) 0 (n % radix)

unfoldable pub rest_by : ℕ → ℕ → ℕ
rest_by radix n = cond (eqb radix 0) 0 (n / radix)

-- any number gives a situation whose fields fit their types
unfoldable pub situation_by : Shape → ℕ → Situation
situation_by h n =
    record {
      clocks = digit_by h.first n ∷ digit_by h.second (rest_by h.first n) ∷ [];
      variables = digit_by h.masks (rest_by h.second (rest_by h.first n));
      state = digit_by h.states (rest_by h.masks (rest_by h.second (rest_by h.first n)));
      window = digit_by h.windows (rest_by h.states (rest_by h.masks (rest_by h.second (rest_by h.first n))));
      air = rest_by h.windows (rest_by h.states (rest_by h.masks (rest_by h.second (rest_by h.first n)))) % 256;
    }
