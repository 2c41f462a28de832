-- A tick by a shape.
use Rattle.std.specs.Prelude.{ℕ, ◌+◌, map}
use Rattle.model.specs.declared.Config.{Config}
use Rattle.model.specs.declared.Situation.{Situation}
use Rattle.situation.specs.declared.Shape.{Shape}
use Rattle.situation.specs.Numbering.{capped_by}

-- a configuration one tick later, with the ticks for which the air is then taken, and the window
abbrev pub ticked_by : Shape → Config → (air window : ℕ) → Situation
ticked_by h c air window =
    record { state = c.state; variables = c.variables; clocks = capped_by h (map (λ x. x + 1) c.clocks); air = air; window = window }
