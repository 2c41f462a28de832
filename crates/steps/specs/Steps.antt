-- What a row that is sent makes of a situation, and the kind on which a transition fires.
use Rattle.std.specs.Prelude.{ℕ, Bool, cond, eqb, Option, Some, None, slice_get}
use Rattle.std.specs.Option.{option_map, option_and_then}
use Rattle.model.specs.Monitor.{Monitor}
use Rattle.model.specs.Situation.{tick, sent}
use Rattle.model.specs.declared.Situation.{Situation}
use Rattle.situation.specs.declared.Shape.{Shape}
use Rattle.situation.specs.Numbering.{capped_by}

-- the parts of a step: a sent row, and then the tick; the kind on which a transition fires from a state

unfoldable pub sent_by : Shape → Monitor → (guess : Bool) → (j k : ℕ) → Situation → Option Situation
sent_by h m guess j k s = option_map (tick (capped_by h)) (sent m guess j k s)

unfoldable pub trigger_from : Monitor → (state j : ℕ) → Option ℕ
trigger_from m state j = option_and_then (λ t. cond (eqb t.source state) (Some t.trigger) None) (slice_get m.transitions j)
