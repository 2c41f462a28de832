-- The recorded packets that are not accounted for.
use Rattle.std.specs.Prelude.{ℕ, List, [], ◌∷◌, Option, Some, None}
use Rattle.model.specs.Trace.{Packet}

abbrev pub first_time : List Packet → Option ℕ
first_time [] = None
first_time (p ∷ ps) = Some p.time
