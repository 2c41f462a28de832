-- That transitions start from states of the monitor, as a sound table's do.
use Rattle.std.specs.Prelude.{ℕ, ◌<◌, ◌≡◌, Some, slice_get}
use Rattle.model.specs.Monitor.{Monitor, Transition}

abbrev pub Sourced : Monitor → Type 0
Sourced m = (j : ℕ) (t : Transition) → slice_get m.transitions j ≡ Some t → t.source < m.states
