-- The monitor of a table's bytes, under the shape's rule.
use Rattle.std.specs.Prelude.{ℕ, List}
use Rattle.model.specs.Monitor.{Monitor, under}
use Rattle.monitor.specs.From.{monitor_from}
use Rattle.rule.specs.Within.{within}
use Rattle.situation.specs.declared.Shape.{Shape}

abbrev pub ruled_from : Shape → List ℕ → List ℕ → Monitor
ruled_from h table offsets = under (within h.rule) (monitor_from table offsets)
