-- The monitor of a table's bytes, under a rule.
use Rattle.std.specs.Prelude.{ℕ, List}
use Rattle.model.specs.Monitor.{Monitor, under}
use Rattle.model.specs.declared.Rule.{Rule}
use Rattle.monitor.specs.From.{monitor_from}
use Rattle.rule.specs.Within.{within}

abbrev pub ruled_from : Rule → List ℕ → List ℕ → Monitor
ruled_from rule table offsets = under (within rule) (monitor_from table offsets)
