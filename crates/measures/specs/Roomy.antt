-- What makes a pass over the rows safe, whatever the table and the recording.
use Rattle.std.specs.Prelude.{ℕ, ◌+◌, ◌*◌, ◌<◌, ◌≤◌}
use Rattle.measures.specs.declared.Measures.{Measures}

-- the rows are in a scratch of n bytes, and products fit
pub record Roomy (g : Measures) (n : ℕ) : Type 0 where
  pub early : g.last < 65536
  pub narrow : g.row ≤ 8192
  pub long : g.row * (g.last + 1) ≤ n
