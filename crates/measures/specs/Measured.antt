-- What is measured of a table's parts, a rule and a recording, for any parts, numbers and bytes.
use Rattle.std.specs.Prelude.{ℕ, ◌+◌, ◌*◌, ◌/◌, ◌<◌, min, ◌≡◌, List}
use Rattle.model.specs.Limits.{size_limit}
use Rattle.model.specs.Size
use Rattle.model.specs.Table.{monitor_of}
use Rattle.model.specs.Recording.{packets_at, end_of}
use Rattle.model.specs.Situation.{first_by}
use Rattle.model.specs.Rule.{masks}
use Rattle.model.specs.declared.Rule.{Rule}
use Rattle.model.specs.declared.TableParts.{TableParts}
use Rattle.rule.specs.Within.{within}
use Rattle.planes.specs.Numbering.{Clocks}
use Rattle.situation.specs.Numbering.{shape_of, number_by, capped_by}
use Rattle.measures.specs.declared.Measures.{Measures}

pub record Measured (parts : TableParts) (rule : Rule) (recording : List ℕ) (g : Measures) : Type 0 where
  pub shape : g.shape ≡ shape_of parts rule
  pub size : g.size ≡ min (Size.table_size (monitor_of parts)) (size_limit + 1) * masks (within rule)
  pub row : g.row ≡ Size.set_bytes g.size
  pub words : g.words ≡ (g.size + 63) / 64
  pub last : g.last ≡ end_of (packets_at recording)
  pub first : g.first ≡ number_by g.shape (first_by (capped_by g.shape))
  pub short : g.last < 65536
  pub clocks : Clocks g.shape.first g.shape.second
