-- The shape of a table's parts and a rule is that of its monitor under the rule.
use Prim.Native.Nat.{ℕ, ◌^◌, ◌≤◌}
use mathlib.Core.Path.{◌≡◌, refl, ap}
use mathlib.Core.List.{List}
use borrow.Author.Tests.{le-leb}
use Rattle.model.specs.Limits.{variable_limit, window_limit}
use Rattle.model.specs.Monitor.{under}
use Rattle.model.specs.Rule.{masks}
use Rattle.model.specs.Size.{cap}
use Rattle.model.specs.Table.{table_parts, monitor_of, monitor_at, SoundTable}
use Rattle.model.specs.declared.Rule.{Rule}
use Rattle.model.specs.declared.TableParts.{TableParts}
use Rattle.model.proofs.TableForm.{table_facts}
use Rattle.rule.specs.Within.{within}
use Rattle.rule.proofs.Laws.{within-sound}
use Rattle.situation.specs.Numbering.{Fits, masks_of, shape_of}

few-masks : (n : ℕ) → n ≤ variable_limit → masks_of n ≡ 2 ^ n
unfolding masks_of
few-masks n h = simp (le-leb n variable_limit h)

-- under a rule whose window 25 lets through
module _ (rule : Rule) (some : 1 ≤ rule.window) (few : rule.window ≤ window_limit) where
  pub shape-fits : (t : TableParts) → t.variables ≤ variable_limit → Fits (shape_of t rule) (under rule (monitor_of t))
  unfolding shape_of monitor_of cap
  shape-fits t h =
      let same : within rule ≡ rule = within-sound rule some few in
      record { states = refl; masks = few-masks t.variables h; first = refl; second = refl; windows = ap masks same; rule = same }

  pub table_shape : (b : List ℕ) → SoundTable b → Fits (shape_of (table_parts b) rule) (under rule (monitor_at b))
  unfolding table_parts
  table_shape b e = shape-fits (table_parts b) (table_facts b e).counts.variables
