-- The table's own N, where 26 asks for it.
use Prim.Native.Nat.{ℕ, ◌+◌, min}
use native.Mathlib.Omega.{arith}
use mathlib.Core.Path.{◌≡◌}
use mathlib.Core.List.{List}
use Rattle.std.specs.Prelude.{Ok}
use Rattle.model.specs.Limits.{size_limit}
use Rattle.model.specs.Size.{table_size, cap}
use Rattle.model.specs.Table.{table_answer, table_parts, monitor_of}
use Rattle.model.specs.Ruled.{monitor_under}
use Rattle.model.specs.declared.Rule.{Rule}
use Rattle.model.proofs.TableForm.{table_small}

-- a sound table's N is below the limit, so that it is worked out, and a rule leaves it as it is
pub size_read : (rule : Rule) (t : List ℕ) → table_answer t ≡ Ok tt → table_size (monitor_under rule t) ≡ min (table_size (monitor_of (table_parts t))) (size_limit + 1)
unfolding table_size cap
size_read rule t e = omega (arith, table_small t e)
