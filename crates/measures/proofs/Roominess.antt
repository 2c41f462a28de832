-- Where rows have room, and that those of a sound table and recording have it.
use Prim.Native.Nat.{ℕ, ◌+◌, ◌*◌, ◌≤◌}
use native.Mathlib.Omega.{arith}
use mathlib.Core.Path.{◌≡◌}
use mathlib.Core.List.{List}
use Rattle.measures.specs.declared.Measures.{Measures}
use Rattle.measures.specs.Roomy.{Roomy}
use Rattle.measures.specs.Setting.{Setting}
use Rattle.measures.proofs.Rows.{next_row, row-end}

-- the rows are in the scratch
module _ {g : Measures} {n : ℕ} (roomy : Roomy g n) where
  pub roomy-kept : {m : ℕ} → m ≡ n → Roomy g m
  roomy-kept e = record { early = roomy.early; narrow = roomy.narrow; long = omega (arith, roomy.long, e) }

  -- the row of instant t ends within them
  pub row_fits : {t : ℕ} → t ≤ g.last → g.row * t + g.row ≤ n
  row_fits {t} h = omega (arith, roomy.long, row-end g.row t g.last h)

  pub first_fits : g.row ≤ n
  first_fits = omega (arith, roomy.long, next_row g.row g.last)

-- a sound table and recording have room where the rows are in the scratch
pub roomy_by : {table offsets recording : List ℕ} {g : Measures} {n : ℕ} → Setting table offsets recording g → g.row * (g.last + 1) ≤ n → Roomy g n
roomy_by setting long = record { early = omega (arith, setting.end, setting.sound.last); narrow = setting.narrow; long = long }
