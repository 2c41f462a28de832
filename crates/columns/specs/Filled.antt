-- Columns that are filled from the front.
use Rattle.std.specs.Prelude.{ℕ, min, List, ◌++◌, length, drop}
use Rattle.model.specs.Bytes.{tab}

-- a column with f 0 .. f (n - 1) over its start, or as many of them as it has places
unfoldable pub filled : {A : Type 0} → (ℕ → A) → ℕ → List A → List A
filled f n column = tab f (min n (length column)) ++ drop (min n (length column)) column
