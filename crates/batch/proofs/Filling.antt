-- Columns over a filler, by equal numbers.
use Prim.Native.Nat.{ℕ}
use mathlib.Core.Path.{◌≡◌, ap, ◌∙◌}
use mathlib.Core.List.{List}
use lib.ListN.{replicate}
use Rattle.columns.specs.Filled.{filled}

pub same-filled : (f : ℕ → ℕ) (size n m v w : ℕ) (column : List ℕ) → column ≡ filled f n (replicate size v) → n ≡ m → v ≡ w → column ≡ filled f m (replicate size w)
same-filled f size n m v w column is e q = is ∙ ap (λ (k : ℕ). filled f k (replicate size v)) e ∙ ap (λ (k : ℕ). filled f m (replicate size k)) q
