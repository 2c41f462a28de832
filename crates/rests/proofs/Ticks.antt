-- The tick: clocks one later, as they are written by a shape.
use Prim.Native.Nat.{ℕ, ◌+◌, ◌-◌, min}
use native.Mathlib.Omega.{arith}
use mathlib.Core.Path.{◌≡◌, refl}
use mathlib.Core.List.{List, [], ◌∷◌, map}
use lib.ListN.{length, get_or}
use Rattle.situation.specs.declared.Shape.{Shape}
use Rattle.situation.specs.Numbering.{capped_by}

pub written : (h : Shape) (c : List ℕ) → length c ≡ 2 → capped_by h (map (λ x. x + 1) c) ≡ min (get_or c 0 0 + 1) (h.first - 1) ∷ min (get_or c 1 0 + 1) (h.second - 1) ∷ []
unfolding capped_by
written h [] e = absurd (omega arith)
written h (x ∷ []) e = absurd (omega arith)
written h (x ∷ y ∷ c) e = refl
