-- What `placed` gives: where the bytes fit, where they do not, and behind what was written before.
use Prim.Native.Nat.{ℕ, ◌+◌, ◌≤◌, ◌<◌}
use native.Mathlib.Omega.{arith}
use mathlib.Core.Path.{◌≡◌, refl, sym, ap, ◌∙◌}
use mathlib.Core.List.{List, ◌++◌}
use lib.ListN.{length, take, drop, length-append, length-drop}
use lib.Seq.{take_at, drop_at, drop-drop}
use borrow.Author.Tests.{le-leb, lt-leb}
use Rattle.model.specs.Room.{over}
use Rattle.wire.specs.Placed.{placed}

module _ (bytes : List ℕ) (at : ℕ) (room : List ℕ) where
  pub placed-fits : at + length bytes ≤ length room → placed bytes at room ≡ take at room ++ bytes ++ drop (at + length bytes) room
  unfolding placed
  placed-fits h = simp (le-leb _ _ h)

  pub placed_not : length room < at + length bytes → placed bytes at room ≡ room
  unfolding placed
  placed_not h = simp (lt-leb _ _ h)

-- bytes placed behind those that are written already are written behind them
pub placed-behind : (done bytes room : List ℕ) (at : ℕ) → length done ≡ at → at + length bytes ≤ length room → placed bytes at (over done room) ≡ over (done ++ bytes) room
placed-behind done bytes room at e h =
    let rest : List ℕ = drop (length done) room in
    let long : length (over done room) ≡ length room = length-append done rest ∙ omega (arith, length-drop (length done) room) in
    placed-fits bytes at (over done room) (omega arith)
    ∙ ap (λ (l : List ℕ). l ++ bytes ++ drop (at + length bytes) (done ++ rest)) (take_at done rest at e)
    ∙ ap (λ (l : List ℕ). (done ++ bytes) ++ l) (behind rest refl)
  where
    behind : (rest : List ℕ) → rest ≡ drop (length done) room → drop (at + length bytes) (done ++ rest) ≡ drop (length (done ++ bytes)) room
    behind rest r =
        sym (drop-drop (length bytes) at (done ++ rest))
        ∙ ap (drop (length bytes)) (drop_at done rest at e ∙ r)
        ∙ drop-drop (length bytes) (length done) room
        ∙ ap (λ (k : ℕ). drop k room) (sym (length-append done bytes))
