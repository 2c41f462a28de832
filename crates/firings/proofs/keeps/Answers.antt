use mathlib.Core.Path.{◌≡◌, subst, sym}
use Prim.Native.Nat.{ℕ, ◌<◌, ◌*◌, ◌^◌, ◌%◌}
use mathlib.Core.Bool.{true}
use lib.Dec.{leb}
use Rattle.model.specs.Monitor.{changed}
use Rattle.firings.proofs.Planes.{kept}
use Rattle.firings.proofs.keeps.Goals as goal

pub returns-then-variables-lt8 : goal.returns-then-variables-lt8
returns-then-variables-lt8 c =
    let a = c.args in
    let P : ℕ → Type 0 = λ m. (v : ℕ) → leb m (1 * 2 ^ a.variables % 65536) ≡ true → v < a.masks → changed a.variables v a.sets a.clears ≡ v in
    subst P (sym c.from.ensures) (λ v e. kept a.variables a.masks a.sets a.clears c.if-variables-lt8.true e v)
