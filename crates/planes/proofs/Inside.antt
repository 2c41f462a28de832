-- The first guard of a conjunction is there: it ends further on, bytes and depth are left for it, and there is room for two sets.
use Prim.Native.Nat.{ℕ, suc, ◌+◌, ◌*◌, ◌≤◌, ◌<◌}
use native.Mathlib.Omega.{arith}
use mathlib.Core.Path.{◌≡◌}
use mathlib.Core.List.{List}
use Rattle.model.specs.Guard.{guard_at}
use Rattle.planes.specs.Built.{ended, in_hand}
use Rattle.std.specs.Prelude.{Some}
use Rattle.planes.proofs.Forms.{read_within}
use Rattle.planes.proofs.Room.{room_two}

pub record Inside (n depth at end next room : ℕ) : Type 0 where
  pub further : at + 1 < next
  pub before_end : at + 1 < end
  pub deeper : 1 < depth
  pub two : 2 * n ≤ room

pub inside : (variables clocks : ℕ) (b : List ℕ) (n depth inner at end next before after : ℕ) → suc inner ≡ depth → Some next ≡ ended (guard_at inner variables clocks b (at + 1) end)
    → n * in_hand depth at end ≤ before → after ≡ before → Inside n depth at end next after
inside variables clocks b n depth inner at end next before after less e fits same =
    let there = read_within variables clocks b end inner (at + 1) next e in
    let deeper : 1 < depth = omega arith in
    record { further = there.0; before_end = there.1; deeper = deeper; two = omega (arith, room_two n depth at end deeper there.1) }
