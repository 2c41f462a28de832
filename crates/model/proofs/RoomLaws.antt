-- What was written was sound, and stands at the start of the room.
use Prim.Native.Nat.{ℕ, ◌≤◌}
use native.Mathlib.Omega.{arith}
use mathlib.Core.Path.{◌≡◌, refl, subst}
use mathlib.Core.List.{List, ◌++◌}
use mathlib.Core.Bool.{Bool, true, false, cond}
use lib.ListN.{length, take, drop, length-append}
use lib.Seq.{take-append_seam}
use lib.Dec.{leb}
use Rattle.model.specs.Room.{Lent, over, write}
use Rattle.model.specs.First.{Reading}
use Rattle.std.specs.Prelude.{Ok, Err}
use Rattle.model.specs.declared.Refusal.TheVariants.{WriteRoom}

pub written : (a : Reading) (bytes room : List ℕ) (n : ℕ) → (write a bytes room).answer ≡ Ok n
    → (a ≡ Ok tt) × (take n (write a bytes room).room ≡ bytes) × (n ≤ length (write a bytes room).room)
written (Err r) bytes room n e = absurd (never e)
  where
    never : Err r ≡ Ok n → ⊥
    never q = let z : ◌≡◌ {A = ℕ} 0 1 = cc in omega arith
written (Ok _) bytes room n e = let (stands, fits) = by (leb (length bytes) (length room)) e in (refl, stands, fits)
  where
    answered : Bool → Lent
    answered fits =
        cond fits (record { answer = Ok (length bytes); room = over bytes room }) (record { answer = Err (WriteRoom (length bytes)); room = room })

    by : (fits : Bool) → (answered fits).answer ≡ Ok n → (take n (answered fits).room ≡ bytes) × (n ≤ length (answered fits).room)
    by true q =
        let whole : length bytes ≡ n = cc in (
          subst (λ (k : ℕ). take k (bytes ++ drop (length bytes) room) ≡ bytes) whole (take-append_seam bytes (drop (length bytes) room)),
          omega (arith, length-append bytes (drop (length bytes) room)),
        )
    by false q = absurd (never q)
      where
        never : Err (WriteRoom (length bytes)) ≡ Ok n → ⊥
        never p = let z : ◌≡◌ {A = ℕ} 0 1 = cc in omega arith
