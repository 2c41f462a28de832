-- Writing bytes into a lent room: what is answered, and what the room holds then.
use Rattle.std.specs.Prelude.{ℕ, List, ◌++◌, cond, length, drop, leb, Ok, Err}
use Rattle.model.specs.First.{Reading, Writing}
use Rattle.model.specs.declared.Refusal.TheVariants.{WriteRoom}

pub record Lent : Type 0 where
  pub answer : Writing
  pub room : List ℕ

-- "Bytes of the room beyond those written are untouched"
abbrev pub over : List ℕ → List ℕ → List ℕ
over bytes room = bytes ++ drop (length bytes) room

-- a refusal changes nothing; "then 33, else 0 with the bytes written"
abbrev pub write : Reading → List ℕ → List ℕ → Lent
write (Err r) bytes room = record { answer = Err r; room = room }
write (Ok _) bytes room =
    cond (leb (length bytes) (length room))
    (record { answer = Ok (length bytes); room = over bytes room })
    (record { answer = Err (WriteRoom (length bytes)); room = room })
