-- Bytes that are placed one record behind the other, the bytes of a number, and what writing into a room gives, by the tests that the code makes.
use Prim.Native.Nat.{ℕ, ◌+◌, ◌/◌, ◌%◌, ◌≤◌, ◌<◌}
use native.Mathlib.Omega.{arith}
use native.Mathlib.Nat.{zero-add}
use native.Mathlib.Numerals.{add-one}
use mathlib.Core.Path.{◌≡◌, refl, sym, ap, ◌∙◌}
use mathlib.Core.List.{List, [], ◌++◌, append_assoc, append-nil}
use lib.ListN.{length, take, drop, length-append, length-drop}
use lib.Seq.{take_at, drop_at}
use borrow.Author.Tests.{le-leb, lt-leb}
use Rattle.model.specs.Answers.{Writes}
use Rattle.model.specs.Bytes.{joined}
use Rattle.model.specs.First.{Reading}
use Rattle.model.specs.Room.{write, over}
use Rattle.model.specs.declared.Refusal.{Refusal}
use Rattle.model.specs.declared.Refusal.TheVariants.{WriteRoom}
use Rattle.std.specs.Prelude.{Ok, Err}
use Rattle.model.proofs.AnswerLaws.{writes_by}
use Rattle.wire.specs.Placed.{placed}
use Rattle.wire.proofs.Room.{placed-fits, placed-behind}

module _ (head : List ℕ) (row : ℕ → List ℕ) where
  pub joined-more : (i : ℕ) → (head ++ joined row i) ++ row i ≡ head ++ joined row (i + 1)
  unfolding joined
  joined-more i = append_assoc head (joined row i) (row i) ∙ ap (λ n. head ++ joined row n) (sym (add-one i))

  pub joined_none : head ++ joined row 0 ≡ head
  unfolding joined
  joined_none = append-nil head

  -- one more record behind those that are placed
  pub placed_row : (room : List ℕ) (i at : ℕ) → length (head ++ joined row i) ≡ at → at + length (row i) ≤ length room
      → placed (row i) at (over (head ++ joined row i) room) ≡ over (head ++ joined row (i + 1)) room
  placed_row room i at e h = placed-behind (head ++ joined row i) (row i) room at e h ∙ ap (λ (l : List ℕ). over l room) (joined-more i)

-- bytes in the place of as many at the start
pub placed_first : (z h x room : List ℕ) → length z ≡ length h → length (z ++ x) ≤ length room → placed h 0 (over (z ++ x) room) ≡ over (h ++ x) room
placed_first z h x room e k =
    let rest : List ℕ = drop (length (z ++ x)) room in
    let all : length (over (z ++ x) room) ≡ length room = length-append (z ++ x) rest ∙ omega (arith, length-drop (length (z ++ x)) room) in
    let short : length h ≤ length (over (z ++ x) room) = omega (arith, length-append z x) in
    let same : length (z ++ x) ≡ length (h ++ x) = length-append z x ∙ omega (arith, length-append h x) in
    placed-fits h 0 (over (z ++ x) room) (omega arith)
    ∙ ap (λ (l : List ℕ). h ++ l) (ap (λ n. drop n ((z ++ x) ++ rest)) (zero-add (length h)) ∙ ap (drop (length h)) (append_assoc z x rest) ∙ drop_at z (x ++ rest) (length h) e)
    ∙ sym (append_assoc h x rest)
    ∙ ap (λ n. (h ++ x) ++ drop n room) same

-- what was written stands at the start
pub taken : (bytes room out : List ℕ) (n : ℕ) → out ≡ over bytes room → length bytes ≡ n → take n out ≡ bytes
taken bytes room out n e h = ap (take n) e ∙ take_at bytes (drop (length bytes) room) n h

-- the high byte of a number that has two
pub high : (n : ℕ) → n < 65536 → n / 256 ≡ n / 256 % 256
high n h = omega arith

-- writing into a room

module _ (answer : Reading) (bytes room : List ℕ) where
  pub write-refused : (r : Refusal) → answer ≡ Err r → Writes (write answer bytes room) (Err r) room
  write-refused r e = rw e (writes_by _ _ _ refl refl)

  module _ (sound : answer ≡ Ok tt) where
    pub write-short : length room < length bytes → Writes (write answer bytes room) (Err (WriteRoom (length bytes))) room
    write-short h = rw (sound, lt-leb _ _ h) (writes_by _ _ _ refl refl)

    pub write-fits : length bytes ≤ length room → (after : List ℕ) → after ≡ placed bytes 0 room → Writes (write answer bytes room) (Ok (length bytes)) after
    write-fits h after e = rw (sound, le-leb _ _ h) (writes_by _ _ _ refl (e ∙ placed-behind [] bytes room 0 refl (omega arith)))
