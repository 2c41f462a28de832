-- The planes of a table's guards. Assumes nothing.
use mathlib.Core.Path.{◌≡◌, refl, sym, ap, subst, ◌∙◌}
use mathlib.Core.Bool.{true, false, false≢true}
use mathlib.Core.List.{List, ◌++◌}
use Prim.Native.Nat.{ℕ, ◌+◌, ◌-◌, ◌*◌, ◌≤◌, ◌<◌}
use native.Mathlib.Nat.{mul-le-mul_left}
use native.Mathlib.Omega.{arith}
use lib.ListN.{length, take, drop, replicate}
use Rattle.model.specs.Guard.{Guard, GuardRead, malformed, up_to, holds, guard_at, guard_of}
use Rattle.model.specs.Limits.{guard_limit}
use Rattle.model.specs.Table.{variables_at, clocks_at, guard_length_at}
use Rattle.monitor.specs.From.{guard_from}
use Rattle.words.specs.Words.{mem}
use Rattle.planes.specs.Built.{Built}
use Rattle.planes.specs.Numbering.{holds_by}
use Rattle.planes.specs.Planes.{Placed, sets_at}
use Rattle.std.specs.Prelude.{Option, is_some}
use Rattle.planes.proofs.Edits.{same_words, none_there}
use Rattle.planes.proofs.Room.{first-length, first_back, rest-before, rest-within}

-- the guard that was read, or none
module _ (f s n : ℕ) (a : List ℕ) where
  built_holds : (x : GuardRead) (r : Option ℕ) → Built f s n x r a → is_some r ≡ true → (i : ℕ) → i < 64 * n → mem a i ≡ holds_by f s (guard_of x) i
  built_holds malformed r b e i l = absurd (false≢true (ap is_some (sym b.ends) ∙ e))
  built_holds (up_to g j) r b e i l = b.all g j refl i l

  built_never : (x : GuardRead) (r : Option ℕ) → Built f s n x r a → is_some r ≡ false → (i : ℕ) → false ≡ holds_by f s (guard_of x) i
  unfolding holds_by holds
  built_never malformed r b e i = refl
  built_never (up_to g j) r b e i = absurd (false≢true (sym e ∙ ap is_some b.ends))

  module _ (b : List ℕ) (at v c l : ℕ) (ev : v ≡ variables_at b) (ec : c ≡ clocks_at b) (el : l ≡ guard_length_at b at) where
    unfoldable read : GuardRead
    read = guard_at guard_limit v c b (at + 7) (at + 7 + l)

    from : guard_of read ≡ guard_from b at
    unfolding read guard_from
    from = rw (ev, ec, el)

    pub plane-there : (r : Option ℕ) → Built f s n (guard_at guard_limit v c b (at + 7) (at + 7 + l)) r a → is_some r ≡ true → (i : ℕ) → i < 64 * n → mem a i ≡ holds_by f s (guard_from b at) i
    unfolding read
    plane-there r t e i m = built_holds read r t e i m ∙ ap (λ (g : Guard). holds_by f s g i) from

    pub plane_none : (r : Option ℕ) → Built f s n (guard_at guard_limit v c b (at + 7) (at + 7 + l)) r a → is_some r ≡ false → (i : ℕ) → false ≡ holds_by f s (guard_from b at) i
    unfolding read
    plane_none r t e i = built_never read r t e i ∙ ap (λ (g : Guard). holds_by f s g i) from

pub sets-some : (n : ℕ) (b : List ℕ) (at : ℕ) → n ≤ n * sets_at b at
sets-some n b at = let less : 1 ≤ sets_at b at = omega arith in omega (arith, mul-le-mul_left n less)

-- the first n words cleared
pub cleared : (s y : List ℕ) (n : ℕ) → n ≤ length s → y ≡ replicate (length (take n s)) 0 → (i : ℕ) → i < 64 * n → mem (y ++ drop n s) i ≡ false
cleared s y n h e i l =
    let x = same_words (take n s) y 0 e in
    first_back s y n h (x.size ∙ first-length s y n h) i l ∙ x.all i (subst (λ (k : ℕ). i < 64 * k) (sym (first-length s y n h)) l) ∙ none_there i

-- one plane
module _ (f s n : ℕ) (b : List ℕ) (at j : ℕ) (before : List ℕ) where
  pub placed_one : (y : List ℕ) → n * (j + sets_at b at) ≤ length before → length y ≡ length (take (length before - n * j) (drop (n * j) before))
      → ((i : ℕ) → i < 64 * n → mem y i ≡ holds_by f s (guard_from b at) i)
      → Placed f s n b at j before (take (n * j) before ++ (y ++ drop (length before - n * j) (drop (n * j) before)))
  placed_one y h e is =
      let one : j + 1 ≤ j + sets_at b at = omega arith in
      let room = mul-le-mul_left n one in
      let fits : n * j ≤ length before = omega arith in
      record {
        plane = λ l i m. rest-within before y (n * j) fits e i (omega arith) ∙ is i m;
        others = λ i l. rest-before before y (n * j) fits e i l;
      }

-- enough words: for any table, and where the guard's length is sound
module _ (n j len : ℕ) (b : List ℕ) (at : ℕ) (h : j < 64) where
  pub room_any : 95 * n ≤ len → n * (j + sets_at b at) ≤ len
  room_any l = let less : j + sets_at b at ≤ 95 = omega arith in omega (arith, mul-le-mul_left n less)

  pub room-sound : guard_length_at b at ≤ guard_limit → 80 * n ≤ len → n * (j + sets_at b at) ≤ len
  room-sound short l = let less : j + sets_at b at ≤ 80 = omega arith in omega (arith, mul-le-mul_left n less)
