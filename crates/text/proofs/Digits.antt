-- One step of `digits`, and how long numbers and lines are.
use Prim.Native.Nat.{ℕ, zero, suc, ◌+◌, ◌-◌, ◌*◌, ◌/◌, ◌%◌, ◌≤◌, ◌<◌}
use native.Mathlib.Nat.{not-suc-le-zero}
use native.Mathlib.Omega.{arith}
use mathlib.Core.Path.{◌≡◌, refl, ap}
use mathlib.Core.List.{List, [], ◌∷◌, ◌++◌}
use mathlib.Core.Bool.{Bool, true, false}
use lib.ListN.{length, length-append}
use lib.Dec.{ltb}
use borrow.Author.Tests.{lt-ltb, le-ltb}
use Rattle.model.specs.Desk.{digits, spaced, newline, line, rejected_word, rejected_line}
use Rattle.text.specs.Put.{numbered, line_of}

pub digits_none : (fuel n : ℕ) → fuel ≡ 0 → digits fuel n ≡ []
unfolding digits
digits_none fuel n e = ap (λ (k : ℕ). digits k n) e

pub digits_last : (fuel n : ℕ) → 0 < fuel → n < 10 → digits fuel n ≡ (48 + n) ∷ []
unfolding digits
digits_last zero n some h = absurd (not-suc-le-zero some)
digits_last (suc fuel) n some h = rw (lt-ltb n 10 h, digits)

pub digits_more : (fuel n : ℕ) → 0 < fuel → 10 ≤ n → digits fuel n ≡ digits (fuel - 1) (n / 10) ++ ((48 + n % 10) ∷ [])
unfolding digits
digits_more zero n some h = absurd (not-suc-le-zero some)
digits_more (suc fuel) n some h =
    let e : fuel ≡ suc fuel - 1 = omega arith in
    rw (le-ltb n 10 h, digits) (ap (λ (k : ℕ). digits k (n / 10) ++ ((48 + n % 10) ∷ [])) e)

pub digits-length : (fuel n : ℕ) → length (digits fuel n) ≤ fuel
unfolding digits
digits-length zero n = omega arith
digits-length (suc fuel) n = by (ltb n 10) (digits-length fuel (n / 10))
  where
    by : (t : Bool) → length (digits fuel (n / 10)) ≤ fuel
        → length {A = ℕ} (elim t [ true ↦ (48 + n) ∷ [] | false ↦ digits fuel (n / 10) ++ ((48 + n % 10) ∷ []) ]) ≤ suc fuel
    by true h = omega arith
    by false h = omega (arith, length-append (digits fuel (n / 10)) ((48 + n % 10) ∷ []))

pub spaced-length : (n : ℕ) → length (spaced n) ≤ 21
spaced-length n = omega (arith, digits-length 20 n)

-- one more number behind a word and its numbers
pub numbered-more : (word ns : List ℕ) (n : ℕ) → numbered word (ns ++ (n ∷ [])) ≡ numbered word ns ++ spaced n
numbered-more word [] n = refl
numbered-more word (m ∷ ns) n = numbered-more (word ++ spaced m) ns n

numbered-length : (word ns : List ℕ) → length (numbered word ns) ≤ length word + 21 * length ns
numbered-length word [] = omega arith
numbered-length word (n ∷ ns) = omega (arith, numbered-length (word ++ spaced n) ns, length-append word (spaced n), spaced-length n)

pub line_of-length : (word ns : List ℕ) → length (line_of word ns) ≤ length word + 21 * length ns + 1
line_of-length word ns = omega (arith, length-append (numbered word ns) newline, numbered-length word ns)

pub rejected-length : (cost instant early late : ℕ) → length (rejected_line cost instant early late) ≤ 93
rejected-length cost instant early late = line_of-length rejected_word (cost ∷ instant ∷ early ∷ late ∷ [])

pub line-length : (word : List ℕ) (a b : ℕ) → length (line word a b) ≤ length word + 43
line-length word a b = omega (arith, line_of-length word (a ∷ b ∷ []))
