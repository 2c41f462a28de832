-- Words of a set that is joined with itself, moved. Assumes nothing.
use mathlib.Core.Path.{◌≡◌, refl, ap, ap₂, subst, ◌∙◌}
use mathlib.Core.Bool.{Bool, true, false, ◌&&◌, ◌||◌}
use mathlib.Core.List.{List}
use Prim.Native.Nat.{ℕ, ◌+◌, ◌*◌, ◌%◌, ◌^◌, ◌≤◌, ◌<◌}
use native.Mathlib.Nat.{one-mul, mod-eq_of_lt}
use lib.Pow.{pow-lt}
use native.Mathlib.Decide.{dec_lt}
use native.Mathlib.Omega.{arith}
use borrow.Author.Tests.{lt-ltb, le-ltb}
use lib.Dec.{ltb}
use lib.ListN.{length, get_or, set}
use lib.Bits.{bit_or}
use Rattle.words.specs.Words.{bit, mem, Bits, Is, Upto}
use Rattle.words.proofs.Bit.{bit_or_lem, bit_past}
use Rattle.words.proofs.Sets.{mem_at, fill_word}

both_or : (a b c : Bool) → ((a && b) || (a && c)) ≡ (a && (b || c))
both_or true b c = refl
both_or false b c = refl

pub or_bits : (w : ℕ) (p q : ℕ → Bool) (x y : ℕ) → Bits w p x → Bits w q y → Bits w (λ j. p j || q j) (bit_or x y)
or_bits w p q x y a b =
    record { bits = λ j. bit_or_lem x y j ∙ ap₂ (λ (s t : Bool). s || t) (a.bits j) (b.bits j) ∙ both_or (ltb j w) (p j) (q j) }

pub own_bits : (s : List ℕ) (w x : ℕ) → x ≡ get_or s w 0 → x < 2 ^ 64 → Bits 64 (λ j. mem s (64 * w + j)) x
own_bits s w x e small = record { bits = λ j. at j (dec_lt j 64) }
  where
    at : (j : ℕ) → Dec (j < 64) → bit x j ≡ (ltb j 64 && mem s (64 * w + j))
    at j (yes l) = simp (lt-ltb j 64 l, mem_at s (64 * w + j) w j refl l, ← e)
    at j (no l) = simp (le-ltb j 64 (omega arith), bit_past 64 x j small (omega arith))

-- a copy of a copy
pub is-is : (p : ℕ → Bool) (a b c d : List ℕ) → Is p a b → length c ≡ length a → Is (mem b) c d → Is p c d
is-is p a b c d x e y =
    record { size = y.size; all = λ i l. y.all i l ∙ x.all i (subst (λ (n : ℕ). i < 64 * n) e l) }

-- a set that is written word by word
pub upto_more : (p : ℕ → Bool) (s : List ℕ) (w v : ℕ) → w < length s → Bits 64 (λ j. p (64 * w + j)) v → Upto p w s → Upto p (w + 1) (set s w v)
upto_more p s w v h b u = record { all = fill_word p s w v h b u.all }

pub upto_is : (p : ℕ → Bool) (a b : List ℕ) (w : ℕ) → length b ≡ length a → length a ≤ w → Upto p w b → Is p a b
upto_is p a b w e h u = record { size = e; all = λ i l. u.all i (omega arith) }

pub shifted_one : (t : ℕ) → t < 64 → 1 * 2 ^ t % 2 ^ 64 ≡ 2 ^ t
shifted_one t h = ap (λ (n : ℕ). n % 2 ^ 64) (one-mul (2 ^ t)) ∙ mod-eq_of_lt (pow-lt h)
