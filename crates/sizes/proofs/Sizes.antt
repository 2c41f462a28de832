-- M and A by one transition and one kind more, and products that stop above the limit of N.
use Prim.Native.Nat.{ℕ, zero, suc, ◌+◌, ◌*◌, ◌^◌, ◌≤◌, min, max}
use native.Mathlib.Omega.{arith}
use native.Mathlib.Nat.{mul-le-mul_left, le-mul_of_pos_right, mul_comm, zero-lt-suc, zero-mul, min-eq_left, min-eq_right}
use native.Mathlib.Numerals.{add-one}
use native.Mathlib.Decide.{dec_le}
use mathlib.Core.Path.{◌≡◌, ◌∙◌}
use mathlib.Core.List.{List, [], ◌∷◌, ◌++◌}
use lib.Pow.{pow_mono}
use Rattle.model.specs.Bytes.{tab}
use Rattle.model.specs.Guard.{largest}
use Rattle.model.specs.Monitor.{Transition}
use Rattle.model.specs.Size.{largest_in, greatest}
use Rattle.model.specs.Table.{guard_in, transition_in}
use Rattle.model.specs.declared.TableParts.{TableParts}

largest_in-last : (i : ℕ) (ts : List Transition) (t : Transition) → largest_in i (ts ++ (t ∷ [])) ≡ max (largest_in i ts) (largest i t.guard)
unfolding largest_in
largest_in-last i [] t = omega arith
largest_in-last i (u ∷ ts) t = omega (arith, largest_in-last i ts t)

greatest-last : (l : List ℕ) (a : ℕ) → greatest (l ++ (a ∷ [])) ≡ max (greatest l) a
unfolding greatest
greatest-last [] a = omega arith
greatest-last (x ∷ l) a = omega (arith, greatest-last l a)

pub bound_more : (i : ℕ) (t : TableParts) (j : ℕ) → largest_in i (tab (transition_in t) (j + 1)) ≡ max (largest_in i (tab (transition_in t) j)) (largest i (guard_in t j))
unfolding tab transition_in
bound_more i t j = rw add-one (largest_in-last i (tab (transition_in t) j) (transition_in t j))

pub airtime-more : (f : ℕ → ℕ) (n : ℕ) → greatest (tab f (n + 1)) ≡ max (greatest (tab f n)) (f n)
unfolding tab
airtime-more f n = rw add-one (greatest-last (tab f n) (f n))

-- a product that stops at a limit may take a factor that stops there
pub times_least : (a b m : ℕ) → min (a * min b m) m ≡ min (a * b) m
times_least zero b m = rw (zero-mul (min b m), zero-mul b)
times_least (suc a) b m = go (dec_le b m)
  where
    over : m ≤ suc a * m
    over = omega (arith, le-mul_of_pos_right m (zero-lt-suc a), mul_comm m (suc a))

    go : Dec (b ≤ m) → min (suc a * min b m) m ≡ min (suc a * b) m
    go (yes h) = rw (min-eq_left h)
    go (no h) =
        let k : m ≤ b = omega arith in
        let q : suc a * m ≤ suc a * b = mul-le-mul_left (suc a) k in
        rw (min-eq_right k) (omega (arith, over))

pub power_large : (n : ℕ) → 17 ≤ n → 65537 ≡ min (2 ^ n) 65537
power_large n h = let large : 2 ^ 17 ≤ 2 ^ n = pow_mono h in omega arith

-- the factors of N, one after the other
pub product_least : (s p x y z m q r t u v : ℕ) → r ≡ min (y * z) m → t ≡ min (x * r) m → q ≡ min p m → u ≡ min (q * t) m → v ≡ min (s * u) m → v ≡ min (s * (p * (x * (y * z)))) m
product_least s p x y z m q r t u v er et eq eu ev =
    let a : t ≡ min (x * (y * z)) m = et ∙ rw er (times_least x (y * z) m) in
    let b : u ≡ min (p * (x * (y * z))) m =
    eu ∙ rw (a, times_least q (x * (y * z)) m, mul_comm q (x * (y * z)), eq, times_least (x * (y * z)) p m, mul_comm (x * (y * z)) p) in
    ev ∙ rw b (times_least s (p * (x * (y * z))) m)
