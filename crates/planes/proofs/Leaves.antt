-- The sets that the leaves of a guard leave. Assumes nothing.
use mathlib.Core.Path.{◌≡◌, sym, ap, ap₂, subst, ◌∙◌}
use mathlib.Core.Bool.{Bool, not}
use mathlib.Core.List.{List}
use Prim.Native.Nat.{ℕ, ◌+◌, ◌*◌, ◌/◌, ◌%◌, ◌^◌, ◌≤◌, ◌<◌}
use native.Mathlib.Omega.{arith}
use lib.Dec.{ltb}
use lib.ListN.{length}
use Rattle.model.specs.Guard.{Guard, GuardRead, up_to, holds, always, at_most, at_least, variable}
use Rattle.guard.specs.Guards.{clock_leaf}
use Rattle.words.specs.Words.{bit, mem, Is}
use Rattle.planes.specs.Numbering.{holds_by, weight, values, Clocks}
use Rattle.planes.specs.Built.{Built}
use Rattle.std.specs.Prelude.{Option, Some}
use Rattle.planes.proofs.Edits.{none_there, all_there}
use Rattle.planes.proofs.Digits.{at_most_by, at_least_by, variable_by, variable_far}
use Rattle.planes.proofs.Forms.{built_one}

is_same : (p q : ℕ → Bool) (s a : List ℕ) → ((i : ℕ) → i < 64 * length s → p i ≡ q i) → Is p s a → Is q s a
is_same p q s a e x = record { size = x.size; all = λ i l. x.all i l ∙ e i l }

is_not : (p : ℕ → Bool) (s a b : List ℕ) → Is p s a → Is (λ i. not (mem a i)) a b → Is (λ i. not (p i)) s b
is_not p s a b x y =
    record { size = y.size ∙ x.size; all = λ i l. y.all i (subst (λ (n : ℕ). i < 64 * n) (sym x.size) l) ∙ ap not (x.all i l) }

module _ (f s : ℕ) (before a b : List ℕ) where
  pub always-is : Is (λ i. bit 18446744073709551615 (i % 64)) before a → Is (holds_by f s always) before a
  unfolding holds_by holds
  always-is x = is_same (λ i. bit 18446744073709551615 (i % 64)) (holds_by f s always) before a (λ i l. all_there i) x

  module _ (i t w r : ℕ) (ew : w ≡ weight f i) (er : r ≡ values f s i) where
    digits : (m x : ℕ) → ltb (x / w % r) m ≡ ltb (x / weight f i % values f s i) m
    digits m x = ap₂ (λ (p q : ℕ). ltb (x / p % q) m) ew er

    pub most-is : Is (λ x. ltb (x / w % r) (t + 1)) before a → Is (holds_by f s (at_most i t)) before a
    most-is x = is_same (λ x. ltb (x / w % r) (t + 1)) (holds_by f s (at_most i t)) before a (λ j l. digits (t + 1) j ∙ sym (at_most_by f s i t j)) x

    pub least_is : Is (λ x. ltb (x / w % r) t) before a → Is (λ j. not (mem a j)) a b → Is (holds_by f s (at_least i t)) before b
    least_is x y =
        is_same (λ j. not (ltb (j / w % r) t)) (holds_by f s (at_least i t)) before b (λ j l. ap not (digits t j) ∙ sym (at_least_by f s i t j))
        (is_not (λ j. ltb (j / w % r) t) before a b x y)

  pub variable-is : (v w : ℕ) → w ≡ f * s * 2 ^ v → Is (λ x. ltb (x / w % 2) 1) before a → Is (λ j. not (mem a j)) a b → Is (holds_by f s (variable v)) before b
  variable-is v w e x y =
      is_same (λ j. not (ltb (j / w % 2) 1)) (holds_by f s (variable v)) before b
      (λ j l. ap (λ (m : ℕ). not (ltb (j / m % 2) 1)) e ∙ sym (variable_by f s v j))
      (is_not (λ j. ltb (j / w % 2) 1) before a b x y)

  pub variable_none : (v : ℕ) → Clocks f s → 16 ≤ v → length before ≤ 1024 → Is (λ i. bit 0 (i % 64)) before a → Is (holds_by f s (variable v)) before a
  variable_none v c h small x =
      is_same (λ i. bit 0 (i % 64)) (holds_by f s (variable v)) before a (λ i l. none_there i ∙ sym (variable_far f s v i c h (omega arith))) x

  pub built_is : (x : GuardRead) (r : Option ℕ) (g : Guard) (k : ℕ) → x ≡ up_to g k → r ≡ Some k → Is (holds_by f s g) before a → Built f s (length before) x r a
  built_is x r g k e q is = built_one f s (length before) x r a g k e q is.all

-- a comparison by its code

module _ (code n t next : ℕ) where
  pub leaf_most : code ≡ 1 → clock_leaf code n t next ≡ up_to (at_most n t) next
  leaf_most e = rw e

  pub leaf_least : code ≡ 2 → clock_leaf code n t next ≡ up_to (at_least n t) next
  leaf_least e = rw e
