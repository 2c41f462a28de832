-- Sets as a Bool for each number: membership, marking, how many are in a set; and the first number that passes a test.
use Prim.Native.Nat.{ℕ, zero, suc, ◌+◌, ◌<◌, ◌≤◌}
use native.Mathlib.Nat.{eq-zero-or-pos}
use native.Mathlib.Omega.{arith}
use native.Mathlib.Decide.{ℕ_discrete}
use mathlib.Core.Path.{◌≡◌, refl, sym, ◌∙◌}
use mathlib.Core.List.{List, [], ◌∷◌}
use mathlib.Core.Bool.{Bool, true, false, false≢true}
use Rattle.std.specs.Prelude.{Option, Some, None}
use mathlib.Core.Logic.{◌⊎◌, inl, inr, ◌↔◌}
use lib.ListN.{length, get_or, set, replicate, length-set}
use lib.Seq.{get_or-set_same, get_or-set_other}
use Rattle.model.specs.Layers.{count, mark, leads_into, first_from}

pub member_within : (s : List Bool) (z : ℕ) → get_or s z false ≡ true → z < length s
member_within [] z e = absurd (false≢true e)
member_within (b ∷ s) zero e = omega arith
member_within (b ∷ s) (suc z) e = let h : z < length s = member_within s z e in omega arith

pub no_member : (n z : ℕ) → get_or (replicate n false) z false ≡ true → ⊥
no_member zero z e = false≢true e
no_member (suc n) zero e = false≢true e
no_member (suc n) (suc z) e = no_member n z e

pub count_le : (s : List Bool) → count s ≤ length s
unfolding count
count_le [] = omega arith
count_le (true ∷ s) = omega (arith, count_le s)
count_le (false ∷ s) = omega (arith, count_le s)

pub count-empty : (s : List Bool) (z : ℕ) → count s ≡ 0 → get_or s z false ≡ true → ⊥
unfolding count
count-empty [] z c e = false≢true e
count-empty (true ∷ s) z c e = omega arith
count-empty (false ∷ s) zero c e = false≢true e
count-empty (false ∷ s) (suc z) c e = count-empty s z (omega arith) e

pub count-some : (s : List Bool) → 0 < count s → (z : ℕ) × (z < length s) × (get_or s z false ≡ true)
unfolding count
count-some [] c = absurd (omega arith)
count-some (true ∷ s) c = (0, omega arith, refl)
count-some (false ∷ s) c = let (z, l, e) = count-some s (omega arith) in (suc z, omega arith, e)

pub count_member : (s : List Bool) (z : ℕ) → get_or s z false ≡ true → 0 < count s
count_member s z e = go (eq-zero-or-pos (count s))
  where
    go : (count s ≡ 0) ⊎ (0 < count s) → 0 < count s
    go (inl c) = absurd (count-empty s z c e)
    go (inr c) = c

pub length-mark : (s : List Bool) (o : Option ℕ) → length (mark s o) ≡ length s
length-mark s None = refl
length-mark s (Some n) = length-set s n true

pub mark_member : (s : List Bool) (o : Option ℕ) (z : ℕ)
    → (get_or (mark s o) z false ≡ true) ↔ ((get_or s z false ≡ true) ⊎ ((o ≡ Some z) × (z < length s)))
mark_member s None z = (inl, back)
  where
    back : (get_or s z false ≡ true) ⊎ ((None ≡ Some z) × (z < length s)) → get_or s z false ≡ true
    back (inl e) = e
    back (inr e) = cc e.0
mark_member s (Some n) z = at (ℕ_discrete z n)
  where
    at : Dec (z ≡ n) → (get_or (set s n true) z false ≡ true) ↔ ((get_or s z false ≡ true) ⊎ ((Some n ≡ Some z) × (z < length s)))
    at (yes p) = (there, back)
      where
        there : get_or (set s n true) z false ≡ true → (get_or s z false ≡ true) ⊎ ((Some n ≡ Some z) × (z < length s))
        there e = inr (cc, omega (arith, member_within (set s n true) z e, length-set s n true))

        same : z < length s → get_or (set s n true) z false ≡ true
        same l = rw p (get_or-set_same s n true false (omega arith))

        back : (get_or s z false ≡ true) ⊎ ((Some n ≡ Some z) × (z < length s)) → get_or (set s n true) z false ≡ true
        back (inl e) = same (member_within s z e)
        back (inr e) = same e.1
    at (no p) = (there, back)
      where
        other : get_or (set s n true) z false ≡ get_or s z false
        other = get_or-set_other s n z true false p

        there : get_or (set s n true) z false ≡ true → (get_or s z false ≡ true) ⊎ ((Some n ≡ Some z) × (z < length s))
        there e = inl (sym other ∙ e)

        back : (get_or s z false ≡ true) ⊎ ((Some n ≡ Some z) × (z < length s)) → get_or (set s n true) z false ≡ true
        back (inl e) = other ∙ e
        back (inr e) = let q : z ≡ n = cc e.0 in absurd (p q)

pub leads_into_member : (s : List Bool) (o : Option ℕ) → (leads_into s o ≡ true) ↔ ((x : ℕ) × (o ≡ Some x) × (get_or s x false ≡ true))
leads_into_member s None = (λ e. absurd (false≢true e), λ w. cc w.1)
leads_into_member s (Some n) = (λ e. (n, refl, e), λ w. let p : n ≡ w.0 = cc w.1 in rw p w.2)

-- r is the first of t, t + 1, .. (n of them) at which the test passes, or t + n
pub record FirstOf (test : ℕ → Bool) (n t r : ℕ) : Type 0 where
  pub from : t ≤ r
  pub within : r ≤ t + n
  pub before : (i : ℕ) → t ≤ i → i < r → test i ≡ false
  pub found : (test r ≡ true) ⊎ (r ≡ t + n)

module _ (test : ℕ → Bool) where
  pub first_from_hit : (n t : ℕ) → test t ≡ true → first_from test (suc n) t ≡ t
  unfolding first_from
  first_from_hit n t e = rw (e, first_from)

  pub first_from_miss : (n t : ℕ) → test t ≡ false → first_from test (suc n) t ≡ first_from test n (suc t)
  unfolding first_from
  first_from_miss n t e = rw (e, first_from)

  pub first_from-first : (n t : ℕ) → FirstOf test n t (first_from test n t)
  unfolding first_from
  first_from-first zero t = record { from = omega arith; within = omega arith; before = λ i l h. absurd (omega arith); found = inr (omega arith) }
  first_from-first (suc n) t = go (test t) refl (first_from-first n (suc t))
    where
      go : (b : Bool) → test t ≡ b → FirstOf test n (suc t) (first_from test n (suc t)) → FirstOf test (suc n) t (first_from test (suc n) t)
      go true e c = rw (first_from_hit n t e) (record { from = omega arith; within = omega arith; before = λ i l h. absurd (omega arith); found = inl e })
      go false e c = rw (first_from_miss n t e) (record { from = omega arith; within = omega arith; before = earlier; found = later c.found })
        where
          r : ℕ
          r = first_from test n (suc t)

          earlier : (i : ℕ) → t ≤ i → i < r → test i ≡ false
          earlier i l h = at (ℕ_discrete i t)
            where
              at : Dec (i ≡ t) → test i ≡ false
              at (yes p) = rw p e
              at (no p) = c.before i (omega arith) h

          later : (test r ≡ true) ⊎ (r ≡ suc t + n) → (test r ≡ true) ⊎ (r ≡ t + suc n)
          later (inl p) = inl p
          later (inr p) = inr (omega arith)
