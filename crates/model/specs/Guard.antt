-- Guards (Definition 2): true; clock at most T; clock at least T; variable; not; and.
use Rattle.std.specs.Prelude.{ℕ, zero, suc, ◌+◌, max, List, [], ◌∷◌, ◌++◌, Bool, true, false, cond, not, ◌&&◌, get_or, leb, ltb, eqb}
use Rattle.model.specs.Bytes.{byte_at, has_bit}

pub data Guard : Type 0 where
  always : Guard
  at_most at_least : ℕ → ℕ → Guard
  variable : ℕ → Guard
  negation : Guard → Guard
  conjunction : Guard → Guard → Guard

-- a guard's value at variables, given as a mask, and clocks
unfoldable pub holds : Guard → ℕ → List ℕ → Bool
holds always v c = true
holds (at_most i t) v c = leb (get_or c i 0) t
holds (at_least i t) v c = leb t (get_or c i 0)
holds (variable x) v c = has_bit v x
holds (negation g) v c = not (holds g v c)
holds (conjunction g h) v c = holds g v c && holds h v c

-- the largest T compared with clock i in a guard, 0 if none
unfoldable pub largest : ℕ → Guard → ℕ
largest i always = 0
largest i (at_most c t) = cond (eqb c i) t 0
largest i (at_least c t) = cond (eqb c i) t 0
largest i (variable x) = 0
largest i (negation g) = largest i g
largest i (conjunction g h) = max (largest i g) (largest i h)

-- "A guard is in prefix form": 0 true; 1 c T at most; 2 c T at least; 3 x variable; 4 g not; 5 g h and
unfoldable pub guard_bytes : Guard → List ℕ
guard_bytes always = 0 ∷ []
guard_bytes (at_most c t) = 1 ∷ c ∷ t ∷ []
guard_bytes (at_least c t) = 2 ∷ c ∷ t ∷ []
guard_bytes (variable x) = 3 ∷ x ∷ []
guard_bytes (negation g) = 4 ∷ guard_bytes g
guard_bytes (conjunction g h) = 5 ∷ guard_bytes g ++ guard_bytes h

-- what reading a guard finds: none, or a guard and the offset behind it
pub data GuardRead : Type 0 where
  malformed : GuardRead
  up_to : Guard → ℕ → GuardRead

abbrev pub then_read : GuardRead → (Guard → ℕ → GuardRead) → GuardRead
then_read malformed next = malformed
then_read (up_to g k) next = next g k

-- the forms without a guard inside, by code: the bytes are there, and so is the clock or variable
unfoldable pub leaf_at : (variables clocks : ℕ) → List ℕ → (at end : ℕ) → GuardRead
leaf_at vs cs b at end =
    cond (eqb (byte_at b at) 0) (up_to always (at + 1))
    (cond (eqb (byte_at b at) 1) (cond (leb (at + 3) end) (cond (ltb (byte_at b (at + 1)) cs) (up_to (at_most (byte_at b (at + 1)) (byte_at b (at + 2))) (at + 3)) malformed) malformed)
    (cond (eqb (byte_at b at) 2) (cond (leb (at + 3) end) (cond (ltb (byte_at b (at + 1)) cs) (up_to (at_least (byte_at b (at + 1)) (byte_at b (at + 2))) (at + 3)) malformed) malformed)
    (cond (eqb (byte_at b at) 3) (cond (leb (at + 2) end) (cond (ltb (byte_at b (at + 1)) vs) (up_to (variable (byte_at b (at + 1))) (at + 2)) malformed) malformed)
    malformed)))

-- the guard that starts at an offset, none of it at or behind end. Read recursively: at most fuel deep, and a guard is never deeper than it is long
unfoldable pub guard_at : (fuel variables clocks : ℕ) → List ℕ → (at end : ℕ) → GuardRead
guard_at zero vs cs b at end = malformed
guard_at (suc fuel) vs cs b at end =
    elim (ltb at end) [
      | false ↦ malformed
      | true ↦
          elim (eqb (byte_at b at) 4) [
            | true ↦ then_read (guard_at fuel vs cs b (at + 1) end) (λ g k. up_to (negation g) k)
            | false ↦
                elim (eqb (byte_at b at) 5) [
                  | true ↦ then_read (guard_at fuel vs cs b (at + 1) end) (λ g k. then_read (guard_at fuel vs cs b k end) (λ h j. up_to (conjunction g h) j))
                  | false ↦ leaf_at vs cs b at end
                ]
          ]
    ]

-- "An unknown guard code, missing or extra guard bytes, or an absent clock or variable is 15": one guard, from at to end
abbrev pub ends_at : GuardRead → ℕ → Bool
ends_at malformed end = false
ends_at (up_to g k) end = eqb k end

-- the guard that was read; bytes that are none stand for one that never holds
abbrev pub guard_of : GuardRead → Guard
guard_of malformed = negation always
guard_of (up_to g k) = g
