-- Reading a guard finds exactly the prefix form of a guard: wherever it stands, and whatever fuel is left beyond its length.
use Prim.Native.Nat.{ℕ, zero, suc, ◌+◌, ◌-◌, ◌<◌, ◌≤◌}
use native.Mathlib.Nat.{not-suc-le-zero, le_trans}
use native.Mathlib.Omega.{arith}
use native.Mathlib.Decide.{dec_lt, ℕ_discrete}
use mathlib.Core.Path.{◌≡◌, refl, sym, ap, subst₂, ◌∙◌}
use mathlib.Core.List.{List, [], ◌∷◌, ◌++◌}
use mathlib.Core.Bool.{Bool, true, false, cond, false≢true}
use lib.ListN.{length, get_or, take, drop, length-append}
use lib.Dec.{leb, ltb, eqb}
use borrow.Author.Tests.{leb-true, ltb-true, eqb-true, lt-ltb, le-ltb, le-leb, ne_eqb}
use Rattle.model.specs.Bytes.{byte_at}
use Rattle.model.specs.Guard.{Guard, always, at_most, at_least, variable, negation, conjunction, guard_bytes, GuardRead, malformed, up_to, then_read, leaf_at, guard_at, ends_at, guard_of}
use Rattle.model.specs.Monitor.{Monitor}
use Rattle.model.specs.Sane.{Closed}
use Rattle.model.proofs.Places.{Stands, stands_nil, stands_cons, stands_head, stands_tail, stands-append, stands-left, stands-right, stands-moved, part_stands}

-- a guard names no clock and no variable beyond these counts
abbrev pub Names : (variables clocks : ℕ) → Guard → Type 0
Names vs cs always = Unit {0}
Names vs cs (at_most c t) = c < cs
Names vs cs (at_least c t) = c < cs
Names vs cs (variable x) = x < vs
Names vs cs (negation g) = Names vs cs g
Names vs cs (conjunction g h) = Names vs cs g × Names vs cs h

pub closed_names : (m : Monitor) (g : Guard) → Names m.variables m.clocks g → Closed m g
closed_names m always h = h
closed_names m (at_most c t) h = h
closed_names m (at_least c t) h = h
closed_names m (variable x) h = h
closed_names m (negation g) h = closed_names m g h
closed_names m (conjunction g h) p = (closed_names m g p.0, closed_names m h p.1)

pub guard_bytes-some : (g : Guard) → 0 < length (guard_bytes g)
unfolding guard_bytes
guard_bytes-some always = omega arith
guard_bytes-some (at_most c t) = omega arith
guard_bytes-some (at_least c t) = omega arith
guard_bytes-some (variable x) = omega arith
guard_bytes-some (negation g) = omega arith
guard_bytes-some (conjunction g h) = omega arith

-- the prefix form of g stands in b from at up to k, k at most end
pub record Found (variables clocks : ℕ) (b : List ℕ) (at end : ℕ) (g : Guard) (k : ℕ) : Type 0 where
  pub names : Names variables clocks g
  pub bytes : Stands b at (guard_bytes g)
  pub ends : k ≡ at + length (guard_bytes g)
  pub within : k ≤ end

unread : (g : Guard) (k : ℕ) → malformed ≡ up_to g k → ⊥
unread g k e = let z : ◌≡◌ {A = ℕ} 0 1 = cc in omega arith

tested : (t : Bool) (r : GuardRead) (g : Guard) (k : ℕ) → cond t r malformed ≡ up_to g k → (t ≡ true) × (r ≡ up_to g k)
tested true r g k e = (refl, e)
tested false r g k e = absurd (unread g k e)

-- the bytes of a comparison with a clock
clock : (b : List ℕ) (at code c t : ℕ) → byte_at b at ≡ code → byte_at b (at + 1) ≡ c → byte_at b (at + 2) ≡ t → Stands b at (code ∷ c ∷ t ∷ [])
clock b at code c t e p q =
    stands_cons b at code (c ∷ t ∷ []) e (stands_cons b (at + 1) c (t ∷ []) p (stands_cons b (at + 1 + 1) t [] (ap (λ (k : ℕ). get_or b k 0) (omega arith) ∙ q) (stands_nil b (at + 1 + 1 + 1))))

clock_bytes : (b : List ℕ) (at code c t : ℕ) → Stands b at (code ∷ c ∷ t ∷ []) → (byte_at b at ≡ code) × (byte_at b (at + 1) ≡ c) × (byte_at b (at + 2) ≡ t)
clock_bytes b at code c t s = (ap (λ (k : ℕ). get_or b k 0) (omega arith) ∙ s 0 (omega arith), s 1 (omega arith), s 2 (omega arith))

-- what reading does after its tests: is there a byte, is it 4, is it 5
abbrev chosen : (there negated joined : Bool) (not and leaf : GuardRead) → GuardRead
chosen there negated joined n a l = elim there [ false ↦ malformed | true ↦ elim negated [ true ↦ n | false ↦ elim joined [ true ↦ a | false ↦ l ] ] ]

module _ (vs cs : ℕ) (b : List ℕ) (at end : ℕ) where
  -- one step of reading, by what stands there

  guard-step :
      (f : ℕ)
      → guard_at (suc f) vs cs b at end
      ≡ chosen (ltb at end) (eqb (byte_at b at) 4) (eqb (byte_at b at) 5)
      (then_read (guard_at f vs cs b (at + 1) end) (λ g k. up_to (negation g) k))
      (then_read (guard_at f vs cs b (at + 1) end) (λ g k. then_read (guard_at f vs cs b k end) (λ h j. up_to (conjunction g h) j)))
      (leaf_at vs cs b at end)
  unfolding guard_at
  guard-step f = refl

  pub guard-past : (f : ℕ) → end ≤ at → guard_at f vs cs b at end ≡ malformed
  unfolding guard_at
  guard-past zero h = refl
  guard-past (suc f) h = guard-step f ∙ rw (le-ltb at end h)

  pub guard_not : (f : ℕ) → at < end → byte_at b at ≡ 4 → guard_at (suc f) vs cs b at end ≡ then_read (guard_at f vs cs b (at + 1) end) (λ g k. up_to (negation g) k)
  guard_not f h e = guard-step f ∙ rw (lt-ltb at end h, e)

  pub guard_and : (f : ℕ) → at < end → byte_at b at ≡ 5 → guard_at (suc f) vs cs b at end ≡ then_read (guard_at f vs cs b (at + 1) end) (λ g k. then_read (guard_at f vs cs b k end) (λ h j. up_to (conjunction g h) j))
  guard_and f h e = guard-step f ∙ rw (lt-ltb at end h, e)

  pub guard_leaf : (f : ℕ) → at < end → (byte_at b at ≡ 4 → ⊥) → (byte_at b at ≡ 5 → ⊥) → guard_at (suc f) vs cs b at end ≡ leaf_at vs cs b at end
  guard_leaf f h p q = guard-step f ∙ rw (lt-ltb at end h, ne_eqb (byte_at b at) 4 p, ne_eqb (byte_at b at) 5 q)

  -- a leaf, by its code: what reading still tests

  leaf_always : byte_at b at ≡ 0 → leaf_at vs cs b at end ≡ up_to always (at + 1)
  unfolding leaf_at
  leaf_always e = rw e

  leaf_at_most : byte_at b at ≡ 1 → leaf_at vs cs b at end ≡ cond (leb (at + 3) end) (cond (ltb (byte_at b (at + 1)) cs) (up_to (at_most (byte_at b (at + 1)) (byte_at b (at + 2))) (at + 3)) malformed) malformed
  unfolding leaf_at
  leaf_at_most e = rw e

  leaf_at_least : byte_at b at ≡ 2 → leaf_at vs cs b at end ≡ cond (leb (at + 3) end) (cond (ltb (byte_at b (at + 1)) cs) (up_to (at_least (byte_at b (at + 1)) (byte_at b (at + 2))) (at + 3)) malformed) malformed
  unfolding leaf_at
  leaf_at_least e = rw e

  leaf_variable : byte_at b at ≡ 3 → leaf_at vs cs b at end ≡ cond (leb (at + 2) end) (cond (ltb (byte_at b (at + 1)) vs) (up_to (variable (byte_at b (at + 1))) (at + 2)) malformed) malformed
  unfolding leaf_at
  leaf_variable e = rw e

  leaf_none : (byte_at b at ≡ 0 → ⊥) → (byte_at b at ≡ 1 → ⊥) → (byte_at b at ≡ 2 → ⊥) → (byte_at b at ≡ 3 → ⊥) → leaf_at vs cs b at end ≡ malformed
  unfolding leaf_at
  leaf_none p q r s = rw (ne_eqb (byte_at b at) 0 p, ne_eqb (byte_at b at) 1 q, ne_eqb (byte_at b at) 2 r, ne_eqb (byte_at b at) 3 s)

  -- the forms, put together from what stands there and taken apart again

  found_always : byte_at b at ≡ 0 → at < end → Found vs cs b at end always (at + 1)
  unfolding guard_bytes
  found_always e h = record { names = tt; bytes = stands_cons b at 0 [] e (stands_nil b (at + 1)); ends = refl; within = omega arith }

  found_at_most : (c t : ℕ) → byte_at b at ≡ 1 → byte_at b (at + 1) ≡ c → byte_at b (at + 2) ≡ t → c < cs → at + 3 ≤ end → Found vs cs b at end (at_most c t) (at + 3)
  unfolding guard_bytes
  found_at_most c t e p q n h = record { names = n; bytes = clock b at 1 c t e p q; ends = refl; within = h }

  found_at_least : (c t : ℕ) → byte_at b at ≡ 2 → byte_at b (at + 1) ≡ c → byte_at b (at + 2) ≡ t → c < cs → at + 3 ≤ end → Found vs cs b at end (at_least c t) (at + 3)
  unfolding guard_bytes
  found_at_least c t e p q n h = record { names = n; bytes = clock b at 2 c t e p q; ends = refl; within = h }

  found_variable : (x : ℕ) → byte_at b at ≡ 3 → byte_at b (at + 1) ≡ x → x < vs → at + 2 ≤ end → Found vs cs b at end (variable x) (at + 2)
  unfolding guard_bytes
  found_variable x e p n h =
      record { names = n; bytes = stands_cons b at 3 (x ∷ []) e (stands_cons b (at + 1) x [] p (stands_nil b (at + 1 + 1))); ends = refl; within = h }

  found_not : (g : Guard) (k : ℕ) → byte_at b at ≡ 4 → Found vs cs b (at + 1) end g k → Found vs cs b at end (negation g) k
  unfolding guard_bytes
  found_not g k e s = record { names = s.names; bytes = stands_cons b at 4 (guard_bytes g) e s.bytes; ends = omega arith; within = s.within }

  found_and :
      (g h : Guard) (j k : ℕ) → byte_at b at ≡ 5 → Found vs cs b (at + 1) end g j → Found vs cs b j end h k → Found vs cs b at end (conjunction g h) k
  unfolding guard_bytes
  found_and g h j k e s t =
      record {
        names = (s.names, t.names);
        bytes = stands_cons b at 5 (guard_bytes g ++ guard_bytes h) e (stands-append b (at + 1) (guard_bytes g) (guard_bytes h) s.bytes (stands-moved b j (at + 1 + length (guard_bytes g)) (guard_bytes h) s.ends t.bytes));
        ends = omega (arith, length-append (guard_bytes g) (guard_bytes h));
        within = t.within;
      }

  not_found : (g : Guard) (k : ℕ) → Found vs cs b at end (negation g) k → (byte_at b at ≡ 4) × Found vs cs b (at + 1) end g k
  unfolding guard_bytes
  not_found g k s = (
    stands_head b at 4 (guard_bytes g) s.bytes,
    record { names = s.names; bytes = stands_tail b at 4 (guard_bytes g) s.bytes; ends = omega arith; within = s.within },
  )

  and_found :
      (g h : Guard) (k : ℕ) → Found vs cs b at end (conjunction g h) k
      → (byte_at b at ≡ 5) × Found vs cs b (at + 1) end g (at + 1 + length (guard_bytes g)) × Found vs cs b (at + 1 + length (guard_bytes g)) end h k
  unfolding guard_bytes
  and_found g h k s =
      let l : length (guard_bytes g ++ guard_bytes h) ≡ length (guard_bytes g) + length (guard_bytes h) = length-append (guard_bytes g) (guard_bytes h) in
      let e : k ≡ at + suc (length (guard_bytes g ++ guard_bytes h)) = s.ends in
      let w : k ≤ end = s.within in
      let rest : Stands b (at + 1) (guard_bytes g ++ guard_bytes h) = stands_tail b at 5 (guard_bytes g ++ guard_bytes h) s.bytes in (
        stands_head b at 5 (guard_bytes g ++ guard_bytes h) s.bytes,
        record { names = s.names.0; bytes = stands-left b (at + 1) (guard_bytes g) (guard_bytes h) rest; ends = refl; within = omega arith },
        record { names = s.names.1; bytes = stands-right b (at + 1) (guard_bytes g) (guard_bytes h) rest; ends = omega arith; within = w },
      )

  same_found : (g h : Guard) (j k : ℕ) → Found vs cs b at end g j → up_to g j ≡ up_to h k → Found vs cs b at end h k
  same_found g h j k s e = let p : g ≡ h = cc in let q : j ≡ k = cc in subst₂ (λ (x : Guard) (n : ℕ). Found vs cs b at end x n) p q s

  leaf_read : (g : Guard) (k : ℕ) → at < end → leaf_at vs cs b at end ≡ up_to g k → Found vs cs b at end g k
  leaf_read g k h e =
      split (ℕ_discrete (byte_at b at) 0) (ℕ_discrete (byte_at b at) 1) (ℕ_discrete (byte_at b at) 2) (ℕ_discrete (byte_at b at) 3)
    where
      split : Dec (byte_at b at ≡ 0) → Dec (byte_at b at ≡ 1) → Dec (byte_at b at ≡ 2) → Dec (byte_at b at ≡ 3) → Found vs cs b at end g k
      split (yes p) _ _ _ = same_found always g (at + 1) k (found_always p h) (sym (leaf_always p) ∙ e)
      split (no _) (yes p) _ _ =
          let (fits, f) = tested (leb (at + 3) end) (cond (ltb (byte_at b (at + 1)) cs) (up_to (at_most (byte_at b (at + 1)) (byte_at b (at + 2))) (at + 3)) malformed) g k (sym (leaf_at_most p) ∙ e) in
          let (there, r) = tested (ltb (byte_at b (at + 1)) cs) (up_to (at_most (byte_at b (at + 1)) (byte_at b (at + 2))) (at + 3)) g k f in
          same_found (at_most (byte_at b (at + 1)) (byte_at b (at + 2))) g (at + 3) k
          (found_at_most (byte_at b (at + 1)) (byte_at b (at + 2)) p refl refl (ltb-true (byte_at b (at + 1)) cs there) (leb-true (at + 3) end fits)) r
      split (no _) (no _) (yes p) _ =
          let (fits, f) = tested (leb (at + 3) end) (cond (ltb (byte_at b (at + 1)) cs) (up_to (at_least (byte_at b (at + 1)) (byte_at b (at + 2))) (at + 3)) malformed) g k (sym (leaf_at_least p) ∙ e) in
          let (there, r) = tested (ltb (byte_at b (at + 1)) cs) (up_to (at_least (byte_at b (at + 1)) (byte_at b (at + 2))) (at + 3)) g k f in
          same_found (at_least (byte_at b (at + 1)) (byte_at b (at + 2))) g (at + 3) k
          (found_at_least (byte_at b (at + 1)) (byte_at b (at + 2)) p refl refl (ltb-true (byte_at b (at + 1)) cs there) (leb-true (at + 3) end fits)) r
      split (no _) (no _) (no _) (yes p) =
          let (fits, f) = tested (leb (at + 2) end) (cond (ltb (byte_at b (at + 1)) vs) (up_to (variable (byte_at b (at + 1))) (at + 2)) malformed) g k (sym (leaf_variable p) ∙ e) in
          let (there, r) = tested (ltb (byte_at b (at + 1)) vs) (up_to (variable (byte_at b (at + 1))) (at + 2)) g k f in
          same_found (variable (byte_at b (at + 1))) g (at + 2) k
          (found_variable (byte_at b (at + 1)) p refl (ltb-true (byte_at b (at + 1)) vs there) (leb-true (at + 2) end fits)) r
      split (no p) (no q) (no r) (no s) = absurd (unread g k (sym (leaf_none p q r s) ∙ e))

-- what reading finds is the prefix form of the guard
module _ (vs cs : ℕ) (b : List ℕ) (end : ℕ) where
  pub guard_read : (f at : ℕ) (g : Guard) (k : ℕ) → guard_at f vs cs b at end ≡ up_to g k → Found vs cs b at end g k
  unfolding guard_at
  guard_read zero at g k e = absurd (unread g k e)
  guard_read (suc f) at g k e = split (λ i h j p. guard_read f i h j p) (dec_lt at end) (ℕ_discrete (byte_at b at) 4) (ℕ_discrete (byte_at b at) 5)
    where
      Again : Type 0
      Again = (i : ℕ) (h : Guard) (j : ℕ) → guard_at f vs cs b i end ≡ up_to h j → Found vs cs b i end h j

      negated : Again → byte_at b at ≡ 4 → (r : GuardRead) → guard_at f vs cs b (at + 1) end ≡ r → then_read r (λ h j. up_to (negation h) j) ≡ up_to g k → Found vs cs b at end g k
      negated again p malformed q d = absurd (unread g k d)
      negated again p (up_to h j) q d = same_found vs cs b at end (negation h) g j k (found_not vs cs b at end h j p (again (at + 1) h j q)) d

      second :
          Again → byte_at b at ≡ 5 → (h : Guard) (j : ℕ) → Found vs cs b (at + 1) end h j
          → (r : GuardRead) → guard_at f vs cs b j end ≡ r → then_read r (λ x i. up_to (conjunction h x) i) ≡ up_to g k → Found vs cs b at end g k
      second again p h j s malformed q d = absurd (unread g k d)
      second again p h j s (up_to x i) q d = same_found vs cs b at end (conjunction h x) g i k (found_and vs cs b at end h x j i p s (again j x i q)) d

      both :
          Again → byte_at b at ≡ 5 → (r : GuardRead) → guard_at f vs cs b (at + 1) end ≡ r
          → then_read r (λ h j. then_read (guard_at f vs cs b j end) (λ x i. up_to (conjunction h x) i)) ≡ up_to g k → Found vs cs b at end g k
      both again p malformed q d = absurd (unread g k d)
      both again p (up_to h j) q d = second again p h j (again (at + 1) h j q) (guard_at f vs cs b j end) refl d

      split : Again → Dec (at < end) → Dec (byte_at b at ≡ 4) → Dec (byte_at b at ≡ 5) → Found vs cs b at end g k
      split again (no l) _ _ = absurd (unread g k (sym (guard-past vs cs b at end (suc f) (omega arith)) ∙ e))
      split again (yes l) (yes p) _ = negated again p (guard_at f vs cs b (at + 1) end) refl (sym (guard_not vs cs b at end f l p) ∙ e)
      split again (yes l) (no _) (yes p) = both again p (guard_at f vs cs b (at + 1) end) refl (sym (guard_and vs cs b at end f l p) ∙ e)
      split again (yes l) (no p) (no q) = leaf_read vs cs b at end g k l (sym (guard_leaf vs cs b at end f l p q) ∙ e)

  -- and the prefix form of a guard is read, given fuel for its length
  pub guard_found : (f at : ℕ) (g : Guard) (k : ℕ) → length (guard_bytes g) ≤ f → Found vs cs b at end g k → guard_at f vs cs b at end ≡ up_to g k
  unfolding guard_bytes
  guard_found zero at g k h s = absurd (not-suc-le-zero (le_trans (guard_bytes-some g) h))
  guard_found (suc f) at always k h s =
      let e : byte_at b at ≡ 0 = stands_head b at 0 [] s.bytes in
      let n : k ≡ at + 1 = s.ends in
      guard_leaf vs cs b at end f (omega arith) (λ p. omega arith) (λ p. omega arith) ∙ leaf_always vs cs b at end e ∙ ap (λ (i : ℕ). up_to always i) (sym n)
  guard_found (suc f) at (at_most c t) k h s =
      let (e, p, q) = clock_bytes b at 1 c t s.bytes in
      let n : k ≡ at + 3 = s.ends in
      let there : byte_at b (at + 1) < cs = rw p s.names in
      guard_leaf vs cs b at end f (omega arith) (λ p. omega arith) (λ p. omega arith) ∙ leaf_at_most vs cs b at end e
      ∙ rw (le-leb (at + 3) end (omega arith), lt-ltb (byte_at b (at + 1)) cs there, p, q, n)
  guard_found (suc f) at (at_least c t) k h s =
      let (e, p, q) = clock_bytes b at 2 c t s.bytes in
      let n : k ≡ at + 3 = s.ends in
      let there : byte_at b (at + 1) < cs = rw p s.names in
      guard_leaf vs cs b at end f (omega arith) (λ p. omega arith) (λ p. omega arith) ∙ leaf_at_least vs cs b at end e
      ∙ rw (le-leb (at + 3) end (omega arith), lt-ltb (byte_at b (at + 1)) cs there, p, q, n)
  guard_found (suc f) at (variable x) k h s =
      let e : byte_at b at ≡ 3 = stands_head b at 3 (x ∷ []) s.bytes in
      let p : byte_at b (at + 1) ≡ x = stands_head b (at + 1) x [] (stands_tail b at 3 (x ∷ []) s.bytes) in
      let n : k ≡ at + 2 = s.ends in
      let there : byte_at b (at + 1) < vs = rw p s.names in
      guard_leaf vs cs b at end f (omega arith) (λ p. omega arith) (λ p. omega arith) ∙ leaf_variable vs cs b at end e
      ∙ rw (le-leb (at + 2) end (omega arith), lt-ltb (byte_at b (at + 1)) vs there, p, n)
  guard_found (suc f) at (negation g) k h s =
      let (e, t) = not_found vs cs b at end g k s in
      guard_not vs cs b at end f (omega arith) e ∙ rw (guard_found f (at + 1) g k (omega arith) t)
  guard_found (suc f) at (conjunction g h) k l s =
      let (e, r, t) = and_found vs cs b at end g h k s in
      let n : length (guard_bytes g ++ guard_bytes h) ≡ length (guard_bytes g) + length (guard_bytes h) = length-append (guard_bytes g) (guard_bytes h) in
      let j : ℕ = at + 1 + length (guard_bytes g) in
      guard_and vs cs b at end f (omega arith) e
      ∙ rw (guard_found f (at + 1) g j (omega arith) r, guard_found f j h k (omega arith) t)

  pub guard_names : (f at : ℕ) (g : Guard) (k : ℕ) → guard_at f vs cs b at end ≡ up_to g k → Names vs cs g
  guard_names f at g k e = (guard_read f at g k e).names

  pub guard_extent : (f at : ℕ) (g : Guard) (k : ℕ) → guard_at f vs cs b at end ≡ up_to g k → (at < k) × (k ≤ end)
  guard_extent f at g k e =
      let s : Found vs cs b at end g k = guard_read f at g k e in
      let l : 0 < length (guard_bytes g) = guard_bytes-some g in
      (omega arith, s.within)

  -- end within the bytes: past them byte_at gives 0, which reads as true
  pub guard_part : (f at : ℕ) (g : Guard) (k : ℕ) → end ≤ length b → guard_at f vs cs b at end ≡ up_to g k → take (k - at) (drop at b) ≡ guard_bytes g
  guard_part f at g k h e =
      let s : Found vs cs b at end g k = guard_read f at g k e in
      let n : k - at ≡ length (guard_bytes g) = omega arith in
      rw n (part_stands b at (guard_bytes g) (omega arith) s.bytes)

  pub guard-written :
      (f at : ℕ) (g : Guard) → length (guard_bytes g) ≤ f → at + length (guard_bytes g) ≤ end → Names vs cs g → Stands b at (guard_bytes g)
      → guard_at f vs cs b at end ≡ up_to g (at + length (guard_bytes g))
  guard-written f at g h w n s = guard_found f at g (at + length (guard_bytes g)) h (record { names = n; bytes = s; ends = refl; within = w })

pub ends_read : (r : GuardRead) (end : ℕ) → ends_at r end ≡ true → r ≡ up_to (guard_of r) end
ends_read malformed end e = absurd (false≢true e)
ends_read (up_to g k) end e = ap (λ (n : ℕ). up_to g n) (eqb-true k end e)

-- what was found from one offset on, as found from another
abbrev pub moved : (at to : ℕ) → GuardRead → GuardRead
moved at to malformed = malformed
moved at to (up_to g k) = up_to g (k - at + to)

pub moved-guard : (at to : ℕ) (r : GuardRead) → guard_of (moved at to r) ≡ guard_of r
moved-guard at to malformed = refl
moved-guard at to (up_to g k) = refl

found_moved :
    (vs cs : ℕ) (b c : List ℕ) (at to n : ℕ) (g : Guard) (k : ℕ) → ((i : ℕ) → i < n → byte_at c (to + i) ≡ byte_at b (at + i))
    → Found vs cs b at (at + n) g k → Found vs cs c to (to + n) g (k - at + to)
found_moved vs cs b c at to n g k same s =
    let e : k ≡ at + length (guard_bytes g) = s.ends in
    let w : k ≤ at + n = s.within in
    record { names = s.names; bytes = λ i h. same i (omega arith) ∙ s.bytes i h; ends = omega arith; within = omega arith }

module _ (vs cs : ℕ) (b c : List ℕ) (at to n : ℕ) (same : (i : ℕ) → i < n → byte_at b (at + i) ≡ byte_at c (to + i)) where
  -- the same n bytes are read alike wherever they stand, with any fuel from n on
  pub guard-moved : (e f : ℕ) → n ≤ e → n ≤ f → guard_at f vs cs c to (to + n) ≡ moved at to (guard_at e vs cs b at (at + n))
  guard-moved e f p q = go (guard_at e vs cs b at (at + n)) (guard_at f vs cs c to (to + n)) refl refl
    where
      go :
          (r s : GuardRead) → guard_at e vs cs b at (at + n) ≡ r → guard_at f vs cs c to (to + n) ≡ s
          → guard_at f vs cs c to (to + n) ≡ moved at to r
      go malformed malformed x y = y
      go malformed (up_to g k) x y =
          let t : Found vs cs b at (at + n) g (k - to + at) = found_moved vs cs c b to at n g k same (guard_read vs cs c (to + n) f to g k y) in
          absurd (unread g (k - to + at) (sym x ∙ guard_found vs cs b (at + n) e at g (k - to + at) (omega arith) t))
      go (up_to g k) s x y =
          let t : Found vs cs c to (to + n) g (k - at + to) = found_moved vs cs b c at to n g k (λ i h. sym (same i h)) (guard_read vs cs b (at + n) e at g k x) in
          guard_found vs cs c (to + n) f to g (k - at + to) (omega arith) t

pub guard_fuel : (vs cs : ℕ) (b : List ℕ) (at n e f : ℕ) → n ≤ e → n ≤ f → guard_at e vs cs b at (at + n) ≡ guard_at f vs cs b at (at + n)
guard_fuel vs cs b at n e f p q = go (guard_at f vs cs b at (at + n)) refl
  where
    go : (r : GuardRead) → guard_at f vs cs b at (at + n) ≡ r → guard_at e vs cs b at (at + n) ≡ guard_at f vs cs b at (at + n)
    go malformed x = guard-moved vs cs b b at at n (λ i h. refl) f e q p ∙ rw x
    go (up_to g k) x =
        let s : Found vs cs b at (at + n) g k = guard_read vs cs b (at + n) f at g k x in
        guard_found vs cs b (at + n) e at g k (omega arith) s ∙ sym x
