-- One step of reading a guard, by the byte that stands there, and what is then seen of it.
use Prim.Native.Nat.{ℕ, zero, suc, ◌+◌, ◌<◌, ◌≤◌}
use native.Mathlib.Omega.{arith}
use mathlib.Core.Path.{◌≡◌, refl, sym, ap, ◌∙◌}
use mathlib.Core.List.{List}
use Rattle.std.specs.Prelude.{Some, None, option_and_then}
use Rattle.std.specs.Option.{option_map, option_map_or}
use Rattle.std.proofs.lemmas.Option.{none-some, same_Some}
use mathlib.Core.Bool.{Bool, true, false, cond, ◌&&◌, false≢true}
use lib.ListN.{get_or}
use lib.Dec.{leb, ltb, eqb}
use borrow.Author.Tests.{lt-ltb, le-ltb, eq-eqb, ne_eqb}
use Rattle.model.specs.Bytes.{byte_at}
use Rattle.model.specs.Guard.{Guard, always, variable, negation, conjunction, GuardRead, malformed, up_to, then_read, holds, largest, leaf_at, guard_at, guard_of}
use Rattle.model.specs.Readiness.{waited, GuardAnswers, greatest_bound}
use Rattle.model.specs.declared.Readiness.{Readiness}
use Rattle.model.specs.declared.Readiness.TheVariants.{Yes, NotYet, NoMore}
use Rattle.model.proofs.Basics.{and_left, and_right}
use Rattle.model.proofs.Places.{AllBytes}
use Rattle.model.proofs.ReadinessLaws.{never, answer-is}
use Rattle.guard.specs.Evaluated.{Evaluated}
use Rattle.waits.specs.Waits.{waits_of, is_none}
use Rattle.waits.proofs.WaitLaws.{waits_not, waits_and, none_waits, some-wait}
use Rattle.guard.specs.declared.Seen.{Seen}
use Rattle.guard.specs.Guards.{seen_of, seen, clock_leaf, opposite, both}

-- a comparison of clocks whose test fails is none, whatever its code
no_clock : (fits there one two : Bool) (x y : GuardRead) → fits && there ≡ false
    → cond one (cond fits (cond there x malformed) malformed) (cond two (cond fits (cond there y malformed) malformed) malformed) ≡ malformed
no_clock true true one two x y e = absurd (false≢true (sym e))
no_clock true false true two x y e = refl
no_clock true false false true x y e = refl
no_clock true false false false x y e = refl
no_clock false there true two x y e = refl
no_clock false there false true x y e = refl
no_clock false there false false x y e = refl

module _ (vs cs : ℕ) (b : List ℕ) (at end : ℕ) where
  pub leaf_always : byte_at b at ≡ 0 → leaf_at vs cs b at end ≡ up_to always (at + 1)
  unfolding leaf_at
  leaf_always e = rw e

  pub leaf_variable : byte_at b at ≡ 3 → leb (at + 2) end && ltb (byte_at b (at + 1)) vs ≡ true → leaf_at vs cs b at end ≡ up_to (variable (byte_at b (at + 1))) (at + 2)
  unfolding leaf_at
  leaf_variable e h =
      let fits : leb (at + 2) end ≡ true = and_left _ _ h in
      let there : ltb (byte_at b (at + 1)) vs ≡ true = and_right (leb (at + 2) end) _ h in
      rw (e, fits, there)

  pub leaf_no_variable : byte_at b at ≡ 3 → leb (at + 2) end && ltb (byte_at b (at + 1)) vs ≡ false → leaf_at vs cs b at end ≡ malformed
  unfolding leaf_at
  leaf_no_variable e h = rw e (no_clock (leb (at + 2) end) (ltb (byte_at b (at + 1)) vs) true true (up_to (variable (byte_at b (at + 1))) (at + 2)) malformed h)

  pub leaf_clock : (byte_at b at ≡ 0 → ⊥) → (byte_at b at ≡ 3 → ⊥) → leb (at + 3) end && ltb (byte_at b (at + 1)) cs ≡ true
      → leaf_at vs cs b at end ≡ clock_leaf (byte_at b at) (byte_at b (at + 1)) (byte_at b (at + 2)) (at + 3)
  unfolding leaf_at
  leaf_clock n m h =
      let fits : leb (at + 3) end ≡ true = and_left _ _ h in
      let there : ltb (byte_at b (at + 1)) cs ≡ true = and_right (leb (at + 3) end) _ h in
      rw (ne_eqb _ _ n, ne_eqb _ _ m, fits, there)

  pub leaf_no_clock : (byte_at b at ≡ 0 → ⊥) → (byte_at b at ≡ 3 → ⊥) → leb (at + 3) end && ltb (byte_at b (at + 1)) cs ≡ false → leaf_at vs cs b at end ≡ malformed
  unfolding leaf_at
  leaf_no_clock n m h = rw (ne_eqb _ _ n, ne_eqb _ _ m) (no_clock (leb (at + 3) end) (ltb (byte_at b (at + 1)) cs) (eqb (byte_at b at) 1) (eqb (byte_at b at) 2) _ _ h)

  pub guard_none : (f : ℕ) → f ≡ 0 → guard_at f vs cs b at end ≡ malformed
  unfolding guard_at
  guard_none f e = rw e

  pub guard_out : (f : ℕ) → end ≤ at → guard_at f vs cs b at end ≡ malformed
  unfolding guard_at
  guard_out zero h = refl
  guard_out (suc f) h = rw (le-ltb _ _ h, guard_at)

  pub guard_leaf : (f : ℕ) → (f ≡ 0 → ⊥) → at < end → (byte_at b at ≡ 4 → ⊥) → (byte_at b at ≡ 5 → ⊥) → guard_at f vs cs b at end ≡ leaf_at vs cs b at end
  unfolding guard_at
  guard_leaf zero z h n m = absurd (z refl)
  guard_leaf (suc f) z h n m = rw (lt-ltb _ _ h, ne_eqb _ _ n, ne_eqb _ _ m, guard_at)

  pub guard_not : (f g : ℕ) → suc g ≡ f → at < end → byte_at b at ≡ 4
      → guard_at f vs cs b at end ≡ then_read (guard_at g vs cs b (at + 1) end) (λ x k. up_to (negation x) k)
  unfolding guard_at
  guard_not zero g z h e = absurd (omega arith)
  guard_not (suc f) g z h e = let q : g ≡ f = omega arith in rw (q, lt-ltb _ _ h, eq-eqb _ _ e, guard_at)

  pub guard_and : (f g : ℕ) → suc g ≡ f → at < end → byte_at b at ≡ 5
      → guard_at f vs cs b at end ≡ then_read (guard_at g vs cs b (at + 1) end) (λ x k. then_read (guard_at g vs cs b k end) (λ y j. up_to (conjunction x y) j))
  unfolding guard_at
  guard_and zero g z h e = absurd (omega arith)
  guard_and (suc f) g z h e =
      let q : g ≡ f = omega arith in
      let n : byte_at b at ≡ 4 → ⊥ = λ p. omega (arith, p, e) in
      rw (q, lt-ltb _ _ h, ne_eqb _ _ n, eq-eqb _ _ e, guard_at)

-- a comparison, by what the clock reads, the waits and the bound that counts
module _ (i v : ℕ) (c : List ℕ) (code n t next reads bound : ℕ) (later : List ℕ) (is : reads ≡ get_or c n 0) (most : bound ≡ cond (eqb n i) t 0) where
  pub seen_most : code ≡ 1 → later ≡ waits_of (λ d. leb (get_or (waited d c) n 0) t)
      → Some (record { next = next; value = leb reads t; later = later; bound = bound }) ≡ seen i v c (clock_leaf code n t next)
  unfolding holds largest
  seen_most e waits = rw (e, is, most, waits)

  pub seen_least : code ≡ 2 → later ≡ waits_of (λ d. leb t (get_or (waited d c) n 0))
      → Some (record { next = next; value = leb t reads; later = later; bound = bound }) ≡ seen i v c (clock_leaf code n t next)
  unfolding holds largest
  seen_least e waits = rw (e, is, most, waits)

module _ (i v : ℕ) (c : List ℕ) where
  pub seen_not : (x : GuardRead) → seen i v c (then_read x (λ g j. up_to (negation g) j)) ≡ option_map opposite (seen i v c x)
  unfolding holds largest
  seen_not malformed = refl
  seen_not (up_to g j) = rw (waits_not (λ d. holds g v (waited d c)))

  join : (g : Guard) (k : ℕ) (y : GuardRead) → seen i v c (then_read y (λ h l. up_to (conjunction g h) l)) ≡ option_map (both (seen_of i v c g k)) (seen i v c y)
  unfolding holds largest
  join g k malformed = refl
  join g k (up_to h l) = rw (waits_and (λ d. holds g v (waited d c)) (λ d. holds h v (waited d c)))

  pub seen_and : (x : GuardRead) (next : ℕ → GuardRead)
      → seen i v c (then_read x (λ g j. then_read (next j) (λ h l. up_to (conjunction g h) l))) ≡ option_and_then (λ s. option_map (both s) (seen i v c (next s.next))) (seen i v c x)
  seen_and malformed next = refl
  seen_and (up_to g k) next = join g k (next k)

  -- a guard that was seen is the one that was read
  seen-some : (x : GuardRead) (s : Seen) → seen i v c x ≡ Some s → (x ≡ up_to (guard_of x) s.next) × (s ≡ seen_of i v c (guard_of x) s.next)
  seen-some malformed s e = absurd (none-some s e)
  seen-some (up_to g k) s e = let q : seen_of i v c g k ≡ s = same_Some _ _ e in rw (← q) (refl, refl)

-- a guard ends behind the offset where it starts
data Past (at : ℕ) : GuardRead → Type 0 where
  none : Past at malformed
  behind : (g : Guard) (k : ℕ) → at < k → Past at (up_to g k)

module _ {at : ℕ} {x y : GuardRead} where
  past-cond : (t : Bool) → Past at x → Past at y → Past at (cond t x y)
  past-cond true p q = p
  past-cond false p q = q

  past_elim : (t : Bool) → Past at x → Past at y → Past at (elim t [ true ↦ x | false ↦ y ])
  past_elim true p q = p
  past_elim false p q = q

past_not : {at : ℕ} {x : GuardRead} → Past (at + 1) x → Past at (then_read x (λ g k. up_to (negation g) k))
past_not none = none
past_not (behind g k h) = behind (negation g) k (omega arith)

past_and : {at : ℕ} {x : GuardRead} (next : ℕ → GuardRead) → Past (at + 1) x → ((k : ℕ) → Past k (next k))
    → Past at (then_read x (λ g k. then_read (next k) (λ h j. up_to (conjunction g h) j)))
past_and {at} next none q = none
past_and {at} next (behind g k p) q = further (q k)
  where
    further : {y : GuardRead} → Past k y → Past at (then_read y (λ h j. up_to (conjunction g h) j))
    further none = none
    further (behind h j r) = behind (conjunction g h) j (omega arith)

module _ (vs cs : ℕ) (b : List ℕ) (end : ℕ) where
  past_leaf : (at : ℕ) → Past at (leaf_at vs cs b at end)
  unfolding leaf_at
  past_leaf at =
      let there : ℕ → Bool = λ n. ltb (byte_at b (at + 1)) n in
      past-cond (eqb (byte_at b at) 0) (behind _ _ (omega arith))
      (past-cond (eqb (byte_at b at) 1) (past-cond (leb (at + 3) end) (past-cond (there cs) (behind _ _ (omega arith)) none) none)
      (past-cond (eqb (byte_at b at) 2) (past-cond (leb (at + 3) end) (past-cond (there cs) (behind _ _ (omega arith)) none) none)
      (past-cond (eqb (byte_at b at) 3) (past-cond (leb (at + 2) end) (past-cond (there vs) (behind _ _ (omega arith)) none) none)
      none)))

  past : (f at : ℕ) → Past at (guard_at f vs cs b at end)
  unfolding guard_at
  past zero at = none
  past (suc f) at =
      past_elim (ltb at end)
      (past_elim (eqb (byte_at b at) 4) (past_not (past f (at + 1)))
      (past_elim (eqb (byte_at b at) 5) (past_and (λ k. guard_at f vs cs b k end) (past f (at + 1)) (λ k. past f k)) (past_leaf at)))
      none

  pub seen-past : (i v : ℕ) (c : List ℕ) (f at : ℕ) (s : Seen) → seen i v c (guard_at f vs cs b at end) ≡ Some s → at < s.next
  seen-past i v c f at s e = go (past f at) e
    where
      go : {x : GuardRead} → Past at x → seen i v c x ≡ Some s → at < s.next
      go none q = absurd (none-some s q)
      go (behind g k h) q = let z : k ≡ s.next = ap (λ (r : Seen). r.next) (same_Some (seen_of i v c g k) s q) in omega arith

-- a guard that is read from bytes has bytes for bounds

data Small : GuardRead → Type 0 where
  none : Small malformed
  below : (g : Guard) (k : ℕ) → greatest_bound g < 256 → Small (up_to g k)

module _ {x y : GuardRead} where
  small_cond : (t : Bool) → Small x → Small y → Small (cond t x y)
  small_cond true p q = p
  small_cond false p q = q

  small_elim : (t : Bool) → Small x → Small y → Small (elim t [ true ↦ x | false ↦ y ])
  small_elim true p q = p
  small_elim false p q = q

small_not : {x : GuardRead} → Small x → Small (then_read x (λ g k. up_to (negation g) k))
unfolding greatest_bound
small_not none = none
small_not (below g k h) = below (negation g) k h

small_and : {x : GuardRead} (next : ℕ → GuardRead) → Small x → ((k : ℕ) → Small (next k))
    → Small (then_read x (λ g k. then_read (next k) (λ h j. up_to (conjunction g h) j)))
unfolding greatest_bound
small_and next none q = none
small_and next (below g k p) q = further (q k)
  where
    further : {y : GuardRead} → Small y → Small (then_read y (λ h j. up_to (conjunction g h) j))
    further none = none
    further (below h j r) = below (conjunction g h) j (omega arith)

module _ (vs cs : ℕ) (b : List ℕ) (end : ℕ) (bytes : AllBytes b) where
  small_leaf : (at : ℕ) → Small (leaf_at vs cs b at end)
  unfolding leaf_at greatest_bound
  small_leaf at =
      let there : ℕ → Bool = λ n. ltb (byte_at b (at + 1)) n in
      let bound = bytes (at + 2) in
      small_cond (eqb (byte_at b at) 0) (below _ _ (omega arith))
      (small_cond (eqb (byte_at b at) 1) (small_cond (leb (at + 3) end) (small_cond (there cs) (below _ _ bound) none) none)
      (small_cond (eqb (byte_at b at) 2) (small_cond (leb (at + 3) end) (small_cond (there cs) (below _ _ bound) none) none)
      (small_cond (eqb (byte_at b at) 3) (small_cond (leb (at + 2) end) (small_cond (there vs) (below _ _ (omega arith)) none) none)
      none)))

  small_read : (f at : ℕ) → Small (guard_at f vs cs b at end)
  unfolding guard_at
  small_read zero at = none
  small_read (suc f) at =
      small_elim (ltb at end)
      (small_elim (eqb (byte_at b at) 4) (small_not (small_read f (at + 1)))
      (small_elim (eqb (byte_at b at) 5) (small_and (λ k. guard_at f vs cs b k end) (small_read f (at + 1)) (λ k. small_read f k)) (small_leaf at)))
      none

  pub small_bounds : (f at : ℕ) → greatest_bound (guard_of (guard_at f vs cs b at end)) < 256
  unfolding greatest_bound
  small_bounds f at = go (small_read f at)
    where
      go : {x : GuardRead} → Small x → greatest_bound (guard_of x) < 256
      go none = omega arith
      go (below g k h) = h

-- an answer in R-10's words is the definition's
pub evaluated : {g : Guard} {v : ℕ} {c : List ℕ} {a : Readiness} → GuardAnswers g v c a → Evaluated g v c a
evaluated {g} {v} {c} {a} h = record { answered = answer-is g v c a h; right = h }

-- what the three questions have for an answer
module _ (i v : ℕ) (c : List ℕ) where
  pub bound_by : (x : GuardRead) → largest i (guard_of x) ≡ option_map_or (λ s. s.bound) (seen i v c x) 0
  unfolding largest
  bound_by malformed = refl
  bound_by (up_to g k) = refl

  seen-none : (x : GuardRead) → seen i v c x ≡ None → x ≡ malformed
  seen-none malformed e = refl
  seen-none (up_to g k) e = absurd (none-some _ (sym e))

module _ (i v : ℕ) (c : List ℕ) (x : GuardRead) where
  -- bytes that are no guard never hold
  pub none_answers : seen i v c x ≡ None → GuardAnswers (guard_of x) v c NoMore
  unfolding holds
  none_answers e = let none : x ≡ malformed = seen-none i v c x e in rw none (refl, λ d h. refl)

  module _ (s : Seen) (e : seen i v c x ≡ Some s) where
    value : holds (guard_of x) v c ≡ s.value
    value = sym (ap (λ (r : Seen). r.value) (seen-some i v c x s e).1)

    waits : waits_of (λ d. holds (guard_of x) v (waited d c)) ≡ s.later
    waits = sym (ap (λ (r : Seen). r.later) (seen-some i v c x s e).1)

    pub one_yes : s.value ≡ true → GuardAnswers (guard_of x) v c Yes
    one_yes now = value ∙ now

    pub one_not_yet : s.value ≡ false → is_none s.later ≡ false → GuardAnswers (guard_of x) v c NotYet
    one_not_yet now some = (value ∙ now, some-wait (λ d. holds (guard_of x) v (waited d c)) (ap is_none waits ∙ some))

    -- bounds are bytes, so 256 ticks are enough to wait
    pub one_no_more : greatest_bound (guard_of x) < 256 → s.value ≡ false → is_none s.later ≡ true → GuardAnswers (guard_of x) v c NoMore
    one_no_more small now empty = (
      value ∙ now,
      never (guard_of x) v c 256 small (none_waits (λ d. holds (guard_of x) v (waited d c)) (ap is_none waits ∙ empty)),
    )
