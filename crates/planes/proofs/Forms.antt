-- What is built for a guard, by its forms. Assumes nothing.
use mathlib.Core.Path.{◌≡◌, refl, sym, ap, ap₂, subst, ◌∙◌}
use mathlib.Core.Bool.{Bool, not, ◌&&◌}
use mathlib.Core.List.{List, []}
use Rattle.std.specs.Prelude.{Option, Some, None}
use Rattle.std.proofs.lemmas.Option.{none-some, same_Some}
use Prim.Native.Nat.{ℕ, ◌*◌, ◌<◌}
use native.Mathlib.Omega.{arith}
use native.Mathlib.Decide.{dec_lt}
use Rattle.model.specs.Guard.{Guard, GuardRead, malformed, up_to, then_read, holds, negation, conjunction, guard_at}
use Rattle.guard.specs.Guards.{seen_of, seen}
use Rattle.guard.proofs.Guards.{seen-past, guard_out, guard_none}
use Rattle.words.specs.Words.{mem}
use Rattle.planes.specs.Numbering.{holds_by}
use Rattle.planes.specs.Built.{Built, ended}

module _ (f s n : ℕ) (x : GuardRead) (r : Option ℕ) (a : List ℕ) where
  pub built_none : x ≡ malformed → r ≡ None → Built f s n x r a
  built_none e q = record { ends = q ∙ ap ended (sym e); all = λ g k p. absurd (none-some k (ap ended (sym e ∙ p))) }

  pub built_one : (g : Guard) (k : ℕ) → x ≡ up_to g k → r ≡ Some k → ((i : ℕ) → i < 64 * n → mem a i ≡ holds_by f s g i) → Built f s n x r a
  built_one g k e q is =
      record {
        ends = q ∙ ap ended (sym e);
        all = λ h j p i l. let same : g ≡ h = cc in is i l ∙ ap (λ (t : Guard). holds_by f s t i) same;
      }

module _ (f s n : ℕ) (a : List ℕ) (x : GuardRead) where
  -- a guard that is none leaves none, whatever the words hold
  none_read : (r : Option ℕ) → Built f s n x r a → r ≡ None → x ≡ malformed
  none_read r t q = by x (sym t.ends ∙ q)
    where
      by : (x : GuardRead) → ended x ≡ None → x ≡ malformed
      by malformed e = refl
      by (up_to g k) e = absurd (none-some k (sym e))

  pub built_inside : (next : Guard → ℕ → GuardRead) (r : Option ℕ) (b : List ℕ) → Built f s n x r a → r ≡ None → Built f s n (then_read x next) None b
  built_inside next r b t q = built_none f s n (then_read x next) None b (ap (λ (y : GuardRead). then_read y next) (none_read r t q)) refl

module _ (f s n : ℕ) (a b : List ℕ) where
  pub built_not : (x : GuardRead) (r : Option ℕ) → Built f s n x r a → ((i : ℕ) → i < 64 * n → mem b i ≡ not (mem a i)) → Built f s n (then_read x (λ g k. up_to (negation g) k)) r b
  unfolding holds_by holds
  built_not malformed r t is = built_none f s n malformed r b refl t.ends
  built_not (up_to g k) r t is = built_one f s n (up_to (negation g) k) r b (negation g) k refl t.ends (λ i l. is i l ∙ ap not (t.all g k refl i l))

  pub built_and : (c : List ℕ) (x : GuardRead) (next : ℕ → GuardRead) (r u : Option ℕ) (k : ℕ) → Built f s n x r a → r ≡ Some k → Built f s n (next k) u c
      → ((i : ℕ) → i < 64 * n → mem b i ≡ (mem a i && mem c i)) → Built f s n (then_read x (λ g j. then_read (next j) (λ h l. up_to (conjunction g h) l))) u b
  unfolding holds_by holds
  built_and c malformed next r u k t q v is = absurd (none-some k (sym t.ends ∙ q))
  built_and c (up_to g j) next r u k t q v is =
      let place : k ≡ j = same_Some k j (sym q ∙ t.ends) in
      subst (λ (m : ℕ). Built f s n (then_read (next m) (λ h l. up_to (conjunction g h) l)) u b) place (second (next k) v)
    where
      second : (y : GuardRead) → Built f s n y u c → Built f s n (then_read y (λ h l. up_to (conjunction g h) l)) u b
      second malformed w = built_none f s n malformed u b refl w.ends
      second (up_to h l) w =
          built_one f s n (up_to (conjunction g h) l) u b (conjunction g h) l refl w.ends
          (λ i m. is i m ∙ ap₂ (λ (p o : Bool). p && o) (t.all g j refl i m) (w.all h l refl i m))

-- a conjunction whose second guard is none
pub built_second : (f s n : ℕ) (a b c : List ℕ) (x : GuardRead) (next : ℕ → GuardRead) (r u : Option ℕ) (k : ℕ) → Built f s n x r a → r ≡ Some k → Built f s n (next k) u c → u ≡ None
    → Built f s n (then_read x (λ g j. then_read (next j) (λ h l. up_to (conjunction g h) l))) None b
built_second f s n a b c malformed next r u k t q v e = absurd (none-some k (sym t.ends ∙ q))
built_second f s n a b c (up_to g j) next r u k t q v e =
    let place : k ≡ j = same_Some k j (sym q ∙ t.ends) in
    let none : next j ≡ malformed = ap next (sym place) ∙ none_read f s n c (next k) u v e in
    built_none f s n _ None b (ap (λ (y : GuardRead). then_read y (λ h l. up_to (conjunction g h) l)) none) refl

-- a guard has a byte, and ends behind where it starts
module _ (vs cs : ℕ) (b : List ℕ) (end d at k : ℕ) where
  read_there : (x : GuardRead) → x ≡ guard_at d vs cs b at end → Some k ≡ ended x → (at < k) × (at < end) × (0 < d)
  read_there malformed p e = absurd (none-some k (sym e))
  read_there (up_to g j) p e =
      let place : j ≡ k = sym (same_Some k j e) in
      let found : seen 0 0 [] (guard_at d vs cs b at end) ≡ Some (seen_of 0 0 [] g k) = ap (seen 0 0 []) (sym p ∙ ap (up_to g) place) in
      (seen-past vs cs b end 0 0 [] d at (seen_of 0 0 [] g k) found, inside (dec_lt at end), deep (dec_lt 0 d))
    where
      none : guard_at d vs cs b at end ≡ malformed → ⊥
      none q = none-some j (sym (ap ended (p ∙ q)))

      inside : Dec (at < end) → at < end
      inside (yes h) = h
      inside (no h) = absurd (none (guard_out vs cs b at end d (omega arith)))

      deep : Dec (0 < d) → 0 < d
      deep (yes h) = h
      deep (no h) = absurd (none (guard_none vs cs b at end d (omega arith)))

  pub read_within : Some k ≡ ended (guard_at d vs cs b at end) → (at < k) × (at < end) × (0 < d)
  read_within e = read_there (guard_at d vs cs b at end) refl e
