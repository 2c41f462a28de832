-- The two counts of a rejection are R-10's: the pairs that pass the test, listed, are the pairs in its words.
use Prim.Native.Nat.{ℕ, zero, suc, ◌+◌, ◌-◌, ◌<◌, ◌≤◌}
use native.Mathlib.Nat.{not-suc-le-zero}
use native.Mathlib.Omega.{arith}
use native.Mathlib.Decide.{dec_lt}
use mathlib.Core.Path.{◌≡◌, refl, sym, ap, subst, ◌∙◌}
use mathlib.Core.Logic.{◌↔◌, ◌⊎◌, inl, inr, ⊎_elim}
use mathlib.Core.List.Memᴰ
use mathlib.Core.List.{List, [], ◌∷◌, ◌++◌, Memᴰ}
use mathlib.Core.Bool.{Bool, true, false, cond, ◌&&◌, false≢true}
use Rattle.std.specs.Prelude.{Option, Some, None, slice_get}
use Rattle.std.specs.Option.{option_and_then}
use Rattle.std.proofs.lemmas.Option.{none-some, same_Some, slice_get_within}
use lib.ListN.{length, get_or, length-append}
use lib.Dec.{eqb}
use borrow.Author.Tests.{eqb-true, eq-eqb}
use Rattle.model.specs.Readiness.{GuardAnswers, readiness}
use Rattle.model.specs.Monitor.{Monitor, Config, Transition, tried}
use Rattle.model.specs.Trace.{Packet}
use Rattle.model.specs.Size.{size}
use Rattle.model.specs.Situation.{InRange, config_of, situation_of, recorded_at, move_limit, step_number, first_number}
use Rattle.model.specs.Pairs.{how_many, pairs, same_answer, is_answer, answer_in, is_pair}
use Rattle.model.specs.Validation.{possible_after, pairs_at}
use Rattle.model.specs.CountedPairs.{Pair, OnceEach, Counted}
use Rattle.model.specs.Sane.{Sane}
use Rattle.model.specs.declared.Readiness.{Readiness}
use Rattle.model.specs.declared.Readiness.TheVariants.{Yes, NotYet, NoMore}
use Rattle.model.specs.declared.Situation.{Situation}
use Rattle.model.proofs.Basics.{and_left, and_right, both_true, cond-some}
use Rattle.model.proofs.SetLaws.{member_within}
use Rattle.model.proofs.LayerLaws.{length-layer}
use Rattle.model.proofs.Numbering.{forth}
use Rattle.model.proofs.ReadinessLaws.{answers, answer-is}
use Rattle.model.proofs.Capping.{largest-listed, same_answer_lem, written_back}

-- lists of pairs

member_append : (xs ys : List (ℕ × ℕ)) (p : ℕ × ℕ) → Memᴰ p (xs ++ ys) ↔ (Memᴰ p xs ⊎ Memᴰ p ys)
member_append [] ys p = (λ h. inr h, λ h. ⊎_elim (λ i. absurd (Memᴰ.not-nil i)) (λ i. i) h)
member_append (x ∷ xs) ys p =
    let (forth, back) = member_append xs ys p in (
      λ h. ⊎_elim (λ e. inl (Memᴰ.head e)) (λ i. ⊎_elim (λ j. inl (Memᴰ.tail j)) (λ j. inr j) (forth i)) (Memᴰ.cases_cons h),
      λ h. ⊎_elim (λ i. ⊎_elim (λ e. Memᴰ.head e) (λ j. Memᴰ.tail (back (inl j))) (Memᴰ.cases_cons i)) (λ j. Memᴰ.tail (back (inr j))) h,
    )

once-append : (xs ys : List (ℕ × ℕ)) → OnceEach xs → OnceEach ys → ((p : ℕ × ℕ) → Memᴰ p xs → Memᴰ p ys → ⊥) → OnceEach (xs ++ ys)
once-append [] ys o q apart = q
once-append (x ∷ xs) ys o q apart = (
  λ h. ⊎_elim (λ i. o.0 i) (λ i. apart x (Memᴰ.head refl) i) ((member_append xs ys x).0 h),
  once-append xs ys o.1 q (λ p i j. apart p (Memᴰ.tail i) j),
)

-- a list without one of its members
without : (ys : List (ℕ × ℕ)) (x : ℕ × ℕ) → Memᴰ x ys
    → (rest : List (ℕ × ℕ)) × (length ys ≡ suc (length rest)) × ((p : ℕ × ℕ) → Memᴰ p ys → (p ≡ x) ⊎ Memᴰ p rest)
without [] x h = absurd (Memᴰ.not-nil h)
without (y ∷ ys) x h = ⊎_elim here (λ i. behind (without ys x i)) (Memᴰ.cases_cons h)
  where
    here : x ≡ y → (rest : List (ℕ × ℕ)) × (suc (length ys) ≡ suc (length rest)) × ((p : ℕ × ℕ) → Memᴰ p (y ∷ ys) → (p ≡ x) ⊎ Memᴰ p rest)
    here e = (ys, refl, λ p i. ⊎_elim (λ q. inl (q ∙ sym e)) (λ j. inr j) (Memᴰ.cases_cons i))

    behind : (rest : List (ℕ × ℕ)) × (length ys ≡ suc (length rest)) × ((p : ℕ × ℕ) → Memᴰ p ys → (p ≡ x) ⊎ Memᴰ p rest)
        → (rest : List (ℕ × ℕ)) × (suc (length ys) ≡ suc (length rest)) × ((p : ℕ × ℕ) → Memᴰ p (y ∷ ys) → (p ≡ x) ⊎ Memᴰ p rest)
    behind (rest, long, others) = (
      y ∷ rest,
      ap suc long,
      λ p i. ⊎_elim (λ q. inr (Memᴰ.head q)) (λ j. ⊎_elim (λ q. inl q) (λ k. inr (Memᴰ.tail k)) (others p j)) (Memᴰ.cases_cons i),
    )

once_shorter : (xs ys : List (ℕ × ℕ)) → OnceEach xs → ((p : ℕ × ℕ) → Memᴰ p xs → Memᴰ p ys) → length xs ≤ length ys
once_shorter [] ys o all = omega arith
once_shorter (x ∷ xs) ys o all =
    let (rest, long, others) = without ys x (all x (Memᴰ.head refl)) in
    let shorter : length xs ≤ length rest =
    once_shorter xs rest o.1
    (λ p i. ⊎_elim (λ e. absurd (o.0 (subst (λ (q : ℕ × ℕ). Memᴰ q xs) e i))) (λ j. j) (others p (all p (Memᴰ.tail i)))) in
    omega arith

-- a count is determined by what is counted
pub one_count : {P : ℕ → ℕ → Type 0} {a b : ℕ} → Counted P a → Counted P b → a ≡ b
one_count x y =
    let le : length x.list ≤ length y.list = once_shorter x.list y.list x.once (λ p i. (y.these p.0 p.1).1 ((x.these p.0 p.1).0 i)) in
    let ge : length y.list ≤ length x.list = once_shorter y.list x.list y.once (λ p i. (x.these p.0 p.1).1 ((y.these p.0 p.1).0 i)) in
    omega (arith, x.many, y.many)

-- a pair's parts, by what it equals
first_of : {n j x y : ℕ} → ◌≡◌ {A = ℕ × ℕ} (n, j) (x, y) → n ≡ x
first_of e = ap (λ (p : ℕ × ℕ). p.0) e

second_of : {n j x y : ℕ} → ◌≡◌ {A = ℕ × ℕ} (n, j) (x, y) → j ≡ y
second_of e = ap (λ (p : ℕ × ℕ). p.1) e

module _ (test : ℕ → ℕ → Bool) where
  -- the pairs of n that pass
  abbrev Of : (n l x y : ℕ) → Type 0
  Of n l x y = (x ≡ n) × (y < l) × (test n y ≡ true)

  of_one : (n l : ℕ) → Counted (Of n l) (how_many (test n) l)
  unfolding how_many
  of_one n zero = record { list = []; once = tt; these = λ x y. (λ h. absurd (Memᴰ.not-nil h), λ h. absurd (not-suc-le-zero h.1)); many = refl }
  of_one n (suc l) = by (of_one n l) (test n l) refl
    where
      by : Counted (Of n l) (how_many (test n) l) → (passes : Bool) → test n l ≡ passes → Counted (Of n (suc l)) (how_many (test n) l + cond passes 1 0)
      by before true e =
          record {
            list = (n, l) ∷ before.list;
            once = (λ h. let w = ((before.these n l).0 h).1 in omega arith, before.once);
            these = λ x y. (
              λ h.
                  ⊎_elim
                  (λ q. let same : y ≡ l = second_of q in (first_of q, omega arith, rw same e))
                  (λ i. let (a, b, p) = (before.these x y).0 i in (a, omega arith, p))
                  (Memᴰ.cases_cons h),
              λ (a, b, p). on x y a b p (dec_lt y l),
            );
            many = omega (arith, before.many);
          }
        where
          on : (x y : ℕ) → x ≡ n → y < suc l → test n y ≡ true → Dec (y < l) → Memᴰ (x, y) ((n, l) ∷ before.list)
          on x y a b p (yes h) = Memᴰ.tail ((before.these x y).1 (a, h, p))
          on x y a b p (no h) = let same : y ≡ l = omega arith in Memᴰ.head (λ i. (a i, same i))
      by before false e =
          record {
            list = before.list;
            once = before.once;
            these = λ x y. (
              λ h. let (a, b, p) = (before.these x y).0 h in (a, omega arith, p),
              λ (a, b, p). (before.these x y).1 (a, on y b p, p),
            );
            many = before.many ∙ omega arith;
          }
        where
          on : (y : ℕ) → y < suc l → test n y ≡ true → y < l
          on y b p = at (dec_lt y l)
            where
              at : Dec (y < l) → y < l
              at (yes h) = h
              at (no h) = let same : l ≡ y = omega arith in absurd (false≢true (sym e ∙ ap (test n) same ∙ p))

  -- the pairs that pass
  abbrev Passing : (n l x y : ℕ) → Type 0
  Passing n l x y = (x < n) × (y < l) × (test x y ≡ true)

  passing : (n l : ℕ) → Counted (Passing n l) (pairs test n l)
  unfolding pairs
  passing zero l = record { list = []; once = tt; these = λ x y. (λ h. absurd (Memᴰ.not-nil h), λ h. absurd (not-suc-le-zero h.0)); many = refl }
  passing (suc n) l = by (passing n l) (of_one n l)
    where
      by : Counted (Passing n l) (pairs test n l) → Counted (Of n l) (how_many (test n) l) → Counted (Passing (suc n) l) (pairs test n l + how_many (test n) l)
      by before here =
          record {
            list = before.list ++ here.list;
            once =
                once-append before.list here.list before.once here.once
                (λ p i j.
                let a = ((before.these p.0 p.1).0 i).0 in
                let b = ((here.these p.0 p.1).0 j).0 in
                omega arith);
            these = λ x y. (
              λ h.
                  ⊎_elim
                  (λ i. let (a, b, p) = (before.these x y).0 i in (omega arith, b, p))
                  (λ i. let (a, b, p) = (here.these x y).0 i in (omega arith, b, rw a p))
                  ((member_append before.list here.list (x, y)).0 h),
              λ (a, b, p). (member_append before.list here.list (x, y)).1 (on x y a b p (dec_lt x n)),
            );
            many = length-append before.list here.list ∙ omega (arith, before.many, here.many);
          }
        where
          on : (x y : ℕ) → x < suc n → y < l → test x y ≡ true → Dec (x < n) → Memᴰ (x, y) before.list ⊎ Memᴰ (x, y) here.list
          on x y a b p (yes h) = inl ((before.these x y).1 (h, b, p))
          on x y a b p (no h) = let same : x ≡ n = omega arith in inr ((here.these x y).1 (same, b, ap (λ (z : ℕ). test z y) (sym same) ∙ p))

counted_as : {P Q : ℕ → ℕ → Type 0} {count : ℕ} → ((x y : ℕ) → P x y ↔ Q x y) → Counted P count → Counted Q count
counted_as same c =
    record {
      list = c.list;
      once = c.once;
      these = λ x y. (λ h. (same x y).0 ((c.these x y).0 h), λ h. (c.these x y).1 ((same x y).1 h));
      many = c.many;
    }

-- what an answer that is there says

same-is : (a b : Readiness) → same_answer a b ≡ true → b ≡ a
same-is Yes Yes e = refl
same-is Yes NotYet e = absurd (false≢true e)
same-is Yes NoMore e = absurd (false≢true e)
same-is NotYet Yes e = absurd (false≢true e)
same-is NotYet NotYet e = refl
same-is NotYet NoMore e = absurd (false≢true e)
same-is NoMore Yes e = absurd (false≢true e)
same-is NoMore NotYet e = absurd (false≢true e)
same-is NoMore NoMore e = refl

same_self : (a : Readiness) → same_answer a a ≡ true
same_self Yes = refl
same_self NotYet = refl
same_self NoMore = refl

is_some : (a : Readiness) (o : Option Readiness) → is_answer a o ≡ true → o ≡ Some a
is_some a None e = absurd (false≢true e)
is_some a (Some b) e = ap {B = Option Readiness} Some (same-is a b e)

bind_some : {A B : Type 0} (o : Option A) (f : A → Option B) (b : B) → option_and_then f o ≡ Some b → (a : A) × (o ≡ Some a) × (f a ≡ Some b)
bind_some None f b e = absurd (none-some b e)
bind_some (Some a) f b e = (a, refl, e)

module _ (m : Monitor) (j k : ℕ) (c : Config) where
  -- transition j of kind k answers, from its state
  abbrev Fits : Transition → Type 0
  Fits t = (slice_get m.transitions j ≡ Some t) × (t.source ≡ c.state) × (t.trigger ≡ k)

  tried-some : (a : Readiness) → tried m j k c ≡ Some a → (t : Transition) × Fits t × (readiness t.guard c.variables c.clocks ≡ a)
  unfolding tried
  tried-some a e =
      let (t, listed, answer) = bind_some (slice_get m.transitions j) _ a e in
      let (fits, is) = cond-some (eqb t.source c.state && eqb t.trigger k) (Some (readiness t.guard c.variables c.clocks)) a answer in (
        t,
        (listed, eqb-true _ _ (and_left _ _ fits), eqb-true _ _ (and_right (eqb t.source c.state) _ fits)),
        same_Some (readiness t.guard c.variables c.clocks) a is,
      )

  some-tried : (t : Transition) → Fits t → tried m j k c ≡ Some (readiness t.guard c.variables c.clocks)
  unfolding tried
  some-tried t (listed, from, on) = rw (listed, eq-eqb t.source c.state from, eq-eqb t.trigger k on)

module _ {m : Monitor} (sane : Sane m) (recording : List Packet) (instant : ℕ) (a : Readiness) where
  abbrev set : List Bool
  set = possible_after m recording (instant - 1)

  set-length : length set ≡ size m
  set-length = length-layer (size m) move_limit (step_number m recording) (first_number m) (instant - 1)

  abbrev test : ℕ → ℕ → Bool
  test = is_pair m set (recorded_at recording instant) a

  pair_passes : (n j : ℕ) → Pair m recording instant a n j → Passing test (size m) (length m.transitions) n j
  unfolding answer_in
  pair_passes n j p =
      let s : Situation = situation_of m n in
      let below : n < size m = omega (arith, member_within set n p.possible, set-length) in
      let range : InRange m s = (forth sane n below).1 in
      let answer : a ≡ readiness p.transition.guard s.variables s.clocks =
      answer-is p.transition.guard s.variables s.clocks a (p.answers s.clocks range.clocks (written_back m s range)) in
      let tries : tried m j p.transition.trigger (config_of s) ≡ Some a =
      some-tried m j p.transition.trigger (config_of s) p.transition (p.listed, p.from, refl) ∙ ap {B = Option Readiness} Some (sym answer) in
      let is : answer_in m (recorded_at recording instant) s j ≡ Some a = rw (eq-eqb s.air 0 p.free, p.kind) tries in (
        below,
        slice_get_within m.transitions j p.transition p.listed,
        both_true (get_or set n false) _ p.possible (ap (is_answer a) is ∙ same_self a),
      )

  passes_pair : (n j : ℕ) → Passing test (size m) (length m.transitions) n j → Pair m recording instant a n j
  unfolding answer_in
  passes_pair n j (below, within, e) =
      let s : Situation = situation_of m n in
      let there : get_or set n false ≡ true = and_left _ _ e in
      let is : answer_in m (recorded_at recording instant) s j ≡ Some a = is_some a _ (and_right (get_or set n false) _ e) in
      let (free, tries) = cond-some (eqb s.air 0) (option_and_then (λ k. tried m j k (config_of s)) (recorded_at recording instant)) a is in
      let (k, heard, try) = bind_some (recorded_at recording instant) (λ k. tried m j k (config_of s)) a tries in
      let (t, (listed, from, on), answer) = tried-some m j k (config_of s) a try in
      record {
        possible = there;
        free = eqb-true s.air 0 free;
        transition = t;
        listed = listed;
        kind = heard ∙ ap {B = Option ℕ} Some (sym on);
        from = from;
        answers = λ clocks two writes.
            let same : readiness t.guard s.variables clocks ≡ a =
            sym (same_answer_lem m sane.clocks t.guard s.variables clocks two (sane.transition j t listed).closed (largest-listed m.transitions j t listed))
            ∙ ap (readiness t.guard s.variables) writes
            ∙ answer in
            subst (GuardAnswers t.guard s.variables clocks) same (answers t.guard s.variables clocks);
      }

  -- the count is the number of pairs in R-10's words
  pub counted-pairs : Counted (Pair m recording instant a) (pairs_at m recording a instant)
  unfolding pairs_at
  counted-pairs = counted_as (λ n j. (passes_pair n j, pair_passes n j)) (passing test (size m) (length m.transitions))
