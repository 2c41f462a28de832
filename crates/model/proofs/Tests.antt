-- What passing a list of tests tells of each, which of them refuses, and what a frame that passes ensures.
use Prim.Native.Nat.{ℕ, zero, suc, ◌+◌, ◌<◌, ◌≤◌}
use native.Mathlib.Omega.{arith}
use native.Mathlib.Decide.{dec_lt}
use mathlib.Core.Path.{◌≡◌, refl, sym, ◌∙◌}
use mathlib.Core.List.{List, [], ◌∷◌, ◌++◌}
use mathlib.Core.Bool.{Bool, true}
use lib.ListN.{length, get_or}
use lib.Dec.{leb, ltb, eqb}
use borrow.Author.Tests.{leb-true, ltb-true, eqb-true}
use Rattle.model.specs.Bytes.{byte_at, tab}
use Rattle.model.specs.First.{unless, and_then, first_of, Reading}
use Rattle.model.specs.Edition.{size_width, size_at, version_of, version_place, count_place, rows_place}
use Rattle.model.specs.Frame.{is_version, framed, rows_size, framed_rows}
use Rattle.model.specs.declared.Edition.{Edition}
use Rattle.model.specs.declared.Refusal.{Refusal}
use Rattle.std.specs.Prelude.{Ok, Err}
use Rattle.model.proofs.Basics.{and_left, and_right, unless-sound, and_then-left, and_then-right, get_or-tab}

-- test number i, counted from 0
pub test : (l : List Reading) → first_of l ≡ Ok tt → (i : ℕ) → get_or l i (Ok tt) ≡ Ok tt
test [] e i = refl
test (x ∷ l) e zero = and_then-left x (first_of l) e
test (x ∷ l) e (suc i) = test l (and_then-right x (first_of l) e) i

pub le_test : (a b : ℕ) (r : Refusal) → unless (leb a b) r ≡ Ok tt → a ≤ b
le_test a b r e = leb-true a b (unless-sound (leb a b) r e)

pub lt_test : (a b : ℕ) (r : Refusal) → unless (ltb a b) r ≡ Ok tt → a < b
lt_test a b r e = ltb-true a b (unless-sound (ltb a b) r e)

pub eq_test : (a b : ℕ) (r : Refusal) → unless (eqb a b) r ≡ Ok tt → a ≡ b
eq_test a b r e = eqb-true a b (unless-sound (eqb a b) r e)

-- a test is a condition and the refusal where it fails
abbrev pub tests : List (Bool × Refusal) → List Reading
tests [] = []
tests (x ∷ l) = unless x.0 x.1 ∷ tests l

-- what a frame that passes ensures

abbrev pub frame_tests : Edition → List ℕ → (least oldest latest : ℕ) → (frame version : Refusal) → List (Bool × Refusal)
frame_tests edition b least oldest latest f v =
    (leb least (length b), f)
    ∷ (eqb (size_at edition b 0 + size_width edition) (length b), f)
    ∷ (is_version oldest latest (byte_at b (version_place edition)), v)
    ∷ []

pub record Framed (edition : Edition) (b : List ℕ) (least oldest latest : ℕ) : Type 0 where
  pub frame : least ≤ length b
  pub framed : size_at edition b 0 + size_width edition ≡ length b
  pub numbered : oldest ≤ byte_at b (version_place edition)
  pub known : byte_at b (version_place edition) ≤ latest

pub framed_facts : (edition : Edition) (b : List ℕ) (least oldest latest : ℕ) (f v : Refusal) → framed edition b least oldest latest f v ≡ Ok tt
    → Framed edition b least oldest latest
unfolding framed
framed_facts edition b least oldest latest f v e =
    let l : List Reading = tests (frame_tests edition b least oldest latest f v) in
    let n : ℕ = byte_at b (version_place edition) in
    let version : is_version oldest latest n ≡ true = unless-sound (is_version oldest latest n) v (test l e 2) in
    record {
      frame = le_test _ _ f (test l e 0);
      framed = eq_test _ _ f (test l e 1);
      numbered = leb-true oldest n (and_left _ _ version);
      known = leb-true n latest (and_right (leb oldest n) (leb n latest) version);
    }

-- .. and one with rows of one width
pub record FramedRows (edition : Edition) (b : List ℕ) (width limit : ℕ) : Type 0 where
  pub head : Framed edition b (rows_place edition) (version_of edition) (version_of edition)
  pub version : byte_at b (version_place edition) ≡ version_of edition
  pub count : size_at edition b (count_place edition) ≤ limit
  pub sized : size_at edition b 0 ≡ rows_size edition width (size_at edition b (count_place edition))

pub rows_facts : (edition : Edition) (b : List ℕ) (width limit : ℕ) (f v c : Refusal) → framed_rows edition b width limit f v c ≡ Ok tt → FramedRows edition b width limit
unfolding framed_rows
rows_facts edition b width limit f v c e =
    let l : List Reading =
    framed edition b (rows_place edition) (version_of edition) (version_of edition) f v
    ∷ unless (leb (size_at edition b (count_place edition)) limit) c
    ∷ unless (eqb (size_at edition b 0) (rows_size edition width (size_at edition b (count_place edition)))) c
    ∷ []
    in
    let head : Framed edition b (rows_place edition) (version_of edition) (version_of edition) =
    framed_facts edition b (rows_place edition) (version_of edition) (version_of edition) f v (test l e 0)
    in
    record {
      head = head;
      version = omega (arith, head.numbered, head.known);
      count = le_test _ _ c (test l e 1);
      sized = eq_test _ _ c (test l e 2);
    }

pub sound_unsound : (r : Refusal) → ◌≡◌ {A = Reading} (Ok tt) (Err r) → ⊥
sound_unsound r e = let z : ◌≡◌ {A = ℕ} 0 1 = cc in omega arith

pub then_sound : (x : Reading) → and_then x (Ok tt) ≡ x
then_sound (Ok _) = refl
then_sound (Err r) = refl

-- tests one behind the other, by number

pub first-last : (l : List Reading) (x : Reading) → first_of (l ++ (x ∷ [])) ≡ and_then (first_of l) x
first-last [] (Ok _) = refl
first-last [] (Err r) = refl
first-last ((Ok _) ∷ l) x = first-last l x
first-last (Err r ∷ l) x = refl

module _ (f : ℕ → Reading) where
  pub first_passed : (n : ℕ) → ((i : ℕ) → i < n → f i ≡ Ok tt) → first_of (tab f n) ≡ Ok tt
  unfolding tab
  first_passed zero h = refl
  first_passed (suc n) h = first-last (tab f n) (f n) ∙ rw (first_passed n (λ i l. h i (omega arith)), h n (omega arith))

  pub first-refused : (n i : ℕ) (r : Refusal) → i < n → ((k : ℕ) → k < i → f k ≡ Ok tt) → f i ≡ Err r → first_of (tab f n) ≡ Err r
  unfolding tab
  first-refused zero i r l h e = absurd (omega arith)
  first-refused (suc n) i r l h e = first-last (tab f n) (f n) ∙ go (dec_lt i n) (λ k. first-refused n i r k h e)
    where
      go : Dec (i < n) → (i < n → first_of (tab f n) ≡ Err r) → and_then (first_of (tab f n)) (f n) ≡ Err r
      go (yes k) again = rw (again k)
      go (no k) again = let q : i ≡ n = omega arith in rw (first_passed n (λ j p. h j (omega arith)), ← q, e)

  pub passed_each : (n : ℕ) → first_of (tab f n) ≡ Ok tt → (i : ℕ) → i < n → f i ≡ Ok tt
  passed_each n e i l = sym (get_or-tab f (Ok tt) n i l) ∙ test (tab f n) e i

  pub refused_which : (n : ℕ) (r : Refusal) → first_of (tab f n) ≡ Err r → (i : ℕ) × (i < n) × ((k : ℕ) → k < i → f k ≡ Ok tt) × (f i ≡ Err r)
  unfolding tab
  refused_which zero r e = absurd (sound_unsound r e)
  refused_which (suc n) r e = go (first_of (tab f n)) refl (λ h. refused_which n r h) (sym (first-last (tab f n) (f n)) ∙ e)
    where
      Which : ℕ → Type 0
      Which n = (i : ℕ) × (i < n) × ((k : ℕ) → k < i → f k ≡ Ok tt) × (f i ≡ Err r)

      go : (x : Reading) → first_of (tab f n) ≡ x → (first_of (tab f n) ≡ Err r → Which n) → and_then x (f n) ≡ Err r → Which (suc n)
      go (Ok _) p again h = (n, omega arith, passed_each n p, h)
      go (Err q) p again h = let w : Which n = again (p ∙ h) in (w.0, omega (arith, w.1), w.2, w.3)
