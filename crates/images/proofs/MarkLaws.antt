-- The marks of clock values, four sets in one buffer. Assumes nothing.
use Prim.Native.Nat.{ℕ, ◌+◌, ◌-◌, ◌*◌, ◌/◌, ◌%◌, ◌<◌}
use native.Mathlib.Decide.{ℕ_discrete}
use native.Mathlib.Nat.{mod-lt}
use native.Mathlib.Omega.{arith}
use mathlib.Core.Path.{◌≡◌, ap, ◌∙◌}
use mathlib.Core.List.{List}
use mathlib.Core.Bool.{Bool, false, not, ◌||◌, or-false}
use borrow.Author.Tests.{lt-ltb, le-ltb, eq-eqb, ne_eqb}
use lib.Dec.{eqb, ltb}
use lib.ListN.{length}
use Rattle.words.specs.Words.{Is, Joined, mem, up, below, meet}
use Rattle.model.specs.Monitor.{Monitor}
use Rattle.instants.specs.Digit.{digit, is_lowest, is_highest}
use Rattle.instants.specs.Grid.{firsts, seconds}
use Rattle.firings.specs.Ready.{Marked}
use Rattle.images.proofs.SetLaws.{put_whole, up-here, up-before, up-past}

-- a digit is lowest if it is below 1, and highest if it is not below its last value
lowest_is : (d : ℕ) → ltb d 1 ≡ eqb d 0
lowest_is d = by (ℕ_discrete d 0)
  where
    by : Dec (d ≡ 0) → ltb d 1 ≡ eqb d 0
    by (yes e) = simp (lt-ltb d 1 (omega arith), eq-eqb d 0 e)
    by (no e) = simp (le-ltb d 1 (omega arith), ne_eqb d 0 e)

highest_is : (d r : ℕ) → d < r → not (ltb d (r - 1)) ≡ eqb (d + 1) r
highest_is d r l = by (ℕ_discrete (d + 1) r)
  where
    by : Dec (d + 1 ≡ r) → not (ltb d (r - 1)) ≡ eqb (d + 1) r
    by (yes e) = simp (le-ltb d (r - 1) (omega arith), eq-eqb (d + 1) r e)
    by (no e) = simp (lt-ltb d (r - 1) (omega arith), ne_eqb (d + 1) r e)

-- they are put where a set starts
module _ (d n w r : ℕ) (s t a b : List ℕ) (k : length s ≡ n) where
  pub lowest_moved : Is (λ x. ltb (x / w % r) 1) s t → Joined (up d (below (64 * n) (meet t 0 t 0))) a b
      → Joined (up d (below (64 * n) (is_lowest w r))) a b
  lowest_moved e = put_whole d (64 * n) (is_lowest w r) t a b (λ x l. e.all x (omega arith) ∙ lowest_is (digit w r x))

  pub highest_moved : (c : List ℕ) → 0 < r → Is (λ x. ltb (x / w % r) (r - 1)) s c → Is (λ x. not (mem c x)) c t
      → Joined (up d (below (64 * n) (meet t 0 t 0))) a b → Joined (up d (below (64 * n) (is_highest w r))) a b
  highest_moved c z e f =
      put_whole d (64 * n) (is_highest w r) t a b
      (λ x l.
      f.all x (omega (arith, e.size))
      ∙ ap not (e.all x (omega arith))
      ∙ highest_is (digit w r x) r (mod-lt (x / w) z))

-- four sets of n words in one buffer, one after the other
module _ (n : ℕ) (p q r s f : ℕ → Bool)
    (e : (x : ℕ) → x < 64 * (4 * n)
    → f x
    ≡ ((((false || up (64 * n * 0) (below (64 * n) p) x) || up (64 * n * (0 + 1)) (below (64 * n) q) x) || up (64 * n * 2) (below (64 * n) r) x)
    || up (64 * n * (2 + 1)) (below (64 * n) s) x))
    (i : ℕ) (l : i < 64 * n) where
  pub set_0 : f i ≡ p i
  set_0 =
      e i (omega arith)
      ∙ (simp (up-before (64 * n * (0 + 1)) (64 * n) q i (omega arith), up-before (64 * n * 2) (64 * n) r i (omega arith), up-before (64 * n * (2 + 1)) (64 * n) s i (omega arith), or-false))
      ∙ up-here (64 * n * 0) (64 * n) p i i (omega arith) l

  pub set_1 : f (64 * n + i) ≡ q i
  set_1 =
      e (64 * n + i) (omega arith)
      ∙ (simp (up-past (64 * n * 0) (64 * n) p (64 * n + i) (omega arith), up-before (64 * n * 2) (64 * n) r (64 * n + i) (omega arith), up-before (64 * n * (2 + 1)) (64 * n) s (64 * n + i) (omega arith), or-false))
      ∙ up-here (64 * n * (0 + 1)) (64 * n) q (64 * n + i) i (omega arith) l

  pub set_2 : f (64 * n * 2 + i) ≡ r i
  set_2 =
      e (64 * n * 2 + i) (omega arith)
      ∙ (simp (up-past (64 * n * 0) (64 * n) p (64 * n * 2 + i) (omega arith), up-past (64 * n * (0 + 1)) (64 * n) q (64 * n * 2 + i) (omega arith), up-before (64 * n * (2 + 1)) (64 * n) s (64 * n * 2 + i) (omega arith), or-false))
      ∙ up-here (64 * n * 2) (64 * n) r (64 * n * 2 + i) i (omega arith) l

  pub set_3 : f (64 * n * 3 + i) ≡ s i
  set_3 =
      e (64 * n * 3 + i) (omega arith)
      ∙ (simp (up-past (64 * n * 0) (64 * n) p (64 * n * 3 + i) (omega arith), up-past (64 * n * (0 + 1)) (64 * n) q (64 * n * 3 + i) (omega arith), up-past (64 * n * 2) (64 * n) r (64 * n * 3 + i) (omega arith)))
      ∙ up-here (64 * n * (2 + 1)) (64 * n) s (64 * n * 3 + i) i (omega arith) l

-- the marks of both clocks, one clock after the other into a buffer that is cleared first
abbrev pub AddedMarks : (n r w values : ℕ) → (before after : List ℕ) → Type 0
AddedMarks n r w values before after =
    (i : ℕ) → i < 64 * length before
    → mem after i ≡ ((mem before i || up (64 * n * r) (below (64 * n) (is_lowest w values)) i) || up (64 * n * (r + 1)) (below (64 * n) (is_highest w values)) i)

module _ (m : Monitor) (n w first w2 second : ℕ) (a : w ≡ 1) (b : first ≡ firsts m) (c : w2 ≡ firsts m) (d : second ≡ seconds m) where
  marked_by : (s : List ℕ)
      → ((x : ℕ) → x < 64 * (4 * n)
      → mem s x
      ≡ ((((false || up (64 * n * 0) (below (64 * n) (is_lowest w first)) x) || up (64 * n * (0 + 1)) (below (64 * n) (is_highest w first)) x)
      || up (64 * n * 2) (below (64 * n) (is_lowest w2 second)) x)
      || up (64 * n * (2 + 1)) (below (64 * n) (is_highest w2 second)) x))
      → Marked m n s
  marked_by s e =
      record {
        low_first = λ i l. set_0 n (is_lowest w first) (is_highest w first) (is_lowest w2 second) (is_highest w2 second) (mem s) e i l ∙ one (λ x y. is_lowest x y i);
        high_first = λ i l. set_1 n (is_lowest w first) (is_highest w first) (is_lowest w2 second) (is_highest w2 second) (mem s) e i l ∙ one (λ x y. is_highest x y i);
        low_second = λ i l. set_2 n (is_lowest w first) (is_highest w first) (is_lowest w2 second) (is_highest w2 second) (mem s) e i l ∙ two (λ x y. is_lowest x y i);
        high_second = λ i l. set_3 n (is_lowest w first) (is_highest w first) (is_lowest w2 second) (is_highest w2 second) (mem s) e i l ∙ two (λ x y. is_highest x y i);
      }
    where
      one : (f : ℕ → ℕ → Bool) → f w first ≡ f 1 (firsts m)
      one f = cc

      two : (f : ℕ → ℕ → Bool) → f w2 second ≡ f (firsts m) (seconds m)
      two f = cc

  pub marked_all : (s t u v : List ℕ) → length s ≡ 4 * n → Is (λ i. false) s t → AddedMarks n 0 w first t u → length u ≡ length t → AddedMarks n 2 w2 second u v
      → Marked m n v
  marked_all s t u v long clear x k y =
      marked_by v
      (λ i l.
      y i (omega (arith, clear.size))
      ∙ ap (λ (z : Bool). (z || up (64 * n * 2) (below (64 * n) (is_lowest w2 second)) i) || up (64 * n * (2 + 1)) (below (64 * n) (is_highest w2 second)) i)
      (x i (omega (arith, clear.size))
      ∙ ap (λ (z : Bool). (z || up (64 * n * 0) (below (64 * n) (is_lowest w first)) i) || up (64 * n * (0 + 1)) (below (64 * n) (is_highest w first)) i)
      (clear.all i (omega arith))))
