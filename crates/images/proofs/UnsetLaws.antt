-- The sets for each choice of clocks that are reset, made where they are worth it. Assumes nothing.
use mathlib.Core.Path.{◌≡◌, refl, sym, ap, ap₂, ◌∙◌}
use mathlib.Core.Bool.{Bool, true, false, ◌&&◌, ◌||◌}
use mathlib.Core.List.{List}
use Prim.Native.Nat.{ℕ, ◌*◌, ◌<◌}
use native.Mathlib.Omega.{arith}
use lib.ListN.{length}
use Rattle.words.specs.Words.{bit, Joined, up, below}
use Rattle.words.proofs.Sets.{join_none, join_same}
use Rattle.firings.specs.Folded.{set_at, spread_by}
use Rattle.images.specs.Unset.{Unset}
use Rattle.images.proofs.SetLaws.{up_false, set_here, set_before, set_after, spread_same}

pub worth_some : (x : Bool) (p : ℕ → Bool) (a b : List ℕ) → x ≡ true → Joined p a b → Joined (λ i. x && p i) a b
worth_some x p a b e = join_same p (λ i. x && p i) a b (λ i l. sym (ap (λ (t : Bool). t && p i) e))

pub worth_none : (x : Bool) (p : ℕ → Bool) (a : List ℕ) → x ≡ false → Joined (λ i. x && p i) a a
worth_none x p a e = join_none (λ i. x && p i) a (λ i l. ap (λ (t : Bool). t && p i) e)

-- a test for all is a test for each
worth_each : (x : Bool) (d k : ℕ) (p : ℕ → Bool) (i : ℕ) → (x && up d (below k p) i) ≡ up d (below k (λ y. x && p y)) i
worth_each true d k p i = refl
worth_each false d k p i = sym (up_false d k i)

worth_in : (x : Bool) (d k : ℕ) (p : ℕ → Bool) (a b : List ℕ) → Joined (λ i. x && up d (below k p) i) a b → Joined (up d (below k (λ y. x && p y))) a b
worth_in x d k p a b = join_same (λ i. x && up d (below k p) i) (up d (below k (λ y. x && p y))) a b (λ i l. worth_each x d k p i)

found : (x s p : Bool) → x ≡ true → s ≡ false → (s || (x && p)) ≡ p
found x s p e f = ap₂ (λ (a b : Bool). a || (b && p)) f e

module _ (n w r w2 r2 : ℕ) (low1 low2 s s1 s2 s3 : List ℕ) (x1 x2 x3 : Bool) (four : length s ≡ 4 * n)
    (first : Joined (λ i. x1 && up (64 * n * 1) (below (64 * n) (spread_by w r n low1 (set_at s n 0))) i) s s1)
    (second : Joined (λ i. x2 && up (64 * n * 2) (below (64 * n) (spread_by w2 r2 n low2 (set_at s1 n 0))) i) s1 s2)
    (both : Joined (λ i. x3 && up (64 * n * 3) (below (64 * n) (spread_by w r n low1 (spread_by w2 r2 n low2 (set_at s2 n 0)))) i) s2 s3) where
  abbrev in1 : ℕ → Bool
  in1 y = x1 && spread_by w r n low1 (set_at s n 0) y

  abbrev in2 : ℕ → Bool
  in2 y = x2 && spread_by w2 r2 n low2 (set_at s1 n 0) y

  abbrev in3 : ℕ → Bool
  in3 y = x3 && spread_by w r n low1 (spread_by w2 r2 n low2 (set_at s2 n 0)) y

  four1 : length s1 ≡ 4 * n
  four1 = first.size ∙ four

  four2 : length s2 ≡ 4 * n
  four2 = second.size ∙ four1

  grown1 : Joined (up (64 * n * 1) (below (64 * n) in1)) s s1
  grown1 = worth_in x1 (64 * n * 1) (64 * n) (spread_by w r n low1 (set_at s n 0)) s s1 first

  grown2 : Joined (up (64 * n * 2) (below (64 * n) in2)) s1 s2
  grown2 = worth_in x2 (64 * n * 2) (64 * n) (spread_by w2 r2 n low2 (set_at s1 n 0)) s1 s2 second

  grown3 : Joined (up (64 * n * 3) (below (64 * n) in3)) s2 s3
  grown3 = worth_in x3 (64 * n * 3) (64 * n) (spread_by w r n low1 (spread_by w2 r2 n low2 (set_at s2 n 0))) s2 s3 both

  kept1 : (y : ℕ) → y < 64 * n → set_at s1 n 0 y ≡ set_at s n 0 y
  kept1 y l = set_before n 1 in1 s s1 four grown1 y l 0 (omega arith) (omega arith)

  kept2 : (y : ℕ) → y < 64 * n → set_at s2 n 0 y ≡ set_at s n 0 y
  kept2 y l = set_before n 2 in2 s1 s2 four1 grown2 y l 0 (omega arith) (omega arith) ∙ kept1 y l

  pub unset_all : (worth : ℕ) → x1 ≡ bit worth 1 → x2 ≡ bit worth 2 → x3 ≡ bit worth 3 → Unset worth n w r w2 r2 low1 low2 s s3
  unset_all worth e1 e2 e3 =
      record {
        long = both.size ∙ second.size ∙ first.size;
        kept = λ y l. set_before n 3 in3 s2 s3 four2 grown3 y l 0 (omega arith) (omega arith) ∙ kept2 y l;
        first =
            λ e none y l.
            set_before n 3 in3 s2 s3 four2 grown3 y l 1 (omega arith) (omega arith)
            ∙ set_before n 2 in2 s1 s2 four1 grown2 y l 1 (omega arith) (omega arith)
            ∙ set_here n 1 in1 s s1 four grown1 y l (omega arith)
            ∙ found x1 (set_at s n 1 y) (spread_by w r n low1 (set_at s n 0) y) (e1 ∙ e) (none y l);
        second =
            λ e none y l.
            set_before n 3 in3 s2 s3 four2 grown3 y l 2 (omega arith) (omega arith)
            ∙ set_here n 2 in2 s1 s2 four1 grown2 y l (omega arith)
            ∙ found x2 (set_at s1 n 2 y) (spread_by w2 r2 n low2 (set_at s1 n 0) y) (e2 ∙ e) (set_after n 1 in1 s s1 four grown1 y l 2 (omega arith) (omega arith) ∙ none y l)
            ∙ spread_same w2 r2 n low2 (set_at s1 n 0) (set_at s n 0) kept1 y;
        both =
            λ e none y l.
            set_here n 3 in3 s2 s3 four2 grown3 y l (omega arith)
            ∙ found x3 (set_at s2 n 3 y) (spread_by w r n low1 (spread_by w2 r2 n low2 (set_at s2 n 0)) y) (e3 ∙ e)
            (set_after n 2 in2 s1 s2 four1 grown2 y l 3 (omega arith) (omega arith)
            ∙ set_after n 1 in1 s s1 four grown1 y l 3 (omega arith) (omega arith)
            ∙ none y l)
            ∙ spread_same w r n low1 (spread_by w2 r2 n low2 (set_at s2 n 0)) (spread_by w2 r2 n low2 (set_at s n 0))
            (λ z k. spread_same w2 r2 n low2 (set_at s2 n 0) (set_at s n 0) kept2 z) y;
      }
