-- Four sets in one buffer, and single sets of n words: what is put in, folded and spread. Assumes nothing.
use mathlib.Core.Path.{◌≡◌, refl, sym, ap, ap₂, subst, ◌∙◌}
use mathlib.Core.Bool.{Bool, true, false, ◌&&◌, ◌||◌, or-false, and-false}
use mathlib.Core.List.{List}
use Prim.Native.Nat.{ℕ, ◌+◌, ◌-◌, ◌*◌, ◌≤◌, ◌<◌}
use native.Mathlib.Nat.{mul-le-mul_left}
use native.Mathlib.Decide.{dec_lt}
use native.Mathlib.Omega.{arith}
use borrow.Author.Tests.{lt-ltb, le-ltb, le-leb, lt-leb}
use lib.Dec.{leb, ltb}
use lib.ListN.{length}
use Rattle.words.specs.Words.{mem, Is, Joined, up, below, meet, any_below}
use Rattle.words.proofs.Sets.{mem-past, join_none, join_join}
use Rattle.words.proofs.AnyBelow.{any_none}
use Rattle.firings.proofs.Bounds.{product}
use Rattle.firings.specs.Folded.{set_at, folded_by, spread_by, reset_sets}
use Rattle.images.proofs.LiveLaws.{none_is}

-- sets that agree below k, cut there
pub below-same : (k : ℕ) (p q : ℕ → Bool) → ((y : ℕ) → y < k → p y ≡ q y) → below k p ≡ below k q
unfolding below
below-same k p q e t i = by (dec_lt i k) t
  where
    by : Dec (i < k) → (ltb i k && p i) ≡ (ltb i k && q i)
    by (yes l) = ap (λ (b : Bool). ltb i k && b) (e i l)
    by (no l) = simp (le-ltb i k (omega arith))

-- a set of n words has nothing from 64 * n on
pub mem_is : (n : ℕ) (s : List ℕ) (p : ℕ → Bool) → length s ≡ n → ((y : ℕ) → y < 64 * n → mem s y ≡ p y) → mem s ≡ below (64 * n) p
unfolding below
mem_is n s p h e t i = by (dec_lt i (64 * n)) t
  where
    by : Dec (i < 64 * n) → mem s i ≡ (ltb i (64 * n) && p i)
    by (yes l) = e i l ∙ simp (lt-ltb i (64 * n) l)
    by (no l) = mem-past s i (omega arith) ∙ simp (le-ltb i (64 * n) (omega arith))

pub below_in : (k : ℕ) (p : ℕ → Bool) (i : ℕ) → i < k → below k p i ≡ p i
unfolding below
below_in k p i l = simp (lt-ltb i k l)

-- moved to the start
pub up_none : (p : ℕ → Bool) (i : ℕ) → up 0 p i ≡ p i
unfolding up
up_none p i =
    let at : i - 0 ≡ i = omega arith in
    ap₂ (λ (a : Bool) (x : ℕ). a && p x) (le-leb 0 i (omega arith)) at

-- what a set at a place holds, there and elsewhere
module _ (d k : ℕ) (p : ℕ → Bool) where
  pub up-here : (x i : ℕ) → x ≡ d + i → i < k → up d (below k p) x ≡ p i
  unfolding up below
  up-here x i e l =
      let z : x - d ≡ i = omega arith in
      simp (le-leb d x (omega arith), z, lt-ltb i k l)

  pub up-before : (x : ℕ) → x < d → up d (below k p) x ≡ false
  unfolding up
  up-before x l = simp (lt-leb d x l)

  pub up-past : (x : ℕ) → d + k ≤ x → up d (below k p) x ≡ false
  unfolding up below
  up-past x l = simp (le-ltb (x - d) k (omega arith), and-false)

-- places of sets are far from the end of numbers
pub set_near : (n r : ℕ) → n ≤ 1024 → r < 4 → 64 * n * r < 262148
set_near n r h l = product 65537 4 (64 * n) r (omega arith) l

-- a range and its mask from places on
pub both-same : (a : Bool) → (a && a) ≡ a
both-same true = refl
both-same false = refl

pub meet_self : (s : List ℕ) (n r y : ℕ) → meet s (64 * n * r) s (64 * n * r) y ≡ set_at s n r y
unfolding meet set_at
meet_self s n r y = both-same (mem s (64 * n * r + y))

pub meet-start : (s t : List ℕ) (y : ℕ) → meet s 0 t 0 y ≡ (mem s y && mem t y)
unfolding meet
meet-start s t y =
    let at : 0 + y ≡ y = omega arith in
    ap (λ (x : ℕ). mem s x && mem t x) at

pub set_first : (s : List ℕ) (n y : ℕ) → set_at s n 0 y ≡ mem s y
unfolding set_at
set_first s n y =
    let at : 64 * n * 0 + y ≡ y = omega arith in
    ap (mem s) at

-- what is put into an empty set
pub filled : (p : ℕ → Bool) (a b c : List ℕ) → Is (λ i. false) a b → Joined p b c → Is p a c
filled p a b c e j =
    record {
      size = j.size ∙ e.size;
      all = λ i l. j.all i (subst (λ (n : ℕ). i < 64 * n) (sym e.size) l) ∙ ap (λ (t : Bool). t || p i) (e.all i l);
    }

-- one set of four grows
module _ (n t : ℕ) (p : ℕ → Bool) (a b : List ℕ) (four : length a ≡ 4 * n) (grown : Joined (up (64 * n * t) (below (64 * n) p)) a b) (y : ℕ) (l : y < 64 * n) where
  room : (r : ℕ) → r < 4 → 64 * n * r + y < 64 * length a
  room r h = omega (arith, mul-le-mul_left {m = r + 1} {n = 4} (64 * n) (omega arith))

  pub set_here : t < 4 → set_at b n t y ≡ (set_at a n t y || p y)
  unfolding set_at
  set_here h =
      grown.all (64 * n * t + y) (room t h)
      ∙ ap (λ (x : Bool). mem a (64 * n * t + y) || x) (up-here (64 * n * t) (64 * n) p (64 * n * t + y) y refl l)

  pub set_before : (r : ℕ) → r < 4 → r < t → set_at b n r y ≡ set_at a n r y
  unfolding set_at
  set_before r h k =
      grown.all (64 * n * r + y) (room r h)
      ∙ ap (λ (x : Bool). mem a (64 * n * r + y) || x)
      (up-before (64 * n * t) (64 * n) p (64 * n * r + y) (omega (arith, mul-le-mul_left {m = r + 1} {n = t} (64 * n) (omega arith))))
      ∙ or-false (mem a (64 * n * r + y))

  pub set_after : (r : ℕ) → r < 4 → t < r → set_at b n r y ≡ set_at a n r y
  unfolding set_at
  set_after r h k =
      grown.all (64 * n * r + y) (room r h)
      ∙ ap (λ (x : Bool). mem a (64 * n * r + y) || x)
      (up-past (64 * n * t) (64 * n) p (64 * n * r + y) (omega (arith, mul-le-mul_left {m = t + 1} {n = r} (64 * n) (omega arith))))
      ∙ or-false (mem a (64 * n * r + y))

-- what is put in is known below its end only
pub joined_same : (d k : ℕ) (p q : ℕ → Bool) (a b : List ℕ) → ((y : ℕ) → y < k → p y ≡ q y) → Joined (up d (below k p)) a b → Joined (up d (below k q)) a b
joined_same d k p q a b e j = subst (λ (f : ℕ → Bool). Joined (up d f) a b) (below-same k p q e) j

-- a set goes over as a whole
pub put_whole : (d k : ℕ) (p : ℕ → Bool) (s a b : List ℕ) → ((y : ℕ) → y < k → mem s y ≡ p y)
    → Joined (up d (below k (meet s 0 s 0))) a b → Joined (up d (below k p)) a b
put_whole d k p s a b e = joined_same d k (meet s 0 s 0) p a b (λ y l. meet-start s s y ∙ both-same (mem s y) ∙ e y l)

-- the definitions ask of a set only what is below its end
module _ (w r n : ℕ) (low : List ℕ) (s t : ℕ → Bool) (e : (y : ℕ) → y < 64 * n → s y ≡ t y) (i : ℕ) where
  pub folded_same : folded_by w r n low s i ≡ folded_by w r n low t i
  unfolding folded_by
  folded_same = ap (λ (f : ℕ → Bool). any_below (λ d. f (i + w * d)) r && mem low i) (below-same (64 * n) s t e)

  pub spread_same : spread_by w r n low s i ≡ spread_by w r n low t i
  unfolding spread_by
  spread_same =
      ap (λ (f : ℕ → Bool). any_below (λ d. up (w * d) f i) r)
      (below-same (64 * n) (λ y. s y && mem low y) (λ y. t y && mem low y) (λ y l. ap (λ (b : Bool). b && mem low y) (e y l)))

pub folded_at : (w r n : ℕ) (low : List ℕ) (s : ℕ → Bool) (i : ℕ) → folded_by w r n low s i ≡ (any_below (λ d. below (64 * n) s (i + w * d)) r && mem low i)
unfolding folded_by
folded_at w r n low s i = refl

-- a buffer in which no number is found
none_in : (s : List ℕ) → any_below (mem s) (64 * length s) ≡ false → (i : ℕ) → mem s i ≡ false
none_in s e i = by (dec_lt i (64 * length s))
  where
    by : Dec (i < 64 * length s) → mem s i ≡ false
    by (yes l) = none_is (mem s) (64 * length s) i e l
    by (no l) = mem-past s i (omega arith)

pub up_false : (d k i : ℕ) → up d (below k (λ y. false)) i ≡ false
unfolding up below
up_false d k i = simp and-false

up-empty : (d : ℕ) (p : ℕ → Bool) → ((y : ℕ) → p y ≡ false) → (i : ℕ) → up d p i ≡ false
unfolding up
up-empty d p e i = ap (λ (x : Bool). leb d i && x) (e (i - d)) ∙ and-false (leb d i)

-- set `from` alone
module _ (n from : ℕ) (b one one1 one2 : List ℕ) (h : length one ≡ n) (clear : Is (λ i. false) one one1)
    (range : Joined (up 0 (below (64 * n) (meet b (64 * n * from) b (64 * n * from)))) one1 one2) where
  alone : mem one2 ≡ below (64 * n) (set_at b n from)
  alone = mem_is n one2 (set_at b n from) (range.size ∙ clear.size ∙ h) on
    where
      on : (y : ℕ) → y < 64 * n → mem one2 y ≡ set_at b n from y
      on y l =
          (filled _ one one1 one2 clear range).all y (omega arith)
          ∙ up_none (below (64 * n) (meet b (64 * n * from) b (64 * n * from))) y
          ∙ below_in (64 * n) (meet b (64 * n * from) b (64 * n * from)) y l
          ∙ meet_self b n from y

  -- .. folded
  pub fold_some : (w r to : ℕ) (low one3 b' : List ℕ) → Is (λ i. any_below (λ d. mem one2 (i + w * d)) r) one2 one3
      → Joined (up (64 * n * to) (below (64 * n) (meet one3 0 low 0))) b b'
      → Joined (up (64 * n * to) (below (64 * n) (folded_by w r n low (set_at b n from)))) b b'
  fold_some w r to low one3 b' down put = joined_same (64 * n * to) (64 * n) (meet one3 0 low 0) (folded_by w r n low (set_at b n from)) b b' on put
    where
      on : (y : ℕ) → y < 64 * n → meet one3 0 low 0 y ≡ folded_by w r n low (set_at b n from) y
      on y l =
          meet-start one3 low y
          ∙ ap (λ (x : Bool). x && mem low y)
          (down.all y (omega (arith, range.size, clear.size))
          ∙ ap (λ (f : ℕ → Bool). any_below (λ d. f (y + w * d)) r) alone)
          ∙ sym (folded_at w r n low (set_at b n from) y)

-- where set `from` is empty, nothing goes over
set_none : (b : List ℕ) (n r : ℕ) (found : Bool) → found ≡ any_below (λ i. mem b (64 * n * r + i)) (64 * n) → found ≡ false
    → (y : ℕ) → y < 64 * n → set_at b n r y ≡ false
unfolding set_at
set_none b n r found e f y l = none_is (λ i. mem b (64 * n * r + i)) (64 * n) y (sym e ∙ f) l

folded_none : (w r n : ℕ) (low : List ℕ) (i : ℕ) → folded_by w r n low (λ y. false) i ≡ false
unfolding folded_by below
folded_none w r n low i =
    ap (λ (x : Bool). x && mem low i) (any_none (λ d. ltb (i + w * d) (64 * n) && false) r (λ d k. and-false (ltb (i + w * d) (64 * n))))

pub fold_none : (n from : ℕ) (b : List ℕ) (w r to : ℕ) (low : List ℕ) (found : Bool)
    → found ≡ any_below (λ i. mem b (64 * n * from + i)) (64 * n) → found ≡ false
    → Joined (up (64 * n * to) (below (64 * n) (folded_by w r n low (set_at b n from)))) b b
fold_none n from b w r to low found e f =
    joined_same (64 * n * to) (64 * n) (λ y. false) (folded_by w r n low (set_at b n from)) b b
    (λ y l. sym (folded_same w r n low (set_at b n from) (λ y. false) (set_none b n from found e f) y ∙ folded_none w r n low y))
    (join_none (up (64 * n * to) (below (64 * n) (λ y. false))) b (λ i l. up_false (64 * n * to) (64 * n) i))

-- three folds, one after the other
module _ (n first second : ℕ) (low1 low2 b b1 b2 b3 : List ℕ) (four : length b ≡ 4 * n)
    (both : Joined (up (64 * n * 1) (below (64 * n) (folded_by first second n low2 (set_at b n 3)))) b b1)
    (one : Joined (up (64 * n * 0) (below (64 * n) (folded_by 1 first n low1 (set_at b1 n 1)))) b1 b2)
    (other : Joined (up (64 * n * 0) (below (64 * n) (folded_by first second n low2 (set_at b2 n 2)))) b2 b3) where
  pub reset-sets : (i : ℕ) → i < 64 * n → mem b3 i ≡ reset_sets first second n low1 low2 b i
  unfolding reset_sets
  reset-sets i l =
      let four1 : length b1 ≡ 4 * n = both.size ∙ four in
      let four2 : length b2 ≡ 4 * n = one.size ∙ four1 in
      sym (set_first b3 n i)
      ∙ set_here n 0 (folded_by first second n low2 (set_at b2 n 2)) b2 b3 four2 other i l (omega arith)
      ∙ ap₂ (λ (x y : Bool). x || y)
      (set_here n 0 (folded_by 1 first n low1 (set_at b1 n 1)) b1 b2 four1 one i l (omega arith)
      ∙ ap₂ (λ (x y : Bool). x || y)
      (set_before n 1 (folded_by first second n low2 (set_at b n 3)) b b1 four both i l 0 (omega arith) (omega arith))
      (folded_same 1 first n low1 (set_at b1 n 1) (λ y. set_at b n 1 y || folded_by first second n low2 (set_at b n 3) y)
      (λ y k. set_here n 1 (folded_by first second n low2 (set_at b n 3)) b b1 four both y k (omega arith)) i))
      (folded_same first second n low2 (set_at b2 n 2) (set_at b n 2)
      (λ y k.
      set_after n 0 (folded_by 1 first n low1 (set_at b1 n 1)) b1 b2 four1 one y k 2 (omega arith) (omega arith)
      ∙ set_after n 1 (folded_by first second n low2 (set_at b n 3)) b b1 four both y k 2 (omega arith) (omega arith))
      i)

-- .. with the clocks' weights told by equations
pub reset_by : (n w1 w2 first second : ℕ) (low1 low2 b b1 b2 b3 : List ℕ) → length b ≡ 4 * n → w1 ≡ 1 → w2 ≡ first
    → Joined (up (64 * n * 1) (below (64 * n) (folded_by w2 second n low2 (set_at b n 3)))) b b1
    → Joined (up (64 * n * 0) (below (64 * n) (folded_by w1 first n low1 (set_at b1 n 1)))) b1 b2
    → Joined (up (64 * n * 0) (below (64 * n) (folded_by w2 second n low2 (set_at b2 n 2)))) b2 b3
    → (i : ℕ) → i < 64 * n → mem b3 i ≡ reset_sets first second n low1 low2 b i
reset_by n w1 w2 first second low1 low2 b b1 b2 b3 four e f x y z =
    reset-sets n first second low1 low2 b b1 b2 b3 four
    (subst (λ (w : ℕ). Joined (up (64 * n * 1) (below (64 * n) (folded_by w second n low2 (set_at b n 3)))) b b1) f x)
    (subst (λ (w : ℕ). Joined (up (64 * n * 0) (below (64 * n) (folded_by w first n low1 (set_at b1 n 1)))) b1 b2) e y)
    (subst (λ (w : ℕ). Joined (up (64 * n * 0) (below (64 * n) (folded_by w second n low2 (set_at b2 n 2)))) b2 b3) f z)

-- a set of n words is cut to what is at the lowest
module _ (w r n : ℕ) (low one2 : List ℕ) (s : ℕ → Bool) (h : length one2 ≡ n) (cut : (y : ℕ) → y < 64 * n → mem one2 y ≡ (s y && mem low y)) where
  cut_at : (i : ℕ) → any_below (λ d. up (w * d) (mem one2) i) r ≡ spread_by w r n low s i
  unfolding spread_by
  cut_at i = ap (λ (f : ℕ → Bool). any_below (λ d. up (w * d) f i) r) (mem_is n one2 (λ y. s y && mem low y) h cut)

  -- and spread
  pub spread-is : (one one3 : List ℕ) → length one ≡ n → Is (λ i. any_below (λ d. up (w * d) (mem one2) i) r) one2 one3 → Is (spread_by w r n low s) one one3
  spread-is one one3 k spread = record { size = spread.size ∙ h ∙ sym k; all = λ i l. spread.all i (omega arith) ∙ cut_at i }

  -- or empty, and left
  pub none_is_spread : (one : List ℕ) (found : Bool) → length one ≡ n → found ≡ any_below (mem one2) (64 * length one2) → found ≡ false → Is (spread_by w r n low s) one one2
  none_is_spread one found k e f =
      record {
        size = h ∙ sym k;
        all = λ i l. none i ∙ sym (any_none (λ d. up (w * d) (mem one2) i) r (λ d q. up-empty (w * d) (mem one2) none i)) ∙ cut_at i;
      }
    where
      none : (i : ℕ) → mem one2 i ≡ false
      none = none_in one2 (sym e ∙ f)

-- .. of set 0
module _ (w r n : ℕ) (low b one one1 one2 : List ℕ) (h : length one ≡ n) (clear : Is (λ i. false) one one1)
    (range : Joined (up 0 (below (64 * n) (meet b 0 low 0))) one1 one2) where
  first_cut : (y : ℕ) → y < 64 * n → mem one2 y ≡ (set_at b n 0 y && mem low y)
  first_cut y l =
      (filled _ one one1 one2 clear range).all y (omega arith)
      ∙ up_none (below (64 * n) (meet b 0 low 0)) y
      ∙ below_in (64 * n) (meet b 0 low 0) y l
      ∙ meet-start b low y
      ∙ ap (λ (x : Bool). x && mem low y) (sym (set_first b n y))

  pub spread-first : (one3 : List ℕ) → Is (λ i. any_below (λ d. up (w * d) (mem one2) i) r) one2 one3 → Is (spread_by w r n low (set_at b n 0)) one one3
  spread-first one3 spread = spread-is w r n low one2 (set_at b n 0) (range.size ∙ clear.size ∙ h) first_cut one one3 h spread

  pub spread_none : (found : Bool) → found ≡ any_below (mem one2) (64 * length one2) → found ≡ false → Is (spread_by w r n low (set_at b n 0)) one one2
  spread_none found e f = none_is_spread w r n low one2 (set_at b n 0) (range.size ∙ clear.size ∙ h) first_cut one found h e f

-- .. of one that stands alone
pub spread-again : (w r n : ℕ) (low one one1 one2 : List ℕ) → length one ≡ n → Is (λ i. mem one i && mem low i) one one1
    → Is (λ i. any_below (λ d. up (w * d) (mem one1) i) r) one1 one2 → Is (spread_by w r n low (mem one)) one one2
spread-again w r n low one one1 one2 h cut spread =
    spread-is w r n low one1 (mem one) (cut.size ∙ h) (λ y l. cut.all y (omega arith)) one one2 h spread

-- a single set goes into set r
pub put_set : (n r : ℕ) (p : ℕ → Bool) (before one b b' : List ℕ) → length before ≡ n → Is p before one
    → Joined (up (64 * n * r) (below (64 * n) (meet one 0 one 0))) b b' → Joined (up (64 * n * r) (below (64 * n) p)) b b'
put_set n r p before one b b' h is put =
    put_whole (64 * n * r) (64 * n) p one b b' (λ y l. is.all y (omega arith)) put

-- spread over one clock, and then over the other
pub spread-both : (w r w2 r2 n : ℕ) (low1 low2 b one one1 one2 : List ℕ) → length one ≡ n → Is (spread_by w2 r2 n low2 (set_at b n 0)) one one1
    → Is (spread_by w r n low1 (mem one1)) one1 one2 → Is (spread_by w r n low1 (spread_by w2 r2 n low2 (set_at b n 0))) one one2
spread-both w r w2 r2 n low1 low2 b one one1 one2 h first again =
    record {
      size = again.size ∙ first.size;
      all =
          λ i l.
          again.all i (omega (arith, first.size))
          ∙ spread_same w r n low1 (mem one1) (spread_by w2 r2 n low2 (set_at b n 0)) (λ y k. first.all y (omega arith)) i;
    }

-- two things are put into an empty set
pub filled_two : (p q : ℕ → Bool) (a b c d : List ℕ) → Is (λ i. false) a b → Joined p b c → Joined q c d → Is (λ i. p i || q i) a d
filled_two p q a b c d e x y = filled (λ i. p i || q i) a b d e (join_join p q b c d x y)

-- a set's first k numbers are put into an empty one
pub filled_copy : (k : ℕ) (s a b c : List ℕ) → Is (λ i. false) a b → Joined (up 0 (below k (meet s 0 s 0))) b c → Is (below k (mem s)) a c
filled_copy k s a b c e x =
    let r : Is (up 0 (below k (meet s 0 s 0))) a c = filled (up 0 (below k (meet s 0 s 0))) a b c e x in
    record {
      size = r.size;
      all =
          λ i l.
          r.all i l
          ∙ up_none (below k (meet s 0 s 0)) i
          ∙ ap (λ (f : ℕ → Bool). f i) (below-same k (meet s 0 s 0) (mem s) (λ y h. meet-start s s y ∙ both-same (mem s y)));
    }
