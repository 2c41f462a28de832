-- Sets in words. Assumes nothing.
use mathlib.Core.Path.{◌≡◌, refl, sym, ap, ap₂, subst, ◌∙◌}
use mathlib.Core.Bool.{Bool, true, false, ◌&&◌, ◌||◌, and-false, and-true, or-false, or_assoc}
use mathlib.Core.List.{List}
use Prim.Native.Nat.{ℕ, ◌+◌, ◌-◌, ◌*◌, ◌/◌, ◌%◌, ◌^◌, ◌≤◌, ◌<◌}
use native.Mathlib.Decide.{dec_lt, dec_le, ℕ_discrete}
use native.Mathlib.Omega.{arith}
use borrow.Author.Tests.{lt-ltb, le-ltb, le-leb, lt-leb, eq-eqb, ne_eqb}
use lib.Dec.{eqb, leb, ltb}
use lib.ListN.{length, get_or, set, length-set, get_or-eq_default}
use lib.Seq.{get_or-set_same, get_or-set_other}
use lib.Bits.{bit_and, bit_or}
use Rattle.words.specs.Words.{bit, mem, Bits, Joined, up, below, meet}
use Rattle.words.proofs.Bit.{bit_or_lem, bit_and_lem, bit_zero, bit_past, bit_shr, bit_shl, bit_shl_twice}

-- membership is a bit of a word
pub mem_at : (s : List ℕ) (i k j : ℕ) → i ≡ 64 * k + j → j < 64 → mem s i ≡ bit (get_or s k 0) j
unfolding mem
mem_at s i k j e h =
    let word : i / 64 ≡ k = omega arith in
    let place : i % 64 ≡ j = omega arith in
    ap₂ (λ (x y : ℕ). bit (get_or s x 0) y) word place

-- nothing is past the end
pub mem-past : (s : List ℕ) (i : ℕ) → 64 * length s ≤ i → mem s i ≡ false
unfolding mem
mem-past s i h = ap (λ (x : ℕ). bit x (i % 64)) (get_or-eq_default s 0 (omega arith)) ∙ bit_zero (i % 64)

-- one word is set
module _ (s : List ℕ) (k v : ℕ) (h : k < length s) (i : ℕ) where
  pub mem-here : i / 64 ≡ k → mem (set s k v) i ≡ bit v (i % 64)
  unfolding mem
  mem-here e = ap (λ (b : ℕ). bit b (i % 64)) (ap (λ (x : ℕ). get_or (set s k v) x 0) e ∙ get_or-set_same s k v 0 h)

  pub mem_other : (i / 64 ≡ k → ⊥) → mem (set s k v) i ≡ mem s i
  unfolding mem
  mem_other d = ap (λ (b : ℕ). bit b (i % 64)) (get_or-set_other s k (i / 64) v 0 d)

-- a word of 64 bits from anywhere
module _ (s : List ℕ) (at x y : ℕ) (ex : x ≡ get_or s (at / 64) 0) (ey : y ≡ get_or s (at / 64 + 1) 0) (small : x < 2 ^ 64) where
  word_by : (j : ℕ) → Dec (j < 64) → Dec (at % 64 + j < 64)
      → (bit x (at % 64 + j) || (ltb j 64 && (ltb (63 - at % 64) j && bit y (j - (63 - at % 64 + 1))))) ≡ (ltb j 64 && mem s (at + j))
  word_by j (no h) e = simp (le-ltb j 64 (omega arith), bit_past 64 x (at % 64 + j) small (omega arith))
  word_by j (yes h) (yes l) =
      simp (lt-ltb j 64 h, le-ltb (63 - at % 64) j (omega arith), mem_at s (at + j) (at / 64) (at % 64 + j) (omega arith) l, or-false, ← ex)
  word_by j (yes h) (no l) =
      simp (
        lt-ltb j 64 h,
        lt-ltb (63 - at % 64) j (omega arith),
        mem_at s (at + j) (at / 64 + 1) (j - (63 - at % 64 + 1)) (omega arith) (omega arith),
        bit_past 64 x (at % 64 + j) small (omega arith),
        ← ey,
      )

  pub word_bits : Bits 64 (λ j. mem s (at + j)) (bit_or (x / 2 ^ (at % 64)) (y * 2 ^ 1 % 2 ^ 64 * 2 ^ (63 - at % 64) % 2 ^ 64))
  word_bits =
      record {
        bits =
            λ j. bit_or_lem (x / 2 ^ (at % 64)) (y * 2 ^ 1 % 2 ^ 64 * 2 ^ (63 - at % 64) % 2 ^ 64) j
            ∙ ap₂ (λ (a b : Bool). a || b) (bit_shr x (at % 64) j) (bit_shl_twice y (63 - at % 64) j)
            ∙ word_by j (dec_lt j 64) (dec_lt (at % 64 + j) 64);
      }

-- sets that grow
pub join_none : (p : ℕ → Bool) (s : List ℕ) → ((i : ℕ) → i < 64 * length s → p i ≡ false) → Joined p s s
join_none p s h = record { size = refl; all = λ i l. sym (or-false (mem s i)) ∙ ap (λ (b : Bool). mem s i || b) (sym (h i l)) }

pub join_join : (p q : ℕ → Bool) (a b c : List ℕ) → Joined p a b → Joined q b c → Joined (λ i. p i || q i) a c
join_join p q a b c x y =
    record {
      size = y.size ∙ x.size;
      all = λ i l. y.all i (subst (λ (n : ℕ). i < 64 * n) (sym x.size) l) ∙ ap (λ (t : Bool). t || q i) (x.all i l) ∙ or_assoc (mem a i) (p i) (q i);
    }

pub join_same : (p q : ℕ → Bool) (a b : List ℕ) → ((i : ℕ) → i < 64 * length a → p i ≡ q i) → Joined p a b → Joined q a b
join_same p q a b h x = record { size = x.size; all = λ i l. x.all i l ∙ ap (λ (t : Bool). mem a i || t) (h i l) }

-- one word
abbrev in_word : ℕ → ℕ → ℕ → Bool
in_word k x i = eqb (i / 64) k && bit x (i % 64)

module _ (s : List ℕ) (k x : ℕ) where
  pub or_past : length s ≤ k → Joined (in_word k x) s s
  or_past h = join_none (in_word k x) s (λ i l. simp (ne_eqb (i / 64) k (λ e. omega arith)))

  module _ (h : k < length s) where
    or-by : (i : ℕ) → Dec (i / 64 ≡ k) → mem (set s k (bit_or (get_or s k 0) x)) i ≡ (mem s i || in_word k x i)
    or-by i (yes e) =
        mem-here s k (bit_or (get_or s k 0) x) h i e
        ∙ bit_or_lem (get_or s k 0) x (i % 64)
        ∙ simp (eq-eqb (i / 64) k e, mem_at s i k (i % 64) (omega arith) (omega arith))
    or-by i (no d) = mem_other s k (bit_or (get_or s k 0) x) h i d ∙ simp (ne_eqb (i / 64) k d, or-false)

    pub or_here : Joined (in_word k x) s (set s k (bit_or (get_or s k 0) x))
    or_here = record { size = length-set s k (bit_or (get_or s k 0) x); all = λ i l. or-by i (ℕ_discrete (i / 64) k) }

-- two words
module _ (at x i : ℕ) (small : x < 2 ^ 64) where
  two_by : Dec (i / 64 < at / 64) → Dec (i / 64 ≡ at / 64) → Dec (i / 64 ≡ at / 64 + 1) → Dec (at ≤ i)
      → (in_word (at / 64) (x * 2 ^ (at % 64) % 2 ^ 64) i || in_word (at / 64 + 1) (x / 2 ^ 1 / 2 ^ (63 - at % 64)) i) ≡ up at (bit x) i
  unfolding up
  two_by (yes h) e f g = simp (ne_eqb (i / 64) (at / 64) (λ q. omega arith), ne_eqb (i / 64) (at / 64 + 1) (λ q. omega arith), lt-leb at i (omega arith))
  two_by (no h) (yes e) f (yes g) =
      let d : i % 64 - at % 64 ≡ i - at = omega arith in
      ap (λ (b : Bool). (eqb (i / 64) (at / 64) && b) || in_word (at / 64 + 1) (x / 2 ^ 1 / 2 ^ (63 - at % 64)) i) (bit_shl x (at % 64) (i % 64))
      ∙ simp (eq-eqb (i / 64) (at / 64) e, ne_eqb (i / 64) (at / 64 + 1) (λ q. omega arith), lt-ltb (i % 64) 64 (omega arith), le-leb (at % 64) (i % 64) (omega arith), le-leb at i g, or-false, d)
  two_by (no h) (yes e) f (no g) =
      ap (λ (b : Bool). (eqb (i / 64) (at / 64) && b) || in_word (at / 64 + 1) (x / 2 ^ 1 / 2 ^ (63 - at % 64)) i) (bit_shl x (at % 64) (i % 64))
      ∙ simp (ne_eqb (i / 64) (at / 64 + 1) (λ q. omega arith), lt-leb (at % 64) (i % 64) (omega arith), lt-leb at i (omega arith), and-false)
  two_by (no h) (no e) (yes f) g =
      let d : 1 + (63 - at % 64 + i % 64) ≡ i - at = omega arith in
      ap (λ (b : Bool). in_word (at / 64) (x * 2 ^ (at % 64) % 2 ^ 64) i || (eqb (i / 64) (at / 64 + 1) && b))
      (bit_shr (x / 2 ^ 1) (63 - at % 64) (i % 64) ∙ bit_shr x 1 (63 - at % 64 + i % 64))
      ∙ simp (ne_eqb (i / 64) (at / 64) e, eq-eqb (i / 64) (at / 64 + 1) f, le-leb at i (omega arith), d)
  two_by (no h) (no e) (no f) g =
      simp (ne_eqb (i / 64) (at / 64) e, ne_eqb (i / 64) (at / 64 + 1) f, bit_past 64 x (i - at) small (omega arith), and-false)

  two : (in_word (at / 64) (x * 2 ^ (at % 64) % 2 ^ 64) i || in_word (at / 64 + 1) (x / 2 ^ 1 / 2 ^ (63 - at % 64)) i) ≡ up at (bit x) i
  two = two_by (dec_lt (i / 64) (at / 64)) (ℕ_discrete (i / 64) (at / 64)) (ℕ_discrete (i / 64) (at / 64 + 1)) (dec_le at i)

pub or_two : (at x : ℕ) (a b c : List ℕ) → x < 2 ^ 64
    → Joined (in_word (at / 64) (x * 2 ^ (at % 64) % 2 ^ 64)) a b → Joined (in_word (at / 64 + 1) (x / 2 ^ 1 / 2 ^ (63 - at % 64))) b c → Joined (up at (bit x)) a c
or_two at x a b c small y z =
    join_same (λ i. in_word (at / 64) (x * 2 ^ (at % 64) % 2 ^ 64) i || in_word (at / 64 + 1) (x / 2 ^ 1 / 2 ^ (63 - at % 64)) i) (up at (bit x)) a c
    (λ i l. two at x i small)
    (join_join (in_word (at / 64) (x * 2 ^ (at % 64) % 2 ^ 64)) (in_word (at / 64 + 1) (x / 2 ^ 1 / 2 ^ (63 - at % 64))) a b c y z)

-- bits that are known are put in
pub joined-bits : (d w : ℕ) (p : ℕ → Bool) (x : ℕ) (a b : List ℕ) → Bits w p x → Joined (up d (bit x)) a b → Joined (up d (below w p)) a b
unfolding up below
joined-bits d w p x a b k = join_same (up d (bit x)) (up d (below w p)) a b (λ i l. ap (λ (t : Bool). leb d i && t) (k.bits (i - d)))

same_and : (a b c : Bool) → ((a && b) && (a && c)) ≡ (a && (b && c))
same_and true b c = refl
same_and false b c = refl

pub and_bits : (w : ℕ) (p q : ℕ → Bool) (x y : ℕ) → Bits w p x → Bits w q y → Bits w (λ j. p j && q j) (bit_and x y)
and_bits w p q x y a b =
    record { bits = λ j. bit_and_lem x y j ∙ ap₂ (λ (s t : Bool). s && t) (a.bits j) (b.bits j) ∙ same_and (ltb j w) (p j) (q j) }

pub low_bits : (r : ℕ) (p : ℕ → Bool) (x l : ℕ) → r ≤ 64 → Bits 64 p x → ((j : ℕ) → bit l j ≡ ltb j r) → Bits r p (bit_and x l)
low_bits r p x l h a b =
    record { bits = λ j. bit_and_lem x l j ∙ ap₂ (λ (s t : Bool). s && t) (a.bits j) (b j) ∙ by j (dec_lt j r) }
  where
    by : (j : ℕ) → Dec (j < r) → ((ltb j 64 && p j) && ltb j r) ≡ (ltb j r && p j)
    by j (yes l) = simp (lt-ltb j r l, lt-ltb j 64 (omega arith), and-true)
    by j (no l) = simp (le-ltb j r (omega arith), and-false)

-- a range goes on
module _ (d n w : ℕ) (f : ℕ → Bool) (i : ℕ) where
  more_by : Dec (i < d) → Dec (i < d + n) → Dec (i < d + n + w) → (up d (below n f) i || up (d + n) (below w (λ j. f (n + j))) i) ≡ up d (below (n + w) f) i
  unfolding up below
  more_by (yes h) e g = simp (lt-leb d i h, lt-leb (d + n) i (omega arith))
  more_by (no h) (yes e) g =
      simp (le-leb d i (omega arith), lt-ltb (i - d) n (omega arith), lt-leb (d + n) i e, lt-ltb (i - d) (n + w) (omega arith), or-false)
  more_by (no h) (no e) (yes g) =
      let at : n + (i - (d + n)) ≡ i - d = omega arith in
      simp (le-leb d i (omega arith), le-ltb (i - d) n (omega arith), le-leb (d + n) i (omega arith), lt-ltb (i - (d + n)) w (omega arith), lt-ltb (i - d) (n + w) (omega arith), at)
  more_by (no h) (no e) (no g) =
      simp (le-ltb (i - d) n (omega arith), le-ltb (i - (d + n)) w (omega arith), le-ltb (i - d) (n + w) (omega arith), and-false)

  pub up_more : (up d (below n f) i || up (d + n) (below w (λ j. f (n + j))) i) ≡ up d (below (n + w) f) i
  up_more = more_by (dec_lt i d) (dec_lt i (d + n)) (dec_lt i (d + n + w))

module _ (d s m : ℕ) (src mask : List ℕ) where
  pub range_none : (a : List ℕ) → Joined (up d (below 0 (meet src s mask m))) a a
  unfolding up below
  range_none a = join_none (up d (below 0 (meet src s mask m))) a (λ i l. simp (le-ltb (i - d) 0 (omega arith), and-false))

  module _ (n w k : ℕ) (e : n + w ≡ k) (a b c : List ℕ) where
    pub range_more : Joined (up d (below n (meet src s mask m))) a b → Joined (up (d + n) (below w (meet src (s + n) mask (m + n)))) b c
        → Joined (up d (below k (meet src s mask m))) a c
    unfolding meet
    range_more x y =
        join_same (λ i. up d (below n (meet src s mask m)) i || up (d + n) (below w (meet src (s + n) mask (m + n))) i) (up d (below k (meet src s mask m))) a c
        (λ i l. ap (λ (g : ℕ → Bool). up d (below n (meet src s mask m)) i || up (d + n) (below w g) i) (λ t j. on j t) ∙ up_more d n w (meet src s mask m) i
        ∙ ap (λ (x : ℕ). up d (below x (meet src s mask m)) i) e)
        (join_join (up d (below n (meet src s mask m))) (up (d + n) (below w (meet src (s + n) mask (m + n)))) a b c x y)
      where
        on : (j : ℕ) → meet src (s + n) mask (m + n) j ≡ meet src s mask m (n + j)
        on j =
            let p : s + n + j ≡ s + (n + j) = omega arith in
            let q : m + n + j ≡ m + (n + j) = omega arith in
            ap₂ (λ (x y : ℕ). mem src x && mem mask y) p q

-- a set that is written word by word
module _ (p : ℕ → Bool) (s : List ℕ) (w v : ℕ) (h : w < length s) (b : Bits 64 (λ j. p (64 * w + j)) v) (done : (i : ℕ) → i < 64 * w → mem s i ≡ p i) where
  fill_by : (i : ℕ) → i < 64 * (w + 1) → Dec (i < 64 * w) → mem (set s w v) i ≡ p i
  fill_by i l (yes e) = mem_other s w v h i (λ q. omega arith) ∙ done i e
  fill_by i l (no e) =
      let n : 64 * w + i % 64 ≡ i = omega arith in
      mem-here s w v h i (omega arith) ∙ b.bits (i % 64) ∙ simp (lt-ltb (i % 64) 64 (omega arith), n)

  pub fill_word : (i : ℕ) → i < 64 * (w + 1) → mem (set s w v) i ≡ p i
  fill_word i l = fill_by i l (dec_lt i (64 * w))

-- one word of a set, known by its bits, is put in
module _ (k at x : ℕ) (p : ℕ → Bool) (e : at ≡ 64 * k) (b : Bits 64 p x) (i : ℕ) where
  aligned_by : Dec (i < at) → Dec (i / 64 ≡ k) → in_word k x i ≡ up at (below 64 p) i
  unfolding up below
  aligned_by (yes h) d = simp (ne_eqb (i / 64) k (λ q. omega arith), lt-leb at i h)
  aligned_by (no h) (yes d) =
      let n : i % 64 ≡ i - at = omega arith in
      ap (λ (t : Bool). eqb (i / 64) k && t) (b.bits (i % 64)) ∙ simp (eq-eqb (i / 64) k d, le-leb at i (omega arith), n)
  aligned_by (no h) (no d) = simp (ne_eqb (i / 64) k d, le-ltb (i - at) 64 (omega arith), and-false)

pub or_aligned : (s : List ℕ) (k at x : ℕ) (p : ℕ → Bool) → k < length s → at ≡ 64 * k → Bits 64 p x → Joined (up at (below 64 p)) s (set s k (bit_or (get_or s k 0) x))
or_aligned s k at x p h e b =
    join_same (in_word k x) (up at (below 64 p)) s (set s k (bit_or (get_or s k 0) x)) (λ i l. aligned_by k at x p e b i (dec_lt i at) (ℕ_discrete (i / 64) k)) (or_here s k x h)

pub meet-bits : (src mask : List ℕ) (s t m n x y : ℕ) → s ≡ t → m ≡ n → Bits 64 (λ j. mem src (s + j)) x → Bits 64 (λ j. mem mask (m + j)) y → Bits 64 (meet src t mask n) (bit_and x y)
unfolding meet
meet-bits src mask s t m n x y e f a b =
    and_bits 64 (λ j. mem src (t + j)) (λ j. mem mask (n + j)) x y
    (subst (λ (q : ℕ). Bits 64 (λ j. mem src (q + j)) x) e a)
    (subst (λ (q : ℕ). Bits 64 (λ j. mem mask (q + j)) y) f b)

pub pair_bits : (s : List ℕ) (k r x y : ℕ) → r < 64 → x ≡ get_or s k 0 → y ≡ get_or s (k + 1) 0 → x < 2 ^ 64
    → Bits 64 (λ j. mem s (64 * k + r + j)) (bit_or (x / 2 ^ r) (y * 2 ^ 1 % 2 ^ 64 * 2 ^ (63 - r) % 2 ^ 64))
pair_bits s k r x y h ex ey small =
    let word : k ≡ (64 * k + r) / 64 = omega arith in
    let place : (64 * k + r) % 64 ≡ r = omega arith in
    subst (λ (q : ℕ). Bits 64 (λ j. mem s (64 * k + r + j)) (bit_or (x / 2 ^ q) (y * 2 ^ 1 % 2 ^ 64 * 2 ^ (63 - q) % 2 ^ 64))) place
    (word_bits s (64 * k + r) x y (ex ∙ ap (λ (q : ℕ). get_or s q 0) word) (ey ∙ ap (λ (q : ℕ). get_or s (q + 1) 0) word) small)

pub moved : (d d' s s' m m' n : ℕ) (src mask a b : List ℕ) → d ≡ d' → s ≡ s' → m ≡ m'
    → Joined (up d (below n (meet src s mask m))) a b → Joined (up d' (below n (meet src s' mask m'))) a b
moved d d' s s' m m' n src mask a b e f g x =
    subst (λ (q : ℕ). Joined (up q (below n (meet src s' mask m'))) a b) e
    (subst (λ (q : ℕ). Joined (up d (below n (meet src q mask m'))) a b) f
    (subst (λ (q : ℕ). Joined (up d (below n (meet src s mask q))) a b) g x))
