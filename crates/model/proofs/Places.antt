-- Where bytes stand: a list within another from an offset on, columns that end in zeros, rows one behind the other, and two-byte and four-byte numbers.
use Prim.Native.Nat.{ℕ, zero, suc, ◌+◌, ◌-◌, ◌*◌, ◌/◌, ◌%◌, ◌<◌, ◌≤◌}
use native.Mathlib.Nat.{not-suc-le-zero, add-zero, zero-add, mul-zero, mul-suc}
use native.Mathlib.Omega.{arith}
use native.Mathlib.Decide.{dec_lt}
use mathlib.Core.Path.{◌≡◌, refl, sym, ap, ap₂, subst, ◌∙◌}
use mathlib.Core.List.{List, [], ◌∷◌, ◌++◌}
use lib.ListN.{length, get_or, take, drop, replicate, length-append, length-take, length-drop, length-replicate, get_or-append}
use lib.Seq.{ext_get_or, get_or-take, get_or-drop, get_or-append-add, length-take-le}
use Rattle.model.specs.Bytes.{byte_at, word_at, word_bytes, long_at, long_bytes, tab, joined, padded}
use Rattle.model.proofs.Basics.{length-tab, get_or-tab}

abbrev pub AllBytes : List ℕ → Type 0
AllBytes b = (i : ℕ) → byte_at b i < 256

-- the list l stands in b from an offset on
abbrev pub Stands : List ℕ → ℕ → List ℕ → Type 0
Stands b at l = (i : ℕ) → i < length l → byte_at b (at + i) ≡ byte_at l i

module _ (b : List ℕ) where
  pub stands_nil : (at : ℕ) → Stands b at []
  stands_nil at i h = absurd (not-suc-le-zero h)

  pub stands_cons : (at x : ℕ) (l : List ℕ) → byte_at b at ≡ x → Stands b (at + 1) l → Stands b at (x ∷ l)
  stands_cons at x l e s zero h = rw add-zero e
  stands_cons at x l e s (suc i) h = ap (λ (k : ℕ). get_or b k 0) (omega arith) ∙ s i (omega arith)

  pub stands_head : (at x : ℕ) (l : List ℕ) → Stands b at (x ∷ l) → byte_at b at ≡ x
  stands_head at x l s = ap (λ (k : ℕ). get_or b k 0) (omega arith) ∙ s 0 (omega arith)

  pub stands_tail : (at x : ℕ) (l : List ℕ) → Stands b at (x ∷ l) → Stands b (at + 1) l
  stands_tail at x l s i h = ap (λ (k : ℕ). get_or b k 0) (omega arith) ∙ s (suc i) (omega arith)

  pub stands-append : (at : ℕ) (l r : List ℕ) → Stands b at l → Stands b (at + length l) r → Stands b at (l ++ r)
  stands-append at l r s t i h = split (dec_lt i (length l))
    where
      split : Dec (i < length l) → byte_at b (at + i) ≡ byte_at (l ++ r) i
      split (yes p) = s i p ∙ sym (get_or-append l r 0 i p)
      split (no p) =
          ap (λ (k : ℕ). get_or b k 0) (omega arith)
          ∙ t (i - length l) (omega (arith, length-append l r))
          ∙ sym (get_or-append-add l r (i - length l) 0)
          ∙ ap (λ (k : ℕ). get_or (l ++ r) k 0) (omega arith)

  pub stands-left : (at : ℕ) (l r : List ℕ) → Stands b at (l ++ r) → Stands b at l
  stands-left at l r s i h = s i (omega (arith, length-append l r)) ∙ get_or-append l r 0 i h

  pub stands-right : (at : ℕ) (l r : List ℕ) → Stands b at (l ++ r) → Stands b (at + length l) r
  stands-right at l r s i h =
      ap (λ (k : ℕ). get_or b k 0) (omega arith) ∙ s (length l + i) (omega (arith, length-append l r)) ∙ get_or-append-add l r i 0

  pub stands-moved : (at k : ℕ) (l : List ℕ) → at ≡ k → Stands b at l → Stands b k l
  stands-moved at k l e s = rw e at s

  pub stands_self : Stands b 0 b
  stands_self i h = rw zero-add

  pub stands-whole : (l : List ℕ) → length l ≡ length b → Stands b 0 l → l ≡ b
  stands-whole l e s = ext_get_or 0 l b e (λ i h. sym (s i h) ∙ ap (λ (k : ℕ). get_or b k 0) (zero-add i))

  pub stands_part : (at n : ℕ) → Stands b at (take n (drop at b))
  stands_part at n i h = sym (get_or-take n (drop at b) i 0 (omega (arith, length-take n (drop at b))) ∙ get_or-drop at b i 0)

  pub part_stands : (at : ℕ) (l : List ℕ) → at + length l ≤ length b → Stands b at l → take (length l) (drop at b) ≡ l
  part_stands at l h s =
      let n : length (take (length l) (drop at b)) ≡ length l = length-take-le (length l) (drop at b) (omega (arith, length-drop at b)) in
      ext_get_or 0 (take (length l) (drop at b)) l n (λ i p. sym (stands_part at (length l) i p) ∙ s i (omega arith))

-- two-byte numbers

pub word_within : (b : List ℕ) (at : ℕ) → AllBytes b → word_at b at < 65536
word_within b at all = let x : byte_at b at < 256 = all at in let y : byte_at b (at + 1) < 256 = all (at + 1) in omega arith

pub word_stands : (b : List ℕ) (at : ℕ) → AllBytes b → Stands b at (word_bytes (word_at b at))
word_stands b at all =
    let x : byte_at b at < 256 = all at in
    let y : byte_at b (at + 1) < 256 = all (at + 1) in
    let n : ℕ = word_at b at in
    stands_cons b at (n / 256 % 256) (n % 256 ∷ []) (omega arith) (stands_cons b (at + 1) (n % 256) [] (omega arith) (stands_nil b (at + 1 + 1)))

pub word_at_lem : (b : List ℕ) (at n : ℕ) → AllBytes b → word_at b at ≡ n → Stands b at (word_bytes n)
word_at_lem b at n all e = subst (λ (k : ℕ). Stands b at (word_bytes k)) e (word_stands b at all)

pub word_back : (b : List ℕ) (at n : ℕ) → n < 65536 → Stands b at (word_bytes n) → word_at b at ≡ n
word_back b at n h s =
    let x : byte_at b at ≡ n / 256 % 256 = stands_head b at (n / 256 % 256) (n % 256 ∷ []) s in
    let y : byte_at b (at + 1) ≡ n % 256 = stands_head b (at + 1) (n % 256) [] (stands_tail b at (n / 256 % 256) (n % 256 ∷ []) s) in
    omega arith

-- four-byte numbers

pub long_at_lem : (b : List ℕ) (at n : ℕ) → AllBytes b → long_at b at ≡ n → Stands b at (long_bytes n)
long_at_lem b at n all e =
    let high : byte_at b at < 256 = all at in
    let next : byte_at b (at + 1) < 256 = all (at + 1) in
    let low : word_at b (at + 2) < 65536 = word_within b (at + 2) all in
    stands-append b at (n / 16777216 % 256 ∷ n / 65536 % 256 ∷ []) (word_bytes n)
    (stands_cons b at (n / 16777216 % 256) (n / 65536 % 256 ∷ []) (omega arith) (stands_cons b (at + 1) (n / 65536 % 256) [] (omega arith) (stands_nil b (at + 1 + 1))))
    (subst (λ (l : List ℕ). Stands b (at + 2) l) (same_low (word_at b (at + 2)) n (omega arith)) (word_stands b (at + 2) all))
  where
    same_low : (w n : ℕ) → w ≡ n % 65536 → word_bytes w ≡ word_bytes n
    same_low w n e =
        let high : w / 256 % 256 ≡ n / 256 % 256 = omega arith in
        let low : w % 256 ≡ n % 256 = omega arith in
        λ i. high i ∷ low i ∷ []

pub long-back : (b : List ℕ) (at n : ℕ) → n < 4294967296 → Stands b at (long_bytes n) → long_at b at ≡ n
long-back b at n h s =
    let first : byte_at b at ≡ n / 16777216 % 256 = ap (λ (k : ℕ). get_or b k 0) (omega arith) ∙ s 0 (omega arith) in
    let second : byte_at b (at + 1) ≡ n / 65536 % 256 = s 1 (omega arith) in
    let third : byte_at b (at + 2) ≡ n / 256 % 256 = ap (λ (k : ℕ). get_or b k 0) (omega arith) ∙ s 2 (omega arith) in
    let fourth : byte_at b (at + 2 + 1) ≡ n % 256 = ap (λ (k : ℕ). get_or b k 0) (omega arith) ∙ s 3 (omega arith) in
    ap₂ (λ (x y : ℕ). 65536 * x + y) (rw (first, second) (high n h)) (rw (third, fourth) (low n)) ∙ whole n
  where
    high : (n : ℕ) → n < 4294967296 → 256 * (n / 16777216 % 256) + n / 65536 % 256 ≡ n / 65536
    high n h = omega arith

    low : (n : ℕ) → 256 * (n / 256 % 256) + n % 256 ≡ n % 65536
    low n = omega arith

    whole : (n : ℕ) → 65536 * (n / 65536) + n % 65536 ≡ n
    whole n = omega arith

-- columns

module _ (size : ℕ) (l : List ℕ) where
  pub length-padded : length l ≤ size → length (padded size l) ≡ size
  unfolding padded
  length-padded h = simp (length-append, length-replicate) (omega arith)

  pub get_or-padded : (i : ℕ) → i < length l → byte_at (padded size l) i ≡ byte_at l i
  unfolding padded
  get_or-padded i h = get_or-append l (replicate (size - length l) 0) 0 i h

  pub get_or_padded_past : (i : ℕ) → length l ≤ i → byte_at (padded size l) i ≡ 0
  unfolding padded
  get_or_padded_past i h =
      ap (λ (k : ℕ). get_or (l ++ replicate (size - length l) 0) k 0) (omega arith)
      ∙ get_or-append-add l (replicate (size - length l) 0) (i - length l) 0
      ∙ zeros (size - length l) (i - length l)
    where
      zeros : (n k : ℕ) → byte_at (replicate n 0) k ≡ 0
      zeros zero k = refl
      zeros (suc n) zero = refl
      zeros (suc n) (suc k) = zeros n k

module _ (size : ℕ) (f : ℕ → ℕ) (n : ℕ) where
  pub get_or_column : (i : ℕ) → i < n → byte_at (padded size (tab f n)) i ≡ f i
  get_or_column i h = get_or-padded size (tab f n) i (omega (arith, length-tab f n)) ∙ get_or-tab f 0 n i h

  pub get_or_column_past : (i : ℕ) → n ≤ i → byte_at (padded size (tab f n)) i ≡ 0
  get_or_column_past i h = get_or_padded_past size (tab f n) i (omega (arith, length-tab f n))

-- rows

module _ (f : ℕ → List ℕ) where
  pub stands-joined : (b : List ℕ) (at n : ℕ) → ((i : ℕ) → i < n → Stands b (at + length (joined f i)) (f i)) → Stands b at (joined f n)
  unfolding joined
  stands-joined b at zero h = stands_nil b at
  stands-joined b at (suc n) h = stands-append b at (joined f n) (f n) (stands-joined b at n (λ i p. h i (omega arith))) (h n (omega arith))

  pub joined-stands : (b : List ℕ) (at n i : ℕ) → i < n → Stands b at (joined f n) → Stands b (at + length (joined f i)) (f i)
  unfolding joined
  joined-stands b at zero i h s = absurd (not-suc-le-zero h)
  joined-stands b at (suc n) i h s = split (λ p. joined-stands b at n i p (stands-left b at (joined f n) (f n) s)) (dec_lt i n)
    where
      split : (i < n → Stands b (at + length (joined f i)) (f i)) → Dec (i < n) → Stands b (at + length (joined f i)) (f i)
      split again (yes p) = again p
      split again (no p) = let e : i ≡ n = omega arith in rw e (stands-right b at (joined f n) (f n) s)

  pub length-joined : (w n : ℕ) → ((i : ℕ) → i < n → length (f i) ≡ w) → length (joined f n) ≡ w * n
  unfolding joined
  length-joined w zero h = sym (mul-zero w)
  length-joined w (suc n) h =
      length-append (joined f n) (f n)
      ∙ ap₂ (λ (x y : ℕ). x + y) (length-joined w n (λ i p. h i (omega arith))) (h n (omega arith))
      ∙ sym (mul-suc w n)

  pub get_or-joined : (w n : ℕ) → ((i : ℕ) → i < n → length (f i) ≡ w) → (i j : ℕ) → i < n → j < w → byte_at (joined f n) (w * i + j) ≡ byte_at (f i) j
  get_or-joined w n h i j p q =
      let e : length (joined f i) ≡ w * i = length-joined w i (λ k r. h k (omega arith)) in
      ap (λ (k : ℕ). get_or (joined f n) k 0) (omega arith)
      ∙ joined-stands (joined f n) 0 n i p (stands_self (joined f n)) j (omega (arith, h i p))

-- lists made from a function of the index

module _ {A : Type 0} where
  pub tab-same : (f g : ℕ → A) (n : ℕ) → ((i : ℕ) → i < n → f i ≡ g i) → tab f n ≡ tab g n
  unfolding tab
  tab-same f g zero h = refl
  tab-same f g (suc n) h = ap₂ (λ (l : List A) (x : A). l ++ (x ∷ [])) (tab-same f g n (λ i p. h i (omega arith))) (h n (omega arith))

  pub tab-alike : (f g : ℕ → A) (n m : ℕ) → n ≡ m → ((i : ℕ) → i < m → f i ≡ g i) → tab f n ≡ tab g m
  tab-alike f g n m e h = ap (tab f) e ∙ tab-same f g m h

  pub tab_cons : (f : ℕ → A) (n : ℕ) → tab f (suc n) ≡ f 0 ∷ tab (λ i. f (suc i)) n
  unfolding tab
  tab_cons f zero = refl
  tab_cons f (suc n) = ap (λ (l : List A). l ++ (f (suc n) ∷ [])) (tab_cons f n)

  pub tab-get_or : (d : A) (l : List A) → tab (λ i. get_or l i d) (length l) ≡ l
  tab-get_or d l =
      ext_get_or d (tab (λ i. get_or l i d) (length l)) l (length-tab (λ i. get_or l i d) (length l))
      (λ i h. get_or-tab (λ i. get_or l i d) d (length l) i (omega (arith, length-tab (λ i. get_or l i d) (length l))))
