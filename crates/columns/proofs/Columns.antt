-- Columns: filled from the front, over zeros, and the numbers of an array.
use denote.Array.{each}
use denote.Shadow.{shadow}
use denote.Builtin.{u16}
use mir.Val.{Val}
use Prim.Native.Nat.{ℕ, zero, suc, ◌+◌, ◌-◌, ◌*◌, ◌≤◌, ◌<◌, min}
use native.Mathlib.Omega.{arith}
use native.Mathlib.Nat.{sub-zero, mul-zero, mul-suc, mul-le-mul}
use native.Mathlib.Numerals.{add-one}
use mathlib.Core.Path.{◌≡◌, refl, sym, ap, ◌∙◌}
use mathlib.Core.List.{List, [], ◌∷◌, ◌++◌, append_assoc}
use lib.ListN.{length, drop, set, replicate, length-append, length-replicate, replicate-append-replicate}
use lib.Seq.{drop-cons, set_at}
use Rattle.model.specs.Bytes.{byte_at, tab, joined, padded}
use Rattle.model.specs.Room.{over}
use Rattle.model.proofs.Basics.{length-tab}
use Rattle.wire.specs.Placed.{placed}
use Rattle.wire.proofs.Room.{placed-behind}
use Rattle.columns.specs.Filled.{filled}

-- one more place of a column
pub column_more : {A : Type 0} (f : ℕ → A) (room : List A) (i : ℕ) → i < length room → set (tab f i ++ drop i room) i (f i) ≡ tab f (i + 1) ++ drop (i + 1) room
unfolding tab
column_more f room i h =
    ap (λ l. set (tab f i ++ l) i (f i)) (drop-cons room i (f i) h)
    ∙ set_at (tab f i) _ (drop (suc i) room) (f i) i (length-tab f i)
    ∙ sym (append_assoc (tab f i) (f i ∷ []) (drop (suc i) room))
    ∙ rw add-one

abbrev zeros : ℕ → List ℕ
zeros n = replicate n 0

pub drop_zeros : (k n : ℕ) → drop k (zeros n) ≡ zeros (n - k)
drop_zeros zero n = rw sub-zero
drop_zeros (suc k) zero = ap zeros (none k)
  where
    none : (j : ℕ) → 0 ≡ 0 - suc j
    none j = omega arith
drop_zeros (suc k) (suc n) = drop_zeros k n ∙ ap zeros (less k n)
  where
    less : (j m : ℕ) → m - j ≡ suc m - suc j
    less j m = omega arith

-- zeros with a list written over their start
pub padded-over : (size : ℕ) (l : List ℕ) → over l (zeros size) ≡ padded size l
unfolding padded
padded-over size l = ap (λ (z : List ℕ). l ++ z) (drop_zeros (length l) size)

pub column_padded : (f : ℕ → ℕ) (n size : ℕ) → tab f n ++ drop n (zeros size) ≡ padded size (tab f n)
column_padded f n size = ap (λ k. tab f n ++ drop k (zeros size)) (sym (length-tab f n)) ∙ padded-over size (tab f n)

pub step_bound : (step i : ℕ) → step < 256 → i < 4294967296 → step * i ≤ 1095216660225
step_bound step i h k = omega (arith, mul-le-mul {n₂ = 255} {m₂ = 4294967295} (below step 255 h) (below i 4294967295 k))
  where
    below : (n m : ℕ) → n < m + 1 → n ≤ m
    below n m h = omega arith

-- a column over an array of zeros is padded
pub filled_zeros : (f : ℕ → ℕ) (n size : ℕ) (room : List ℕ) → n ≤ size → room ≡ zeros size → filled f n room ≡ padded size (tab f n)
unfolding filled
filled_zeros f n size room h e =
    let all : min n (length room) ≡ n = omega (arith, ap length e, length-replicate {A = ℕ} size 0) in
    ap (λ m. tab f m ++ drop m room) all ∙ ap (λ (l : List ℕ). tab f n ++ drop n l) e ∙ column_padded f n size

pub joined-long : (f : ℕ → List ℕ) (w n : ℕ) → ((j : ℕ) → j < n → length (f j) ≡ w) → length (joined f n) ≡ w * n
unfolding joined
joined-long f w zero h = sym (mul-zero w)
joined-long f w (suc n) h =
    length-append (joined f n) (f n)
    ∙ rw (joined-long f w n (λ j k. h j (omega arith)), h n (omega arith)) (sym (mul-suc w n))

pub padded-long : (size : ℕ) (l : List ℕ) → length l ≤ size → length (padded size l) ≡ size
unfolding padded
padded-long size l h = length-append l (zeros (size - length l)) ∙ omega (arith, length-replicate {A = ℕ} (size - length l) 0)

joined_zeros : (size w : ℕ) (d x : List ℕ) (r : ℕ) → size - length (d ++ x) ≡ (w - length x) + r → size - length (d ++ padded w x) ≡ r → padded size (d ++ x) ≡ padded size (d ++ padded w x)
unfolding padded
joined_zeros size w d x r e q =
    rw (e, q, ← replicate-append-replicate {A = ℕ} (w - length x) r 0) (simp append_assoc)

-- a part that is padded itself, at the end of what is padded
pub padded_part : (size w : ℕ) (d x : List ℕ) → length d + w ≤ size → length x ≤ w → padded size (d ++ x) ≡ padded size (d ++ padded w x)
padded_part size w d x h k =
    let inner : length (padded w x) ≡ w = padded-long w x k in
    let outer : length (d ++ padded w x) ≡ length d + w = length-append d (padded w x) ∙ omega arith in
    let short : length (d ++ x) ≡ length d + length x = length-append d x in
    let count : size - length (d ++ x) ≡ (w - length x) + (size - length (d ++ padded w x)) = omega arith in
    joined_zeros size w d x (size - length (d ++ padded w x)) count refl

-- one more guard in its places
pub place-more : (size w : ℕ) (f : ℕ → List ℕ) (x : List ℕ) (i : ℕ) → w * i + w ≤ size → length x ≤ w → length (joined f i) ≡ w * i → f i ≡ padded w x
    → placed x (w * i) (padded size (joined f i)) ≡ padded size (joined f (i + 1))
unfolding joined
place-more size w f x i h k e g =
    ap (placed x (w * i)) (sym (padded-over size (joined f i)))
    ∙ placed-behind (joined f i) x (zeros size) (w * i) e (omega (arith, length-replicate {A = ℕ} size 0))
    ∙ padded-over size (joined f i ++ x)
    ∙ padded_part size w (joined f i) x (omega arith) k
    ∙ rw (add-one, g)

pub joined-most : (f : ℕ → List ℕ) (w n : ℕ) → ((j : ℕ) → length (f j) ≤ w) → length (joined f n) ≤ w * n
unfolding joined
joined-most f w zero h = omega (arith, mul-zero w)
joined-most f w (suc n) h = omega (arith, length-append (joined f n) (f n), joined-most f w n h, h n, mul-suc w n)

-- the numbers of an array of u16 are below 65,536
pub all-below : (xs : List ℕ) (us : List Val) → shadow (each ℕ u16.own_val xs us) → (i : ℕ) → byte_at xs i < 65536
all-below [] us s i = omega arith
all-below (x ∷ xs) [] s i = absurd s
all-below (x ∷ xs) (u ∷ us) s zero = omega (arith, s.0)
all-below (x ∷ xs) (u ∷ us) s (suc i) = all-below xs us s.1 i
