-- Is any number in a set? Assumes nothing.
use mathlib.Core.Path.{◌≡◌, refl, sym, ap, ap₂, ◌∙◌}
use mathlib.Core.Bool.{Bool, true, false, not, ◌||◌, or-false, or-true, or_assoc}
use mathlib.Core.List.{List, [], ◌∷◌}
use Prim.Native.Nat.{ℕ, zero, suc, ◌+◌, ◌-◌, ◌*◌, ◌/◌, ◌%◌, ◌^◌, ◌≤◌, ◌<◌, min}
use native.Mathlib.Decide.{ℕ_discrete}
use native.Mathlib.Nat.{add-zero, add-suc, le_refl, pow-suc, div-one}
use native.Mathlib.Omega.{arith}
use borrow.Author.Tests.{lt-ltb, le-ltb, eq-eqb, ne_eqb}
use lib.Dec.{eqb}
use lib.Arith.{lt-one}
use lib.Bits.{bit_or, or_zero_l, or_add_and, and_le_r}
use lib.ListN.{length, get_or, take, drop, length-drop}
use Rattle.std.proofs.lemmas.List.{take-append-drop, drop-drop, length-take-le, get_or-drop, get_or-take}
use Rattle.std.proofs.lemmas.List.Folds.{list_any-append}
use Rattle.std.specs.List.{fold, list_any}
use Rattle.std.specs.Simd.{first_chunks}
use Rattle.words.specs.Words.{bit, mem, Bits, any_below}
use Rattle.words.proofs.Bit.{bit_shr}
use Rattle.words.proofs.Sets.{mem_at, mem-past}

pub any_same : (p q : ℕ → Bool) (n : ℕ) → ((k : ℕ) → k < n → p k ≡ q k) → any_below p n ≡ any_below q n
unfolding any_below
any_same p q zero h = refl
any_same p q (suc n) h = ap₂ (λ (a b : Bool). a || b) (any_same p q n (λ k l. h k (omega arith))) (h n (le_refl (suc n)))

pub any_none : (p : ℕ → Bool) (n : ℕ) → ((k : ℕ) → k < n → p k ≡ false) → any_below p n ≡ false
unfolding any_below
any_none p zero h = refl
any_none p (suc n) h = ap₂ (λ (a b : Bool). a || b) (any_none p n (λ k l. h k (omega arith))) (h n (le_refl (suc n)))

-- those below n, and the m after them
pub any_add : (p : ℕ → Bool) (n m : ℕ) → any_below p (n + m) ≡ (any_below p n || any_below (λ k. p (n + k)) m)
unfolding any_below
any_add p n zero = rw add-zero (sym (or-false (any_below p n)))
any_add p n (suc m) = rw (add-suc, any_add p n m) (or_assoc (any_below p n) (any_below (λ k. p (n + k)) m) (p (n + m)))

pub any_parts : (p q : ℕ → Bool) (n m k : ℕ) → n + m ≡ k → ((i : ℕ) → i < m → p (n + i) ≡ q i) → any_below p k ≡ (any_below p n || any_below q m)
any_parts p q n m k e h = ap (any_below p) (sym e) ∙ any_add p n m ∙ ap (λ (b : Bool). any_below p n || b) (any_same (λ i. p (n + i)) q m h)

-- a word of k bits has some where it is not 0
lowest : (x : ℕ) → any_below (bit x) 1 ≡ eqb (x % 2) 1
unfolding any_below bit
lowest x = ap (λ (q : ℕ). eqb (q % 2) 1) (div-one x)

two : (x : ℕ) → Dec (x ≡ 0) → Dec (x % 2 ≡ 1) → (eqb (x % 2) 1 || not (eqb (x / 2) 0)) ≡ not (eqb x 0)
two x (yes e) d = simp (eq-eqb x 0 e, ne_eqb (x % 2) 1 (λ q. omega arith), eq-eqb (x / 2) 0 (omega arith))
two x (no e) (yes d) = simp (ne_eqb x 0 e, eq-eqb (x % 2) 1 d)
two x (no e) (no d) = simp (ne_eqb x 0 e, ne_eqb (x / 2) 0 (λ q. omega arith), or-true)

any_bits : (k x : ℕ) → x < 2 ^ k → any_below (bit x) k ≡ not (eqb x 0)
any_bits zero x h = any_none (bit x) 0 (λ k l. absurd (omega arith)) ∙ sym (ap not (eq-eqb x 0 (lt-one h)))
any_bits (suc k) x h =
    let l : x < 2 ^ k * 2 = rw pow-suc at h in
    any_parts (bit x) (bit (x / 2)) 1 k (suc k) (omega arith) (λ j n. sym (bit_shr x 1 j))
    ∙ ap₂ (λ (a b : Bool). a || b) (lowest x) (any_bits k (x / 2) (omega arith))
    ∙ two x (ℕ_discrete x 0) (ℕ_discrete (x % 2) 1)

pub any_word : (w : ℕ) (p : ℕ → Bool) (x : ℕ) → w ≤ 64 → x < 2 ^ 64 → Bits w p x → any_below p w ≡ not (eqb x 0)
any_word w p x h small b =
    sym (sym (any_bits 64 x small)
    ∙ any_parts (bit x) (λ j. false) w (64 - w) 64 (omega arith) (λ j l. b.bits (w + j) ∙ simp (le-ltb (w + j) w (omega arith)))
    ∙ ap₂ (λ (s t : Bool). s || t) (any_same (bit x) p w (λ j l. b.bits j ∙ simp (lt-ltb j w l))) (any_none (λ j. false) (64 - w) (λ j l. refl))
    ∙ or-false (any_below p w))

-- is some word not 0?
abbrev pub some_word : List ℕ → Bool
some_word s = list_any (λ x. not (eqb x 0)) s

pub any_some : (s : List ℕ) → ((k : ℕ) → get_or s k 0 < 2 ^ 64) → some_word s ≡ any_below (mem s) (64 * length s)
any_some [] small = sym (any_none (mem []) 0 (λ k l. absurd (omega arith)))
any_some (x ∷ s) small =
    sym (any_parts (mem (x ∷ s)) (mem s) 64 (64 * length s) (64 * length (x ∷ s)) (omega arith) next
    ∙ ap₂ (λ (a b : Bool). a || b) (any_same (mem (x ∷ s)) (bit x) 64 (λ i l. mem_at (x ∷ s) i 0 i (omega arith) l) ∙ any_bits 64 x (small 0))
    (sym (any_some s (λ k. small (suc k)))))
  where
    next : (i : ℕ) → i < 64 * length s → mem (x ∷ s) (64 + i) ≡ mem s i
    next i l = mem_at (x ∷ s) (64 + i) (suc (i / 64)) (i % 64) (omega arith) (omega arith) ∙ sym (mem_at s i (i / 64) (i % 64) (omega arith) (omega arith))

-- words as one: it is 0 where all are
or_some : (a x : ℕ) → Dec (a ≡ 0) → not (eqb (bit_or a x) 0) ≡ (not (eqb a 0) || not (eqb x 0))
or_some a x (yes e) = simp (eq-eqb a 0 e, ap (λ (y : ℕ). bit_or y x) e ∙ or_zero_l x)
or_some a x (no d) = simp (ne_eqb a 0 d, ne_eqb (bit_or a x) 0 (λ q. d (omega (arith, or_add_and a x, and_le_r a x))))

fold_some : (a : ℕ) (s : List ℕ) → not (eqb (fold bit_or a s) 0) ≡ (not (eqb a 0) || some_word s)
fold_some a [] = sym (or-false (not (eqb a 0)))
fold_some a (x ∷ s) =
    fold_some (bit_or a x) s
    ∙ ap (λ (b : Bool). b || some_word s) (or_some a x (ℕ_discrete a 0))
    ∙ or_assoc (not (eqb a 0)) (not (eqb x 0)) (some_word s)

-- is some eight, as one, not 0?
abbrev pub some_eight : List (List ℕ) → Bool
some_eight es = list_any (λ e. not (eqb (fold bit_or 0 e) 0)) es

eights_some : (n : ℕ) (s : List ℕ) → n * 8 ≤ length s → (some_eight (first_chunks 8 n s) || some_word (drop (n * 8) s)) ≡ some_word s
eights_some zero s h = refl
eights_some (suc n) s h =
    let eight = some_word (take 8 s) in
    let later = some_eight (first_chunks 8 n (drop 8 s)) in
    let left : drop (suc n * 8) s ≡ drop (n * 8) (drop 8 s) = ap (λ (m : ℕ). drop m s) (omega arith) ∙ sym (drop-drop (n * 8) 8 s) in
    ap₂ (λ (a b : Bool). (a || later) || b) (fold_some 0 (take 8 s)) (ap some_word left)
    ∙ or_assoc eight later (some_word (drop (n * 8) (drop 8 s)))
    ∙ ap (λ (b : Bool). eight || b) (eights_some n (drop 8 s) (omega (arith, length-drop 8 s)))
    ∙ sym (list_any-append (λ x. not (eqb x 0)) (take 8 s) (drop 8 s))
    ∙ ap some_word (take-append-drop 8 s)

pub any_eights : (s : List ℕ) (es : List (List ℕ)) (r : List ℕ) → ((k : ℕ) → get_or s k 0 < 2 ^ 64) → es ≡ first_chunks 8 (length s / 8) s → r ≡ drop (length s / 8 * 8) s
    → (some_eight es || some_word r) ≡ any_below (mem s) (64 * length s)
any_eights s es r small e f =
    ap₂ (λ (a b : Bool). a || b) (ap some_eight e) (ap some_word f) ∙ eights_some (length s / 8) s (omega arith) ∙ any_some s small

-- a part of what is behind a place; what it lacks of n words from word k on is past the end
module _ (s rest : List ℕ) (k n at count : ℕ) (b : rest ≡ drop at s) (e : at ≡ min k (length s)) (f : count ≡ min n (length rest)) where
  abbrev part : List ℕ
  part = take count rest

  long : length rest ≡ length s - at
  long = ap length b ∙ length-drop at s

  inside : (i : ℕ) → i < 64 * count → mem s (64 * k + i) ≡ mem part i
  inside i l =
      mem_at s (64 * k + i) (at + i / 64) (i % 64) (omega (arith, long)) (omega arith)
      ∙ ap (λ (x : ℕ). bit x (i % 64)) (sym (get_or-take count rest (i / 64) 0 (omega arith) ∙ ap (λ (t : List ℕ). get_or t (i / 64) 0) b ∙ get_or-drop at s (i / 64) 0))
      ∙ sym (mem_at part i (i / 64) (i % 64) (omega arith) (omega arith))

  pub any_part : any_below (mem part) (64 * length part) ≡ any_below (λ i. mem s (64 * k + i)) (64 * n)
  any_part =
      ap (λ (m : ℕ). any_below (mem part) (64 * m)) (length-take-le count rest (omega arith))
      ∙ sym
      (any_parts (λ i. mem s (64 * k + i)) (λ i. false) (64 * count) (64 * (n - count)) (64 * n) (omega arith)
      (λ i l. mem-past s (64 * k + (64 * count + i)) (omega (arith, long)))
      ∙ ap₂ (λ (x y : Bool). x || y) (any_same (λ i. mem s (64 * k + i)) (mem part) (64 * count) inside) (any_none (λ i. false) (64 * (n - count)) (λ i l. refl))
      ∙ or-false (any_below (mem part) (64 * count)))

-- three pieces of a range
pub any_three : (s : List ℕ) (at h n m len a b : ℕ) → h + (n + m) ≡ len → a ≡ at + h → b ≡ at + h + n
    → any_below (λ i. mem s (at + i)) len
    ≡ (any_below (λ i. mem s (at + i)) h || (any_below (λ i. mem s (a + i)) n || any_below (λ i. mem s (b + i)) m))
any_three s at h n m len a b e f g =
    any_parts (λ i. mem s (at + i)) (λ i. mem s (a + i)) h (n + m) len e (λ i l. ap (mem s) (omega arith))
    ∙ ap (λ (t : Bool). any_below (λ i. mem s (at + i)) h || t)
    (any_parts (λ i. mem s (a + i)) (λ i. mem s (b + i)) n m (n + m) refl (λ i l. ap (mem s) (omega arith)))

-- the first answer decides, or the later ones do
pub first : (x a b r : Bool) → x ≡ (a || b) → r ≡ a → r ≡ true → true ≡ x
first x a b r e f g = sym (e ∙ ap (λ (t : Bool). t || b) (sym f ∙ g))

pub later : (x a b r : Bool) → x ≡ (a || b) → r ≡ a → r ≡ false → b ≡ x
later x a b r e f g = sym (e ∙ ap (λ (t : Bool). t || b) (sym f ∙ g))
