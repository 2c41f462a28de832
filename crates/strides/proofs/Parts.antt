-- A part of a set: some words, lent and put back. Assumes nothing.
use mathlib.Core.Path.{◌≡◌, sym, ap, subst, ◌∙◌}
use mathlib.Core.List.{List, ◌++◌}
use Prim.Native.Nat.{ℕ, ◌+◌, ◌-◌, ◌*◌, ◌/◌, ◌%◌, ◌≤◌, ◌<◌}
use native.Mathlib.Omega.{arith}
use lib.ListN.{length, get_or, take, drop, get_or-append}
use lib.Seq.{get_or-take, get_or-drop, get_or-append-add, length-take-le}
use Rattle.words.specs.Words.{bit, mem}

-- all words from word a on
pub mem-rest : (s : List ℕ) (a i : ℕ) → mem (drop a s) i ≡ mem s (64 * a + i)
unfolding mem
mem-rest s a i =
    let word : a + i / 64 ≡ (64 * a + i) / 64 = omega arith in
    let place : i % 64 ≡ (64 * a + i) % 64 = omega arith in
    ap (λ (x : ℕ). bit x (i % 64)) (get_or-drop a s (i / 64) 0 ∙ ap (λ (j : ℕ). get_or s j 0) word)
    ∙ ap (λ (j : ℕ). bit (get_or s ((64 * a + i) / 64) 0) j) place

-- k of them
pub mem_part : (s : List ℕ) (a k i : ℕ) → i < 64 * k → mem (take k (drop a s)) i ≡ mem s (64 * a + i)
unfolding mem
mem_part s a k i h = ap (λ (x : ℕ). bit x (i % 64)) (get_or-take k (drop a s) (i / 64) 0 (omega arith)) ∙ mem-rest s a i

-- the words y in the place of as many from word a on
module _ (s y z : List ℕ) (a : ℕ) (h : a ≤ length s) where
  get_before : (j : ℕ) → j < a → get_or (take a s ++ (y ++ z)) j 0 ≡ get_or s j 0
  get_before j l = get_or-append (take a s) (y ++ z) 0 j (subst (λ (n : ℕ). j < n) (sym (length-take-le a s h)) l) ∙ get_or-take a s j 0 l

  get_behind : (j : ℕ) → get_or (take a s ++ (y ++ z)) (a + j) 0 ≡ get_or (y ++ z) j 0
  get_behind j =
      ap (λ (n : ℕ). get_or (take a s ++ (y ++ z)) (n + j) 0) (sym (length-take-le a s h)) ∙ get_or-append-add (take a s) (y ++ z) j 0

  pub mem-before : (i : ℕ) → i < 64 * a → mem (take a s ++ (y ++ z)) i ≡ mem s i
  unfolding mem
  mem-before i l = ap (λ (x : ℕ). bit x (i % 64)) (get_before (i / 64) (omega arith))

  pub mem-within : (i : ℕ) → i < 64 * length y → mem (take a s ++ (y ++ z)) (64 * a + i) ≡ mem y i
  unfolding mem
  mem-within i l =
      let word : (64 * a + i) / 64 ≡ a + i / 64 = omega arith in
      let place : (64 * a + i) % 64 ≡ i % 64 = omega arith in
      ap (λ (j : ℕ). bit (get_or (take a s ++ (y ++ z)) ((64 * a + i) / 64) 0) j) place
      ∙ ap (λ (x : ℕ). bit x (i % 64))
      (ap (λ (j : ℕ). get_or (take a s ++ (y ++ z)) j 0) word ∙ get_behind (i / 64) ∙ get_or-append y z 0 (i / 64) (omega arith))

pub mem-behind : (s y : List ℕ) (a k : ℕ) → a ≤ length s → length y ≡ k → (i : ℕ) → 64 * (a + k) ≤ i → mem (take a s ++ (y ++ drop k (drop a s))) i ≡ mem s i
unfolding mem
mem-behind s y a k h e i l =
    let j = i / 64 - (a + k) in
    let word : i / 64 ≡ a + (k + j) = omega arith in
    let same : k + j ≡ length y + j = omega arith in
    ap (λ (x : ℕ). bit x (i % 64))
    (ap (λ (n : ℕ). get_or (take a s ++ (y ++ drop k (drop a s))) n 0) word
    ∙ get_behind s y (drop k (drop a s)) a h (k + j)
    ∙ ap (λ (n : ℕ). get_or (y ++ drop k (drop a s)) n 0) same
    ∙ get_or-append-add y (drop k (drop a s)) j 0
    ∙ get_or-drop k (drop a s) j 0
    ∙ get_or-drop a s (k + j) 0
    ∙ ap (λ (n : ℕ). get_or s n 0) (sym word))
