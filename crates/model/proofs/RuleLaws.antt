-- A rule kept row by row, by a mask of the last rows, is the rule of document 003 on all windows.
use Prim.Native.Nat.{ℕ, zero, suc, ◌+◌, ◌-◌, ◌*◌, ◌/◌, ◌%◌, ◌^◌, ◌<◌, ◌≤◌}
use native.Mathlib.Nat.{mod-lt, not-suc-le-zero}
use native.Mathlib.Omega.{arith}
use native.Mathlib.Decide.{dec_lt, dec_le}
use mathlib.Core.Path.{◌≡◌, refl, ap, ◌∙◌}
use mathlib.Core.Logic.{◌↔◌}
use mathlib.Core.List.{List, [], ◌∷◌}
use mathlib.Core.Bool.{Bool, true, false}
use lib.ListN.{length, take, drop}
use lib.Seq.{take-length}
use lib.Pow.{pow_pos, mod-pow-add}
use borrow.Author.Tests.{leb-true, le-leb}
use Rattle.model.specs.Layers.{count}
use Rattle.model.specs.Rule.{Rule, no_rule, KeepsRule, as_bit, masks, window_behind, set_bits, allows}

-- rows whose guesses are listed keep the rule one by one, behind rows whose guesses are those of a mask
abbrev pub Keeping : Rule → (window : ℕ) → List Bool → Type 0
Keeping rule window [] = Unit {0}
Keeping rule window (g ∷ gs) = (allows rule window g ≡ true) × Keeping rule (window_behind rule window g) gs

-- the bits of a mask

bit_le : (g : Bool) → as_bit g ≤ 1
bit_le true = omega arith
bit_le false = omega arith

no_bits : (n : ℕ) → set_bits n 0 ≡ 0
unfolding set_bits
no_bits zero = refl
no_bits (suc n) = omega (arith, no_bits n)

-- the bits from bit n on do not change those below
low_bits : (m n x : ℕ) → m ≤ n → set_bits m (x % 2 ^ n) ≡ set_bits m x
unfolding set_bits
low_bits zero n x h = refl
low_bits (suc m) zero x h = absurd (not-suc-le-zero h)
low_bits (suc m) (suc n) x h =
    let e : x % 2 ^ suc n ≡ (x / 2 % 2 ^ n) * 2 + x % 2 = ap (λ (k : ℕ). x % 2 ^ k) (omega arith) ∙ mod-pow-add x n 1 in
    let half : x % 2 ^ suc n / 2 ≡ x / 2 % 2 ^ n = omega arith in
    omega (arith, ap (set_bits m) half, low_bits m n (x / 2) (omega arith))

-- one more row: its bit is the lowest, and each earlier one moves up
shifted-bits : (m w : ℕ) (g : Bool) → set_bits (suc m) (as_bit g + 2 * w) ≡ as_bit g + set_bits m w
unfolding set_bits
shifted-bits m w g =
    let half : (as_bit g + 2 * w) / 2 ≡ w = omega (arith, bit_le g) in
    omega (arith, bit_le g, ap (set_bits m) half)

-- the same of the next mask, whose lowest l-1 bits are kept
behind-bits : (rule : Rule) (m n w : ℕ) (g : Bool) → n ≡ suc m → n < rule.window → set_bits n (window_behind rule w g) ≡ as_bit g + set_bits m w
unfolding window_behind
behind-bits rule m n w g e h =
    low_bits n (rule.window - 1) (as_bit g + 2 * w) (omega arith) ∙ ap (λ (k : ℕ). set_bits k (as_bit g + 2 * w)) e ∙ shifted-bits m w g

pub behind-below : (rule : Rule) (window : ℕ) (guess : Bool) → window_behind rule window guess < masks rule
unfolding window_behind
behind-below rule w g = mod-lt (as_bit g + 2 * w) (pow_pos (rule.window - 1))

-- the first entries of a list hold no more guesses than the first of more
count-take : (l : List Bool) (j m : ℕ) → j ≤ m → count (take j l) ≤ count (take m l)
unfolding count
count-take l zero m h = omega arith
count-take l (suc j) zero h = absurd (not-suc-le-zero h)
count-take [] (suc j) (suc m) h = omega arith
count-take (g ∷ l) (suc j) (suc m) h = omega (arith, count-take l j m (omega arith))

-- the windows of rows behind those of a mask: each that ends with row j of the list and begins before the list, or with its first row ..
abbrev Begun : Rule → (window : ℕ) → List Bool → Type 0
Begun rule window guesses =
    (j : ℕ) → j < length guesses → j < rule.window → count (take (suc j) guesses) + set_bits (rule.window - suc j) window ≤ rule.most

-- .. and each that lies in the list
abbrev Within : Rule → List Bool → Type 0
Within rule guesses = (i : ℕ) → i + rule.window ≤ length guesses → count (take rule.window (drop i guesses)) ≤ rule.most

abbrev Held : Rule → (window : ℕ) → List Bool → Type 0
Held rule window guesses = Begun rule window guesses × Within rule guesses

module _ (rule : Rule) where
  -- a window that is full asks no bit of the mask
  none_behind : (w d : ℕ) → rule.window ≤ d → set_bits (rule.window - d) w ≡ 0
  unfolding set_bits
  none_behind w d h = let e : rule.window - d ≡ 0 = omega arith in ap (λ (k : ℕ). set_bits k w) e

  allowed_le : (w : ℕ) (g : Bool) → (allows rule w g ≡ true) ↔ (as_bit g + set_bits (rule.window - 1) w ≤ rule.most)
  unfolding allows
  allowed_le w g = (leb-true _ _, le-leb _ _)

  -- a row is let through if the window that it ends is kept; from then on the windows that hold its bit begin in the next mask
  held_next : 1 ≤ rule.window → (w : ℕ) (g : Bool) (gs : List Bool)
      → ((allows rule w g ≡ true) × Held rule (window_behind rule w g) gs) ↔ Held rule w (g ∷ gs)
  unfolding count
  held_next p w g gs = (λ k. (begun k, within k), λ k. (allowed k, (next k, λ i h. k.1 (suc i) (omega arith))))
    where
      v : ℕ
      v = window_behind rule w g

      moved : (j : ℕ) → suc j < rule.window → set_bits (rule.window - suc j) v ≡ as_bit g + set_bits (rule.window - suc (suc j)) w
      moved j h = behind-bits rule _ _ w g (omega arith) (omega arith)

      begun : (allows rule w g ≡ true) × Held rule v gs → Begun rule w (g ∷ gs)
      begun k zero h i = omega (arith, (allowed_le w g).0 k.0)
      begun k (suc j) h i = omega (arith, k.1.0 j (omega arith) (omega arith), moved j i)

      within : (allows rule w g ≡ true) × Held rule v gs → Within rule (g ∷ gs)
      within k zero h =
          let e : suc (rule.window - 1) ≡ rule.window = omega arith in
          omega (arith, begun k (rule.window - 1) (omega arith) (omega arith), ap (λ (n : ℕ). count (take n (g ∷ gs))) e)
      within k (suc i) h = k.1.1 i (omega arith)

      allowed : Held rule w (g ∷ gs) → allows rule w g ≡ true
      allowed k = (allowed_le w g).1 (omega (arith, k.0 0 (omega arith) p))

      next : Held rule w (g ∷ gs) → Begun rule v gs
      next k j h i = at (dec_lt (suc j) rule.window)
        where
          at : Dec (suc j < rule.window) → count (take (suc j) gs) + set_bits (rule.window - suc j) v ≤ rule.most
          at (yes l) = omega (arith, k.0 (suc j) (omega arith) l, moved j l)
          at (no l) =
              let e : rule.window ≡ suc j = omega arith in
              omega (arith, k.1 1 (omega arith), ap (λ (n : ℕ). count (take n gs)) e, none_behind v (suc j) (omega arith))

  -- so the rows keep the rule one by one if every window that ends in the list is kept
  keeping_held : 1 ≤ rule.window → (gs : List Bool) (w : ℕ) → Keeping rule w gs ↔ Held rule w gs
  keeping_held p [] w = (λ k. (λ j h i. absurd (omega arith), λ i h. absurd (omega arith)), λ h. tt)
  keeping_held p (g ∷ gs) w = (
    λ k. (held_next p w g gs).0 (k.0, (keeping_held p gs (window_behind rule w g)).0 k.1),
    λ h. let n = (held_next p w g gs).1 h in (n.0, (keeping_held p gs (window_behind rule w g)).1 n.1),
  )

  -- a list that is one window is the longest of those begun
  begun_short : (gs : List Bool) → Begun rule 0 gs → length gs < rule.window → count gs ≤ rule.most
  unfolding count
  begun_short [] h s = omega arith
  begun_short (g ∷ gs) h s = omega (arith, h (length gs) (omega arith) (omega arith), ap count (take-length (g ∷ gs)))

  -- behind the empty mask, a window begun is a part of the first window, or of a list that is one window
  keeps_begun : (gs : List Bool) → KeepsRule rule gs → Begun rule 0 gs
  keeps_begun gs k j h i = at (dec_le rule.window (length gs))
    where
      none : set_bits (rule.window - suc j) 0 ≡ 0
      none = no_bits (rule.window - suc j)

      at : Dec (rule.window ≤ length gs) → count (take (suc j) gs) + set_bits (rule.window - suc j) 0 ≤ rule.most
      at (yes l) = omega (arith, none, count-take gs (suc j) rule.window i, k.windows 0 (omega arith))
      at (no l) = omega (arith, none, count-take gs (suc j) (length gs) h, ap count (take-length gs), k.short (omega arith))

pub row_by_row : (rule : Rule) (guesses : List Bool) → 1 ≤ rule.window → Keeping rule 0 guesses ↔ KeepsRule rule guesses
row_by_row rule gs p = (
  λ k. let h = (keeping_held rule p gs 0).0 k in record { windows = h.1; short = begun_short rule gs h.0 },
  λ k. (keeping_held rule p gs 0).1 (keeps_begun rule gs k, k.windows),
)

-- a rule whose windows are single rows, each of which may be a guess, forbids nothing

pub allows-all : (rule : Rule) (window : ℕ) (guess : Bool) → rule.window ≡ 1 → 1 ≤ rule.most → allows rule window guess ≡ true
allows-all rule w g e h = (allowed_le rule w g).1 (omega (arith, bit_le g, none_behind rule w 1 (omega arith)))

pub behind_one : (rule : Rule) (window : ℕ) (guess : Bool) → rule.window ≡ 1 → window_behind rule window guess ≡ 0
behind_one rule w g e =
    let none : rule.window - 1 ≡ 0 = omega arith in
    let one : masks rule ≡ 1 = ap (λ (n : ℕ). 2 ^ n) none in
    omega (arith, behind-below rule w g)

pub none_forbidden : (rule : Rule) → rule.window ≡ 1 → 1 ≤ rule.most → (guesses : List Bool) → KeepsRule rule guesses
none_forbidden rule e h guesses = (row_by_row rule guesses (omega arith)).0 (all guesses 0)
  where
    all : (gs : List Bool) (w : ℕ) → Keeping rule w gs
    all [] w = tt
    all (g ∷ gs) w = (allows-all rule w g e h, all gs (window_behind rule w g))

pub no_rule_kept : (guesses : List Bool) → KeepsRule no_rule guesses
no_rule_kept guesses = none_forbidden no_rule refl (omega arith) guesses
