-- Words of a set that is moved. Assumes nothing.
use Rattle.std.proofs.Common.{ℕ, ◌+◌, ◌-◌, ◌*◌, ◌/◌, ◌%◌, ◌^◌, ◌≤◌, ◌<◌, arith}
use Rattle.std.proofs.Common.{◌≡◌, List, Bool, false, ◌&&◌, ◌||◌, leb, ltb, get_or, bit_and, bit_or, refl, sym, ap, ap₂, ◌∙◌}
use mathlib.Core.Bool.{and-false, or-false}
use native.Mathlib.Nat.{lt_of_not-le}
use native.Mathlib.Decide.{dec_lt, dec_le}
use borrow.Author.Tests.{lt-ltb, le-ltb, le-leb, lt-leb}
use Rattle.words.specs.Words.{bit, mem}
use Rattle.words.proofs.Bit.{bit_or_lem, bit_and_lem, bit_zero, bit_past, bit_shr, bit_shl, bit_shl_twice, bit_not}
use Rattle.words.proofs.Sets.{mem_at}
use Rattle.shifts.specs.Filled.{IsWord}
use Rattle.shifts.specs.Shifted.{moved, upward, downward, cut_and_kept}

-- whole words further up
leb_same : (a b c d : ℕ) → (a ≤ b → c ≤ d) → (c ≤ d → a ≤ b) → Dec (a ≤ b) → leb a b ≡ leb c d
leb_same a b c d f g (yes h) = le-leb a b h ∙ sym (le-leb c d (f h))
leb_same a b c d f g (no h) = lt-leb a b (omega arith) ∙ sym (lt-leb c d (lt_of_not-le (λ l. h (g l))))

module _ (s : List ℕ) (k by : ℕ) where
  pub before-bits : (x : ℕ) → by ≤ k → x ≡ get_or s (k - by) 0 → x < 2 ^ 64 → IsWord (moved upward (64 * by) (mem s)) k x
  before-bits x h e small = record { bits = λ j. at j (dec_lt j 64) }
    where
      at : (j : ℕ) → Dec (j < 64) → bit x j ≡ (ltb j 64 && (leb (64 * by) (64 * k + j) && mem s (64 * k + j - 64 * by)))
      at j (yes l) = simp (lt-ltb j 64 l, le-leb (64 * by) (64 * k + j) (omega arith), mem_at s (64 * k + j - 64 * by) (k - by) j (omega arith) l, ← e)
      at j (no l) = simp (le-ltb j 64 (omega arith), bit_past 64 x j small (omega arith))

  pub before_none : k < by → IsWord (moved upward (64 * by) (mem s)) k 0
  before_none h = record { bits = λ j. bit_zero j ∙ at j (dec_lt j 64) }
    where
      at : (j : ℕ) → Dec (j < 64) → false ≡ (ltb j 64 && (leb (64 * by) (64 * k + j) && mem s (64 * k + j - 64 * by)))
      at j (yes l) = simp (lt-leb (64 * by) (64 * k + j) (omega arith), and-false)
      at j (no l) = simp (le-ltb j 64 (omega arith))

  -- and further down
  pub behind-bits : (x : ℕ) → x ≡ get_or s (k + by) 0 → x < 2 ^ 64 → IsWord (moved downward (64 * by) (mem s)) k x
  behind-bits x e small = record { bits = λ j. at j (dec_lt j 64) }
    where
      at : (j : ℕ) → Dec (j < 64) → bit x j ≡ (ltb j 64 && mem s (64 * k + j + 64 * by))
      at j (yes l) = simp (lt-ltb j 64 l, mem_at s (64 * k + j + 64 * by) (k + by) j (omega arith) l, ← e)
      at j (no l) = simp (le-ltb j 64 (omega arith), bit_past 64 x j small (omega arith))

-- two words, joined
module _ (p : ℕ → Bool) (w k x y : ℕ) where
  module _ (bx : IsWord (moved upward (64 * (k / 64)) p) w x) (by : IsWord (moved upward (64 * (k / 64 + 1)) p) w y) where
    up_at : (j : ℕ) → Dec (j < 64) → Dec (k % 64 ≤ j)
        → ((ltb j 64 && (leb (k % 64) j && bit x (j - k % 64))) || bit y (1 + (63 - k % 64 + j))) ≡ (ltb j 64 && (leb k (64 * w + j) && p (64 * w + j - k)))
    up_at j (no h) e = simp (le-ltb j 64 (omega arith)) (by.bits (1 + (63 - k % 64 + j)) ∙ simp (le-ltb (1 + (63 - k % 64 + j)) 64 (omega arith)))
    up_at j (yes h) (yes e) =
        let n : 64 * w + (j - k % 64) - 64 * (k / 64) ≡ 64 * w + j - k = omega arith in
        ap₂ (λ (a b : Bool). (ltb j 64 && (leb (k % 64) j && a)) || b) (bx.bits (j - k % 64)) (by.bits (1 + (63 - k % 64 + j)))
        ∙ simp (
          lt-ltb j 64 h,
          le-leb (k % 64) j e,
          lt-ltb (j - k % 64) 64 (omega arith),
          le-ltb (1 + (63 - k % 64 + j)) 64 (omega arith),
          leb_same (64 * (k / 64)) (64 * w + (j - k % 64)) k (64 * w + j) (λ l. omega arith) (λ l. omega arith) (dec_le (64 * (k / 64)) (64 * w + (j - k % 64))),
          or-false,
          n,
        )
    up_at j (yes h) (no e) =
        let n : 64 * w + (1 + (63 - k % 64 + j)) - 64 * (k / 64 + 1) ≡ 64 * w + j - k = omega arith in
        ap (λ (b : Bool). (ltb j 64 && (leb (k % 64) j && bit x (j - k % 64))) || b) (by.bits (1 + (63 - k % 64 + j)))
        ∙ simp (
          lt-ltb j 64 h,
          lt-leb (k % 64) j (omega arith),
          lt-ltb (1 + (63 - k % 64 + j)) 64 (omega arith),
          leb_same (64 * (k / 64 + 1)) (64 * w + (1 + (63 - k % 64 + j))) k (64 * w + j) (λ l. omega arith) (λ l. omega arith)
              (dec_le (64 * (k / 64 + 1)) (64 * w + (1 + (63 - k % 64 + j)))),
          n,
        )

    pub up-bits : IsWord (moved upward k p) w (bit_or (x * 2 ^ (k % 64) % 2 ^ 64) (y / 2 ^ 1 / 2 ^ (63 - k % 64)))
    up-bits =
        record {
          bits =
              λ j. bit_or_lem (x * 2 ^ (k % 64) % 2 ^ 64) (y / 2 ^ 1 / 2 ^ (63 - k % 64)) j
              ∙ ap₂ (λ (a b : Bool). a || b) (bit_shl x (k % 64) j) (bit_shr (y / 2 ^ 1) (63 - k % 64) j ∙ bit_shr y 1 (63 - k % 64 + j))
              ∙ up_at j (dec_lt j 64) (dec_le (k % 64) j);
        }

  module _ (bx : IsWord (moved downward (64 * (k / 64)) p) w x) (by : IsWord (moved downward (64 * (k / 64 + 1)) p) w y) where
    down_at : (j : ℕ) → Dec (j < 64) → Dec (k % 64 + j < 64)
        → (bit x (k % 64 + j) || (ltb j 64 && (ltb (63 - k % 64) j && bit y (j - (63 - k % 64 + 1))))) ≡ (ltb j 64 && p (64 * w + j + k))
    down_at j (no h) e = simp (le-ltb j 64 (omega arith)) (ap (λ (b : Bool). b || false) (bx.bits (k % 64 + j)) ∙ simp (le-ltb (k % 64 + j) 64 (omega arith)))
    down_at j (yes h) (yes e) =
        let n : 64 * w + (k % 64 + j) + 64 * (k / 64) ≡ 64 * w + j + k = omega arith in
        ap (λ (b : Bool). b || (ltb j 64 && (ltb (63 - k % 64) j && bit y (j - (63 - k % 64 + 1))))) (bx.bits (k % 64 + j))
        ∙ simp (lt-ltb j 64 h, lt-ltb (k % 64 + j) 64 e, le-ltb (63 - k % 64) j (omega arith), or-false, n)
    down_at j (yes h) (no e) =
        let n : 64 * w + (j - (63 - k % 64 + 1)) + 64 * (k / 64 + 1) ≡ 64 * w + j + k = omega arith in
        ap₂ (λ (a b : Bool). a || (ltb j 64 && (ltb (63 - k % 64) j && b))) (bx.bits (k % 64 + j)) (by.bits (j - (63 - k % 64 + 1)))
        ∙ simp (lt-ltb j 64 h, le-ltb (k % 64 + j) 64 (omega arith), lt-ltb (63 - k % 64) j (omega arith), lt-ltb (j - (63 - k % 64 + 1)) 64 (omega arith), n)

    pub down_bits : IsWord (moved downward k p) w (bit_or (x / 2 ^ (k % 64)) (y * 2 ^ 1 % 2 ^ 64 * 2 ^ (63 - k % 64) % 2 ^ 64))
    down_bits =
        record {
          bits =
              λ j. bit_or_lem (x / 2 ^ (k % 64)) (y * 2 ^ 1 % 2 ^ 64 * 2 ^ (63 - k % 64) % 2 ^ 64) j
              ∙ ap₂ (λ (a b : Bool). a || b) (bit_shr x (k % 64) j) (bit_shl_twice y (63 - k % 64) j)
              ∙ down_at j (dec_lt j 64) (dec_lt (k % 64 + j) 64);
        }

-- one word of what is moved, cut and kept
module _ (p : ℕ → Bool) (src keep cut : List ℕ) (w u x y z : ℕ) (bu : IsWord p w u)
    (ez : z ≡ get_or cut w 0) (ex : x ≡ get_or src w 0) (ey : y ≡ get_or keep w 0) (sz : z < 2 ^ 64) (sx : x < 2 ^ 64) where
  kept_at : (j : ℕ) → Dec (j < 64) → bit (bit_or (bit_and u (2 ^ 64 - 1 - z)) (bit_and x y)) j ≡ (ltb j 64 && cut_and_kept p src keep cut (64 * w + j))
  kept_at j (yes h) =
      bit_or_lem (bit_and u (2 ^ 64 - 1 - z)) (bit_and x y) j
      ∙ ap₂ (λ (a b : Bool). a || b) (bit_and_lem u (2 ^ 64 - 1 - z) j ∙ ap₂ (λ (a b : Bool). a && b) (bu.bits j) (bit_not 64 z j sz h)) (bit_and_lem x y j)
      ∙ simp (lt-ltb j 64 h, mem_at src (64 * w + j) w j refl h, mem_at keep (64 * w + j) w j refl h, mem_at cut (64 * w + j) w j refl h, ← ez, ← ex, ← ey)
  kept_at j (no h) =
      bit_or_lem (bit_and u (2 ^ 64 - 1 - z)) (bit_and x y) j
      ∙ ap₂ (λ (a b : Bool). a || b) (bit_and_lem u (2 ^ 64 - 1 - z) j ∙ ap (λ (a : Bool). a && bit (2 ^ 64 - 1 - z) j) (bu.bits j)) (bit_and_lem x y j)
      ∙ simp (le-ltb j 64 (omega arith), bit_past 64 x j sx (omega arith))

  pub kept-bits : IsWord (cut_and_kept p src keep cut) w (bit_or (bit_and u (2 ^ 64 - 1 - z)) (bit_and x y))
  kept-bits = record { bits = λ j. kept_at j (dec_lt j 64) }
