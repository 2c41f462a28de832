-- Rows of the scratch by their places and as bytes, and the sets and the step of a monitor and a recording.
use Prim.Native.Nat.{ℕ, ◌+◌, ◌-◌, ◌*◌, ◌/◌, ◌%◌, ◌<◌, ◌≤◌}
use native.Mathlib.Nat.{mul_assoc, mul-suc, mul-le-mul, mul-le-mul_left}
use native.Mathlib.Numerals.{add-one}
use native.Mathlib.Omega.{arith}
use mathlib.Core.Path.{◌≡◌, sym, ap, ◌∙◌}
use mathlib.Core.Logic.{◌⊎◌, inl, inr}
use mathlib.Core.List.{List, ◌++◌}
use mathlib.Core.Bool.{Bool}
use Rattle.std.specs.Prelude.{Option}
use mir.Syntax.{w64}
use mir.Val.{Fits}
use lib.ListN.{length, take, drop, length-append, length-take, length-drop, take-append-drop, get_or-append}
use lib.Seq.{length-take-le, drop_at}
use Rattle.model.specs.Size
use Rattle.model.specs.Monitor.{Monitor}
use Rattle.model.specs.Recording.{packets_at}
use Rattle.model.specs.Situation.{step_number}
use Rattle.model.specs.Validation.{possible_after}
use Rattle.bits.specs.Member.{bit, mem}
use Rattle.bits.proofs.Laws.{mem-drop, mem_part}
use Rattle.rows.specs.Bytes.{Is8}

-- rows of w places, one behind the other

pub next_row : (w t : ℕ) → w * (t + 1) ≡ w * t + w
next_row w t = ap (λ (n : ℕ). w * n) (add-one t) ∙ mul-suc w t

pub row_before : (w u t : ℕ) → u < t → w * u + w ≤ w * t
row_before w u t h = omega (arith, mul-suc w u, mul-le-mul_left w h)

-- the row of instant t ends within the rows up to that of instant last
pub row-end : (w t last : ℕ) → t ≤ last → w * t + w ≤ w * (last + 1)
row-end w t last h = row_before w t (last + 1) (omega arith)

-- products of numbers up to 65,536 fit
pub product : (a b : ℕ) → a ≤ 65536 → b ≤ 65536 → Fits w64 (a * b)
product a b h l = let p : a * b ≤ 65536 * 65536 = mul-le-mul h l in record { fits = omega arith }

-- rows of at most 8,192 bytes start below 2 ^ 32
pub row-start : (row t : ℕ) → row ≤ 8192 → t < 65536 → 8 * row * t < 4294967296
row-start row t h l =
    let wide : 8 * row ≤ 65536 = omega arith in
    let early : t ≤ 65535 = omega arith in
    omega (arith, mul-le-mul wide early)

-- N, the step, and the situations possible after an instant

abbrev pub size_of : Monitor → ℕ
size_of m = Size.size m

abbrev pub step_of : Monitor → (recording : List ℕ) → (t n k : ℕ) → Option ℕ
step_of m recording = step_number m (packets_at recording)

abbrev pub possible : Monitor → (recording : List ℕ) → ℕ → List Bool
possible m recording = possible_after m (packets_at recording)

-- sets in bytes, one behind the other

mem-left : (p q : List ℕ) (i : ℕ) → i < 8 * length p → mem (p ++ q) i ≡ mem p i
unfolding mem
mem-left p q i h = ap (λ (b : ℕ). bit b (i % 8)) (get_or-append p q 0 (i / 8) (omega arith))

mem-right : (p q : List ℕ) (n i : ℕ) → length p ≡ n → mem (p ++ q) (8 * n + i) ≡ mem q i
mem-right p q n i e = sym (mem-drop (p ++ q) n i) ∙ ap (λ (l : List ℕ). mem l i) (drop_at p q n e)

-- the bytes of the row of instant t, and the scratch with others in their place

abbrev pub row_at : List ℕ → (row t : ℕ) → List ℕ
row_at scratch row t = take (row * t + row - row * t) (drop (row * t) scratch)

abbrev pub row_put : List ℕ → (row t : ℕ) → List ℕ → List ℕ
row_put scratch row t part = take (row * t) scratch ++ (part ++ drop (row * t + row - row * t) (drop (row * t) scratch))

-- the row of instant t is p, and no other row has changed
pub record RowIs (p : ℕ → Bool) (row t : ℕ) (before after : List ℕ) : Type 0 where
  pub long : length after ≡ length before
  pub here : (z : ℕ) → z < 8 * row → mem after (8 * row * t + z) ≡ p z
  pub others : (k : ℕ) → (k < 8 * row * t) ⊎ (8 * row * (t + 1) ≤ k) → mem after k ≡ mem before k

module _ (scratch : List ℕ) (row t : ℕ) where
  pub row-mem : (z : ℕ) → z < 8 * row → mem (row_at scratch row t) z ≡ mem scratch (8 * row * t + z)
  row-mem z h =
      mem_part scratch (row * t) (row * t + row - row * t) z (omega arith) ∙ ap (λ (n : ℕ). mem scratch (n + z)) (sym (mul_assoc 8 row t))

  module _ (fits : row * t + row ≤ length scratch) where
    pub row-length : length (row_at scratch row t) ≡ row
    row-length = omega (arith, length-take (row * t + row - row * t) (drop (row * t) scratch), length-drop (row * t) scratch)

    -- a set that is stored in the bytes of the row is the row
    pub row-stored : {p : ℕ → Bool} {part : List ℕ} → Is8 p (row_at scratch row t) part → RowIs p row t scratch (row_put scratch row t part)
    row-stored {p} {part} stored = record { long = simp (length-append, length-drop) (omega (arith, front, new)); here = here; others = others }
      where
        front : length (take (row * t) scratch) ≡ row * t
        front = length-take-le (row * t) scratch (omega arith)

        new : length part ≡ row
        new = stored.size ∙ row-length

        behind : List ℕ
        behind = drop (row * t + row - row * t) (drop (row * t) scratch)

        place : 8 * row * t ≡ 8 * (row * t)
        place = mul_assoc 8 row t

        from : (i : ℕ) → mem (row_put scratch row t part) (8 * row * t + i) ≡ mem (part ++ behind) i
        from i = ap (λ (n : ℕ). mem (row_put scratch row t part) (n + i)) place ∙ mem-right (take (row * t) scratch) (part ++ behind) (row * t) i front

        here : (z : ℕ) → z < 8 * row → mem (row_put scratch row t part) (8 * row * t + z) ≡ p z
        here z l = from z ∙ mem-left part behind z (omega (arith, new)) ∙ stored.all z (omega (arith, row-length))

        others : (k : ℕ) → (k < 8 * row * t) ⊎ (8 * row * (t + 1) ≤ k) → mem (row_put scratch row t part) k ≡ mem scratch k
        others k (inl h) =
            let before : k < 8 * length (take (row * t) scratch) = omega (arith, front, place) in
            mem-left (take (row * t) scratch) (part ++ behind) k before
            ∙ sym (mem-left (take (row * t) scratch) (drop (row * t) scratch) k before)
            ∙ ap (λ (l : List ℕ). mem l k) (take-append-drop (row * t) scratch)
        others k (inr h) =
            let e : k ≡ 8 * row * t + (8 * row + (k - (8 * row * t + 8 * row))) = omega (arith, next_row (8 * row) t) in
            let w : 8 * (row * t) + (8 * (row * t + row - row * t) + (k - (8 * row * t + 8 * row))) ≡ k = omega (arith, place, e) in
            ap (mem (row_put scratch row t part)) e
            ∙ from (8 * row + (k - (8 * row * t + 8 * row)))
            ∙ mem-right part behind row (k - (8 * row * t + 8 * row)) new
            ∙ mem-drop (drop (row * t) scratch) (row * t + row - row * t) (k - (8 * row * t + 8 * row))
            ∙ mem-drop scratch (row * t) (8 * (row * t + row - row * t) + (k - (8 * row * t + 8 * row)))
            ∙ ap (mem scratch) w
