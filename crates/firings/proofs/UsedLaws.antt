-- Masks with one bit more, and the choices of clocks that transitions reset. Assumes nothing.
use Prim.Native.Nat.{ℕ, ◌+◌, ◌-◌, ◌*◌, ◌%◌, ◌^◌, ◌<◌}
use native.Mathlib.Decide.{dec_lt, ℕ_discrete}
use native.Mathlib.Numerals.{add-one}
use native.Mathlib.Omega.{arith}
use mathlib.Core.Path.{◌≡◌, refl, ap, ◌∙◌}
use mathlib.Core.List.{List}
use mathlib.Core.Bool.{Bool, true, false, ◌&&◌, ◌||◌, and-false, or-false}
use borrow.Author.Tests.{lt-ltb, le-leb, lt-leb, eq-eqb, ne_eqb}
use lib.Bits.{bit_or}
use lib.Dec.{eqb, leb, ltb}
use lib.ListN.{get_or}
use Rattle.words.specs.Words.{bit, any_below}
use Rattle.words.proofs.Bit.{bit_or_lem, bit_shl, bit_past, bit_zero}
use Rattle.monitor.specs.From.{transition_from}
use Rattle.firings.specs.declared.Plan.{Plan}
use Rattle.firings.specs.Fired.{fires_now}
use Rattle.firings.specs.Used.{uses_in, used_by}

bit-first : bit 1 0 ≡ true
unfolding bit
bit-first = refl

-- a mask of one bit
pub bit_one : (s r : ℕ) → s < 64 → bit (1 * 2 ^ s % 2 ^ 64) r ≡ eqb s r
bit_one s r h = bit_shl 1 s r ∙ by (ℕ_discrete s r) (dec_lt r s)
  where
    by : Dec (s ≡ r) → Dec (r < s) → (ltb r 64 && (leb s r && bit 1 (r - s))) ≡ eqb s r
    by (yes e) d =
        let z : r - s ≡ 0 = omega arith in
        simp (lt-ltb r 64 (omega arith), le-leb s r (omega arith), z, bit-first, eq-eqb s r e)
    by (no e) (yes l) = simp (lt-leb s r l, and-false, ne_eqb s r e)
    by (no e) (no l) = simp (bit_past 1 1 (r - s) (omega arith) (omega arith), and-false, ne_eqb s r e)

pub bit-more : (x s r : ℕ) → s < 64 → bit (bit_or x (1 * 2 ^ s % 2 ^ 64)) r ≡ (bit x r || eqb s r)
bit-more x s r h = bit_or_lem x (1 * 2 ^ s % 2 ^ 64) r ∙ ap (λ (b : Bool). bit x r || b) (bit_one s r h)

-- transition j, whose record is at an offset
module _ (p : Plan) (table offsets : List ℕ) (r : ℕ) where
  pub used_none : bit 0 r ≡ used_by p table offsets 0 r
  unfolding used_by any_below
  used_none = bit_zero r

  used_more : (j : ℕ) → used_by p table offsets (j + 1) r ≡ (used_by p table offsets j r || uses_in p table offsets r j)
  unfolding used_by any_below
  used_more j = rw add-one

  module _ (j at found : ℕ) (e : at ≡ get_or offsets j 0) (before : bit found r ≡ used_by p table offsets j r) where
    pub used_rests : fires_now p (transition_from table at) ≡ false → bit found r ≡ used_by p table offsets (j + 1) r
    unfolding uses_in
    used_rests h = rw (used_more j) (simp (← e, h, or-false) before)

    pub used_one : (s : ℕ) → fires_now p (transition_from table at) ≡ true → s ≡ (transition_from table at).resets % 4
        → bit (bit_or found (1 * 2 ^ s % 2 ^ 64)) r ≡ used_by p table offsets (j + 1) r
    unfolding uses_in
    used_one s h k = bit-more found s r (omega arith) ∙ rw (used_more j) (simp (← e, h, ← k, before))

pub ruleset uses = (used_none, used_rests, used_one)
