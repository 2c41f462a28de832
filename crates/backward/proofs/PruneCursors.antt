-- A cursor that goes back: from the row count, at T + 1, to the rows before each instant.
use Prim.Native.Nat.{ℕ, zero, suc, ◌+◌, ◌-◌, ◌≤◌, ◌<◌}
use native.Mathlib.Decide.{dec_lt}
use native.Mathlib.Omega.{arith}
use mathlib.Core.Path.{◌≡◌, refl, sym, ap, ◌∙◌}
use mathlib.Core.List.{List}
use mathlib.Core.Bool.{Bool, true, false, cond, false≢true}
use lib.Dec.{ltb, eqb}
use borrow.Author.Tests.{eq-eqb, eqb-true}
use Rattle.model.specs.Monitor.{Monitor}
use Rattle.model.specs.Trace.{PacketTrace}
use Rattle.model.specs.Recording.{count_at, time_at, packets_at, end_of}
use Rattle.model.proofs.Basics.{and_right}
use Rattle.situation.specs.Rows.{is_at, Cursor}
use Rattle.situation.proofs.Cursors.{at_row, times_rise}
use Rattle.measures.proofs.Ends.{end-time}
use Rattle.backward.specs.PruneRows.{cursor_before}

at_instant : (b : List ℕ) (i t : ℕ) → is_at b i t ≡ true → time_at b i ≡ t
unfolding is_at
at_instant b i t e = eqb-true (time_at b i) t (and_right (ltb i (count_at b)) (eqb (time_at b i) t) e)

module _ (m : Monitor) (b : List ℕ) (trace : PacketTrace m (packets_at b)) where
  pub last-cursor : Cursor b (count_at b) (end_of (packets_at b) + 1)
  last-cursor = record { within = omega arith; before = λ k h. early k h (count_at b) refl; behind = λ k l h. absurd (omega arith) }
    where
      early : (k : ℕ) → k < count_at b → (n : ℕ) → count_at b ≡ n → time_at b k < end_of (packets_at b) + 1
      early k h zero e = absurd (omega arith)
      early k h (suc n) e = on (dec_lt k n)
        where
          on : Dec (k < n) → time_at b k < end_of (packets_at b) + 1
          on (yes l) = omega (arith, end-time b n e, times_rise m b trace k n l (omega arith))
          on (no l) = let same : k ≡ n = omega arith in omega (arith, end-time b n e, ap (time_at b) same)

  -- exactly the rows with times below t are before the cursor that has gone back
  pub back-cursor : {j t : ℕ} → Cursor b j (t + 1) → Cursor b (cursor_before b j t) t
  unfolding cursor_before
  back-cursor {j} {t} at = on (is_at b (j - 1) t) refl
    where
      not_last : is_at b (j - 1) t ≡ false → j - 1 < count_at b → time_at b (j - 1) ≡ t → ⊥
      not_last e h q = false≢true (sym e ∙ at_row b (j - 1) t h ∙ eq-eqb (time_at b (j - 1)) t q)

      earlier : time_at b (j - 1) ≡ t → (k : ℕ) → k < j - 1 → time_at b k < t
      earlier q k l = omega (arith, times_rise m b trace k (j - 1) l (omega (arith, at.within)))

      from : time_at b (j - 1) ≡ t → (k : ℕ) → j - 1 ≤ k → k < count_at b → t ≤ time_at b k
      from q k l h = by (dec_lt k j)
        where
          by : Dec (k < j) → t ≤ time_at b k
          by (yes g) = let same : k ≡ j - 1 = omega arith in omega (arith, ap (time_at b) same)
          by (no g) = omega (arith, at.behind k (omega arith) h)

      up_to : (time_at b (j - 1) ≡ t → ⊥) → (k : ℕ) → k < j → time_at b k < t
      up_to other k l = by (dec_lt k (j - 1))
        where
          last : time_at b (j - 1) < t + 1
          last = at.before (j - 1) (omega arith)

          by : Dec (k < j - 1) → time_at b k < t
          by (yes g) = omega (arith, last, times_rise m b trace k (j - 1) g (omega (arith, at.within)))
          by (no g) =
              let same : k ≡ j - 1 = omega arith in
              let not : time_at b k ≡ t → ⊥ = λ q. other (ap (time_at b) (sym same) ∙ q) in
              omega (arith, at.before k l)

      on : (found : Bool) → is_at b (j - 1) t ≡ found → Cursor b (cond (is_at b (j - 1) t) (j - 1) j) t
      on true e =
          rw e
          (record {
            within = omega (arith, at.within);
            before = earlier (at_instant b (j - 1) t e);
            behind = from (at_instant b (j - 1) t e);
          })
      on false e =
          rw e
          (record {
            within = at.within;
            before = λ k l. up_to (not_last e (omega (arith, at.within))) k l;
            behind = λ k l h. omega (arith, at.behind k l h);
          })
