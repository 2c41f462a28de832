-- Where the rows of a recording are a packet trace, a cursor finds what is recorded at its instant, and passes on to the next.
use Prim.Native.Nat.{ℕ, zero, suc, ◌+◌, ◌≤◌, ◌<◌}
use native.Mathlib.Decide.{dec_lt}
use native.Mathlib.Nat.{not-suc-le-zero}
use native.Mathlib.Omega.{arith}
use mathlib.Core.Path.{◌≡◌, refl, sym, ap, ◌∙◌}
use mathlib.Core.List.{List, [], ◌∷◌}
use mathlib.Core.Bool.{Bool, true, false, false≢true}
use Rattle.std.specs.Prelude.{Some, None}
use lib.ListN.{length, get_or, get_or-append}
use lib.Dec.{ltb, eqb}
use borrow.Author.Tests.{lt-ltb, eq-eqb, ltb-true, eqb-true}
use Rattle.model.specs.Limits.{row_limit}
use Rattle.model.specs.Bytes.{tab, padded}
use Rattle.model.specs.Monitor.{Monitor}
use Rattle.model.specs.Trace.{Packet, Spaced, PacketTrace}
use Rattle.model.specs.Recording.{count_at, time_at, row_kind_at, recording_parts, packets_of, packets_at}
use Rattle.model.specs.Situation.{recorded_at}
use Rattle.model.proofs.Basics.{length-tab, get_or-tab, and_left, and_right}
use Rattle.model.proofs.Instants.{recorded_here, recorded_later}
use Rattle.situation.specs.Rows.{is_at, heard_at, passed_by, Cursor}

-- on packets

nowhere : Packet
nowhere = record { time = 0; kind = 0 }

abbrev time : List Packet → ℕ → ℕ
time ps k = (get_or ps k nowhere).time

recorded_none : (ps : List Packet) (t : ℕ) → ((k : ℕ) → k < length ps → time ps k ≡ t → ⊥) → recorded_at ps t ≡ None
unfolding recorded_at
recorded_none [] t other = refl
recorded_none (p ∷ r) t other = recorded_later p r t (other 0 (omega arith)) ∙ recorded_none r t (λ k h. other (suc k) (omega arith))

recorded_first : (ps : List Packet) (i t : ℕ) → i < length ps → time ps i ≡ t → ((k : ℕ) → k < i → time ps k ≡ t → ⊥) → recorded_at ps t ≡ Some (get_or ps i nowhere).kind
recorded_first [] i t h e other = absurd (not-suc-le-zero h)
recorded_first (p ∷ r) zero t h e other = recorded_here p r t e
recorded_first (p ∷ r) (suc i) t h e other =
    recorded_later p r t (other 0 (omega arith)) ∙ recorded_first r i t (omega arith) e (λ k l. other (suc k) (omega arith))

module _ (m : Monitor) where
  later : (p : Packet) (r : List Packet) → Spaced m p r → (k : ℕ) → k < length r → p.time < time r k
  later p [] s k h = absurd (not-suc-le-zero h)
  later p (q ∷ r) s zero h = omega arith
  later p (q ∷ r) s (suc k) h = let l : q.time < time r k = later q r s.1 k (omega arith) in omega arith

  spaced_rise : (p : Packet) (r : List Packet) → Spaced m p r → (j k : ℕ) → j < k → k < suc (length r) → time (p ∷ r) j < time (p ∷ r) k
  spaced_rise p r s j zero l h = absurd (not-suc-le-zero l)
  spaced_rise p r s zero (suc k) l h = later p r s k (omega arith)
  spaced_rise p [] s (suc j) (suc k) l h = absurd (not-suc-le-zero {n = k} (omega arith))
  spaced_rise p (q ∷ r) s (suc j) (suc k) l h = spaced_rise q r s.1 j k (omega arith) (omega arith)

  rise : (ps : List Packet) → PacketTrace m ps → (j k : ℕ) → j < k → k < length ps → time ps j < time ps k
  rise [] s j k l h = absurd (not-suc-le-zero h)
  rise (p ∷ r) s j k l h = spaced_rise p r s.1 j k l h

  positive : (ps : List Packet) → PacketTrace m ps → (k : ℕ) → k < length ps → 1 ≤ time ps k
  positive [] s k h = absurd (not-suc-le-zero h)
  positive (p ∷ r) s zero h = s.0
  positive (p ∷ r) s (suc k) h = let l : p.time < time r k = later p r s.1 k (omega arith) in omega arith

-- on bytes

column : (f : ℕ → ℕ) (k n : ℕ) → k < n → get_or (padded row_limit (tab f n)) k 0 ≡ f k
unfolding padded
column f k n h = get_or-append (tab f n) _ 0 k (omega (arith, length-tab f n)) ∙ get_or-tab f 0 n k h

row : (b : List ℕ) (k : ℕ) → k < count_at b → get_or (packets_at b) k nowhere ≡ record { time = time_at b k; kind = row_kind_at b k }
unfolding packets_of recording_parts
row b k h = get_or-tab _ nowhere (count_at b) k h ∙ (λ i. record { time = column (time_at b) k _ h i; kind = column (row_kind_at b) k _ h i })

row-time : (b : List ℕ) (k : ℕ) → k < count_at b → time (packets_at b) k ≡ time_at b k
row-time b k h = ap (λ (p : Packet). p.time) (row b k h)

pub row_count : (b : List ℕ) → length (packets_at b) ≡ count_at b
unfolding packets_of recording_parts
row_count b = length-tab _ (count_at b)

module _ (b : List ℕ) (i t : ℕ) where
  pub at_row : i < count_at b → is_at b i t ≡ eqb (time_at b i) t
  unfolding is_at
  at_row h = simp (lt-ltb _ _ h)

  is_at_lem : is_at b i t ≡ true → (i < count_at b) × (time_at b i ≡ t)
  unfolding is_at
  is_at_lem e = (
    ltb-true i (count_at b) (and_left (ltb i (count_at b)) (eqb (time_at b i) t) e),
    eqb-true (time_at b i) t (and_right (ltb i (count_at b)) (eqb (time_at b i) t) e),
  )

  is_not : is_at b i t ≡ false → i < count_at b → time_at b i ≡ t → ⊥
  is_not e h q = false≢true (sym e ∙ at_row h ∙ eq-eqb (time_at b i) t q)

module _ (m : Monitor) (b : List ℕ) (trace : PacketTrace m (packets_at b)) where
  pub times_rise : (j k : ℕ) → j < k → k < count_at b → time_at b j < time_at b k
  times_rise j k l h =
      omega (arith, row-time b j (omega arith), row-time b k h, rise m (packets_at b) trace j k l (omega (arith, row_count b)))

  -- before instant 1 no row is behind
  pub first-cursor : Cursor b 0 1
  first-cursor =
      record {
        within = omega arith;
        before = λ k h. absurd (not-suc-le-zero h);
        behind = λ k l h. omega (arith, row-time b k h, positive m (packets_at b) trace k (omega (arith, row_count b)));
      }

  module _ {i t : ℕ} (at : Cursor b i t) where
    -- a row at instant t can only be row i
    only : (k : ℕ) → k < count_at b → time_at b k ≡ t → k ≡ i
    only k h e = on (dec_lt k i) (dec_lt i k)
      where
        on : Dec (k < i) → Dec (i < k) → k ≡ i
        on (yes l) d = omega (arith, at.before k l)
        on (no l) (yes g) = omega (arith, times_rise i k g h, at.behind i (omega arith) (omega arith))
        on (no l) (no g) = omega arith

    pub heard_recorded : heard_at b i t ≡ recorded_at (packets_at b) t
    unfolding heard_at
    heard_recorded = on (is_at b i t) refl
      where
        on : (found : Bool) → is_at b i t ≡ found → heard_at b i t ≡ recorded_at (packets_at b) t
        on true e =
            let (h, q) = is_at_lem b i t e in
            (simp e)
            ∙ sym
            (recorded_first (packets_at b) i t (omega (arith, row_count b)) (row-time b i h ∙ q)
            (λ k l w. omega (arith, at.before k l, row-time b k (omega arith)))
            ∙ ap (λ (p : Packet). Some p.kind) (row b i h))
        on false e =
            (simp e)
            ∙ sym
            (recorded_none (packets_at b) t
            (λ k l w.
            let h : k < count_at b = omega (arith, row_count b) in
            let q : time_at b k ≡ t = sym (row-time b k h) ∙ w in
            let same : k ≡ i = only k h q in
            is_not b i t e (omega arith) (ap (time_at b) (sym same) ∙ q)))

    up_to : (k : ℕ) → k < i + 1 → time_at b i ≡ t → time_at b k < t + 1
    up_to k l q = on (dec_lt k i)
      where
        on : Dec (k < i) → time_at b k < t + 1
        on (yes g) = omega (arith, at.before k g)
        on (no g) = let same : k ≡ i = omega arith in omega (arith, ap (time_at b) same)

    past : (k : ℕ) → i ≤ k → k < count_at b → (i < count_at b → time_at b i ≡ t → ⊥) → t + 1 ≤ time_at b k
    past k l g other = on (dec_lt t (time_at b k))
      where
        on : Dec (t < time_at b k) → t + 1 ≤ time_at b k
        on (yes h) = omega arith
        on (no h) =
            let q : time_at b k ≡ t = omega (arith, at.behind k l g) in
            let same : k ≡ i = only k g q in
            absurd (other (omega arith) (ap (time_at b) (sym same) ∙ q))

    -- so the next cursor has exactly the rows with times at most t before it
    pub passed_cursor : Cursor b (passed_by b i t) (t + 1)
    unfolding passed_by
    passed_cursor = on (is_at b i t) refl
      where
        on : (found : Bool) → is_at b i t ≡ found → Cursor b (passed_by b i t) (t + 1)
        on true e =
            let (h, q) = is_at_lem b i t e in
            rw e
            (record {
              within = omega arith;
              before = λ k l. up_to k l q;
              behind = λ k l g. omega (arith, times_rise i k (omega arith) g);
            })
        on false e =
            rw e
            (record {
              within = at.within;
              before = λ k l. omega (arith, at.before k l);
              behind = λ k l g. past k l g (is_not b i t e);
            })
