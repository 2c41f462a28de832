-- Demand 3: the verdict of the definitions is right in the paper's words.
use Prim.Native.Nat.{ℕ, ◌*◌, ◌<◌, ◌≤◌}
use native.Mathlib.Nat.{le_trans, not-le_of_lt}
use native.Mathlib.Omega.{arith}
use mathlib.Core.Path.{◌≡◌, refl, sym, ap, subst, ◌∙◌}
use mathlib.Core.Logic.{◌↔◌, ◌⊎◌, inl, inr}
use mathlib.Core.List.{List}
use mathlib.Core.Bool.{Bool, true, false}
use Rattle.std.specs.Prelude.{None}
use lib.ListN.{length}
use lib.Dec.{ltb}
use borrow.Author.Tests.{ltb-true, ltb-false, eqb-true, eqb-false}
use Rattle.model.specs.Rule.{Rule, no_rule}
use Rattle.model.specs.Monitor.{Monitor}
use Rattle.model.specs.Trace.{Packet, Possible, PossibleUnder}
use Rattle.model.specs.Size.{size}
use Rattle.model.specs.Table.{monitor_at}
use Rattle.model.specs.Recording.{SoundRecording, packets_at, end_of}
use Rattle.model.specs.Ruled.{monitor_under, SoundUnder}
use Rattle.model.specs.Witness.{Row}
use Rattle.model.specs.Rules.{broken, begin, Permits}
use Rattle.model.specs.Order.{Before, EndsBy, Preferred}
use Rattle.model.specs.Situation.{first_by, uncapped, move_limit, step_number, first_number}
use Rattle.model.specs.Layers.{count, is_empty}
use Rattle.model.specs.Validation.{rows_of, moves_of, preferred, verdict, cost_of, last_of, passing_of, possible_after, pairs_at}
use Rattle.model.specs.Claims.{FirstEmpty, FirstPast, Judged, JudgedUnder}
use Rattle.model.specs.declared.Readiness.TheVariants.{NotYet, NoMore}
use Rattle.model.specs.declared.Situation.{Situation}
use Rattle.model.specs.declared.Verdict.{Verdict}
use Rattle.model.specs.declared.Verdict.TheVariants.{Accepted, Rejected, Exhausted}
use Rattle.model.specs.Sane.{Sane, SaneRecording}
use Rattle.model.specs.Edition.{latest_time}
use Rattle.model.specs.declared.Edition.{Edition}
use Rattle.model.proofs.RuleLaws.{no_rule_kept}
use Rattle.model.proofs.RuledForm.{sane-under, sane_recording_under}
use Rattle.model.proofs.Chains.{Moves, Less}
use Rattle.model.proofs.TableForm.{sane_table, plain_rule}
use Rattle.model.proofs.RecordingForm.{sound_table, sane_recording}
use Rattle.model.proofs.LayerLaws.{reached, cost_le, last_le, last-before, passing_passes}
use Rattle.model.proofs.LeastLaws.{least, length_least}
use Rattle.model.proofs.Numbering.{first_number_below, numbered}
use Rattle.model.proofs.Capping.{same-moves}
use Rattle.model.proofs.PairLaws.{counted-pairs}
use Rattle.model.proofs.Explained.{unbroken_formed, explained_under}
use Rattle.model.proofs.ExplainedTraces.{explains_possible_under}
use Rattle.model.proofs.Ordered.{rows_before}
use Rattle.model.proofs.TraceMoves.{possible-moves}
use Rattle.model.proofs.MoveRows.{moves-permitted, rows_short}
use Rattle.model.proofs.RowMoves.{permitted-moves}
use Rattle.model.proofs.EditionLaws.{times-rows}

-- the verdict by two tests: is the cost above the budget, and is no situation left
abbrev verdict_by : Monitor → List Packet → ℕ → (over empty : Bool) → Verdict
verdict_by m recording budget true empty = Exhausted budget (passing_of m recording budget)
verdict_by m recording budget false true =
    Rejected (cost_of m recording) (last_of m recording) (pairs_at m recording NotYet (last_of m recording)) (pairs_at m recording NoMore (last_of m recording))
verdict_by m recording budget false false = Accepted (cost_of m recording) (length (preferred m recording))

verdict-is : (m : Monitor) (recording : List Packet) (budget : ℕ) (over empty : Bool)
    → ltb budget (cost_of m recording) ≡ over → is_empty (possible_after m recording (last_of m recording)) ≡ empty
    → verdict m recording budget ≡ verdict_by m recording budget over empty
unfolding verdict
verdict-is m recording budget true empty p q = rw (p, verdict)
verdict-is m recording budget false true p q = rw (p, q, verdict)
verdict-is m recording budget false false p q = rw (p, q, verdict)

module _ (edition : Edition) (m : Monitor) (recording : List Packet) (sane : Sane m) (sound : SaneRecording m recording) (fits : end_of recording ≤ latest_time edition) where
  -- a list of moves, one for each instant, that can be carried with real clocks
  abbrev Carried : Type 0
  Carried = (ks : List ℕ) × (z : Situation) × (length ks ≡ end_of recording) × Moves m recording 0 (first_by uncapped) ks z

  -- how many situations are left at the last instant that counts
  abbrev left : ℕ
  left = count (possible_after m recording (last_of m recording))

  carried-possible : Carried → PossibleUnder m recording
  carried-possible (ks, z, e, h) =
      let rows : List Row = rows_of m recording 1 ks in
      let u : broken edition m (begin recording) 0 rows ≡ None = (moves-permitted edition m recording sane sound fits ks z e h).0 in
      explains_possible_under m recording rows ((explained_under edition m recording rows sane.window (unbroken_formed edition m recording rows u)).0 u)

  carried-left : Carried → 0 < left
  carried-left (ks, z, e, h) =
      let led = (same-moves sane recording ks).1 (z, h) in
      (reached (size m) move_limit (step_number m recording) (first_number m) (first_number_below sane) (end_of recording)).1 (ks, led.0, e, led.1)

  left-carried : 0 < left → Carried
  left-carried h =
      let (ks, z, e, l) = (reached (size m) move_limit (step_number m recording) (first_number m) (first_number_below sane) (end_of recording)).0 h in
      let r = (same-moves sane recording ks).0 (z, l) in
      (ks, r.0, e, r.1)

  left-possible : (0 < left) ↔ PossibleUnder m recording
  left-possible = (λ h. carried-possible (left-carried h), λ p. carried-left (possible-moves m recording sane sound p))

  least_carried : Carried → (z : Situation) × Moves m recording 0 (first_by uncapped) (moves_of m recording) z
  least_carried (ks, z, e, h) =
      let led = (same-moves sane recording ks).1 (z, h) in
      (same-moves sane recording (moves_of m recording)).0
      (least (size m) move_limit (step_number m recording) (first_number m) (end_of recording) ks led.0 e led.1).0

  short : length (preferred m recording) ≤ end_of recording
  unfolding preferred
  short =
      let n = length_least (size m) move_limit (step_number m recording) (first_number m) (end_of recording) in
      let h = rows_short m recording 1 (moves_of m recording) in
      omega arith

  -- every other permitted witness comes from moves that the least ones come before
  before-others : Carried → (v : List Row) → Permits edition m recording v → EndsBy (end_of recording) v → (v ≡ preferred m recording → ⊥) → Before (preferred m recording) v
  unfolding preferred
  before-others c v p e other = by (permitted-moves edition m recording sane sound fits v p.unbroken e)
    where
      by : (ks : List ℕ) × (z : Situation) × (length ks ≡ end_of recording) × Moves m recording 0 (first_by uncapped) ks z × (rows_of m recording 1 ks ≡ v)
          → Before (rows_of m recording 1 (moves_of m recording)) v
      by (ks, z, l, h, r) =
          let led = (same-moves sane recording ks).1 (z, h) in
          decide (least (size m) move_limit (step_number m recording) (first_number m) (end_of recording) ks led.0 l led.1).1
        where
          decide : (ks ≡ moves_of m recording) ⊎ Less (moves_of m recording) ks → Before (rows_of m recording 1 (moves_of m recording)) v
          decide (inl same) = absurd (other (sym r ∙ ap (rows_of m recording 1) same))
          decide (inr less) =
              subst (λ (w : List Row). Before (rows_of m recording 1 (moves_of m recording)) w) r
              (rows_before m recording (moves_of m recording) ks (first_by uncapped) (least_carried c).0 (first_by uncapped) z (least_carried c).1 h less)

  preferred-first : Carried → Preferred edition m recording (preferred m recording)
  unfolding preferred
  preferred-first c =
      let n = length_least (size m) move_limit (step_number m recording) (first_number m) (end_of recording) in
      let w = least_carried c in
      let p = moves-permitted edition m recording sane sound fits (moves_of m recording) w.0 n w.1 in
      record {
        permitted = record { fits = le_trans short (le_trans fits (times-rows edition)); unbroken = p.0 };
        ends = p.1;
        first = before-others c;
      }

  -- where a mutation trace that keeps the rule satisfies the monitor, the witness of the least moves is the preferred one
  pub possible-preferred : PossibleUnder m recording → Preferred edition m recording (preferred m recording)
  possible-preferred p = preferred-first (possible-moves m recording sane sound p)

  bounded : cost_of m recording ≤ end_of recording * size m
  bounded = cost_le (size m) move_limit (step_number m recording) (first_number m) (end_of recording)

  none_left : is_empty (possible_after m recording (last_of m recording)) ≡ true → PossibleUnder m recording → ⊥
  none_left e p =
      let h = left-possible.1 p in
      let z = eqb-true left 0 e in
      omega arith

  some_left : is_empty (possible_after m recording (last_of m recording)) ≡ false → 0 < left
  some_left e =
      let z = eqb-false left 0 e in
      omega arith

  first-empty : is_empty (possible_after m recording (last_of m recording)) ≡ true → FirstEmpty m recording (last_of m recording)
  first-empty e =
      record {
        within = last_le (size m) move_limit (step_number m recording) (first_number m) (end_of recording);
        empty = eqb-true left 0 e;
        before = last-before (size m) move_limit (step_number m recording) (first_number m) (end_of recording);
      }

  first_past : (budget : ℕ) → budget < cost_of m recording → FirstPast m recording budget (passing_of m recording budget)
  first_past budget h =
      let (w, p, b) = passing_passes (size m) move_limit (step_number m recording) (first_number m) (end_of recording) budget h in
      record { within = w; past = p; before = b }

  by_tests : (budget : ℕ) (over empty : Bool) → ltb budget (cost_of m recording) ≡ over
      → is_empty (possible_after m recording (last_of m recording)) ≡ empty → JudgedUnder edition m recording budget (verdict_by m recording budget over empty)
  by_tests budget true empty p q =
      let h : budget < cost_of m recording = ltb-true budget (cost_of m recording) p in
      record {
        exhausted = (λ _. h, λ _. tt);
        accepted = λ within. absurd (not-le_of_lt h within);
        rejected = λ within. absurd (not-le_of_lt h within);
        valued = (refl, first_past budget h);
        witnessed = λ x. absurd x;
        short = short;
        bounded = bounded;
        distinct = numbered sane;
      }
  by_tests budget false true p q =
      let h : cost_of m recording ≤ budget = ltb-false budget (cost_of m recording) p in
      record {
        exhausted = (λ x. absurd x, λ above. absurd (not-le_of_lt above h));
        accepted = λ _. (λ x. absurd x, λ possible. none_left q possible);
        rejected = λ _. (λ _. none_left q, λ _. tt);
        valued = (refl, first-empty q, counted-pairs sane recording (last_of m recording) NotYet, counted-pairs sane recording (last_of m recording) NoMore);
        witnessed = λ x. absurd x;
        short = short;
        bounded = bounded;
        distinct = numbered sane;
      }
  by_tests budget false false p q =
      let h : cost_of m recording ≤ budget = ltb-false budget (cost_of m recording) p in
      record {
        exhausted = (λ x. absurd x, λ above. absurd (not-le_of_lt above h));
        accepted = λ _. (λ _. left-possible.0 (some_left q), λ _. tt);
        rejected = λ _. (λ x. absurd x, λ never. never (left-possible.0 (some_left q)));
        valued = (refl, refl);
        witnessed = λ _. preferred-first (left-carried (some_left q));
        short = short;
        bounded = bounded;
        distinct = numbered sane;
      }

  -- demand 3 under the monitor's rule
  pub judged-under : (budget : ℕ) → JudgedUnder edition m recording budget (verdict m recording budget)
  judged-under budget =
      subst (λ (v : Verdict). JudgedUnder edition m recording budget v) (sym (verdict-is m recording budget _ _ refl refl)) (by_tests budget _ _ refl refl)

  -- .. and where that forbids nothing
  pub judged : m.rule ≡ no_rule → (budget : ℕ) → Judged edition m recording budget (verdict m recording budget)
  judged plain budget =
      let j : JudgedUnder edition m recording budget (verdict m recording budget) = judged-under budget in
      let under : Possible m recording → PossibleUnder m recording = λ p. record { possible = p; keeps = rw plain (no_rule_kept _) } in
      record {
        exhausted = j.exhausted;
        accepted = λ within. (λ a. ((j.accepted within).0 a).possible, λ p. (j.accepted within).1 (under p));
        rejected = λ within. (λ r p. (j.rejected within).0 r (under p), λ never. (j.rejected within).1 (λ p. never p.possible));
        valued = j.valued;
        witnessed = j.witnessed;
        short = j.short;
        bounded = j.bounded;
        distinct = j.distinct;
      }

-- demand 3 for bytes: a sound recording against its sound table
pub sound-judged : (edition : Edition) (table recording : List ℕ) → SoundRecording table recording → end_of (packets_at recording) ≤ latest_time edition → (budget : ℕ)
    → Judged edition (monitor_at table) (packets_at recording) budget (verdict (monitor_at table) (packets_at recording) budget)
sound-judged edition table recording sound fits budget =
    judged edition (monitor_at table) (packets_at recording) (sane_table table (sound_table table recording sound)) (sane_recording table recording sound) fits (plain_rule table) budget

-- .. and under a rule of which neither 25 nor 26 says anything
pub sound_judged_under : (rule : Rule) (edition : Edition) (table recording : List ℕ) → SoundUnder rule table recording → end_of (packets_at recording) ≤ latest_time edition → (budget : ℕ)
    → JudgedUnder edition (monitor_under rule table) (packets_at recording) budget (verdict (monitor_under rule table) (packets_at recording) budget)
sound_judged_under rule edition table recording sound fits budget =
    judged-under edition (monitor_under rule table) (packets_at recording) (sane-under rule table recording sound) (sane_recording_under rule table recording sound) fits budget
