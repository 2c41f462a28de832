-- What R-3 narrows: three recordings that were accepted before it and are rejected now. The unit's DATA would have to be sent at the instant of the overheard ACK,
-- within its airtime, or so that the ACK stands within that of the DATA.
use Prim.Native.Nat.{ℕ, ◌<◌}
use native.Mathlib.Omega.{arith}
use mathlib.Core.Path.{◌≡◌, refl, ap, subst, ◌∙◌}
use mathlib.Core.Logic.{⊎_elim}
use mathlib.Core.List.Memᴰ
use mathlib.Core.List.{List, [], ◌∷◌, Memᴰ}
use mathlib.Core.Bool.{Bool, true, false, cond, not, ◌&&◌}
use Rattle.std.specs.Prelude.{Option, Some, None}
use Rattle.std.specs.Option.{option_map, option_and_then}
use lib.ListN.{set}
use lib.Dec.{eqb}
use borrow.Author.Tests.{eq-eqb}
use Rattle.model.specs.Size.{size}
use Rattle.model.specs.Monitor.{Monitor, start, to_unit, is_guess}
use Rattle.model.specs.Trace.{Packet, PacketTrace, Possible}
use Rattle.model.specs.Table.{monitor_at}
use Rattle.model.specs.Recording.{SoundRecording, packets_at, end_of}
use Rattle.model.specs.Witness.{Row, kept, removed, added, no_transition, marked, is_removed}
use Rattle.model.specs.Situation.{Move, keep, rest, add, capped, sent, trigger_of, moved, tick, number, situation_of, first_number, move_of, move_limit, recorded_at}
use Rattle.model.specs.Layers as L
use Rattle.model.specs.Validation.{verdict, cost_of}
use Rattle.model.specs.Claims.{heard, sent_rows, packets, CarriedBy, Judged}
use Rattle.model.specs.declared.Edition.TheVariants.{Two}
use Rattle.model.specs.declared.Situation.{Situation}
use Rattle.model.specs.declared.Verdict.{Verdict}
use Rattle.model.specs.declared.Verdict.TheVariants.{Rejected}
use Rattle.examples.proofs.Examples.{run_of, table, two}
use Rattle.model.proofs.Judgement.{sound-judged}
use Rattle.model.proofs.RecordingForm.{sane_recording}

-- The rule before. Demand 2 held only kept and added rows apart:
pub record ExplainedBefore (m : Monitor) (recording : List Packet) (rows : List Row) : Type 0 where
  pub accounts : heard rows ≡ recording
  pub inbound : (r : Row) → Memᴰ r rows → r.mark ≡ removed → to_unit m r.kind ≡ true
  pub spaced : PacketTrace m (packets (sent_rows rows))
  pub carried : CarriedBy m 0 start (sent_rows rows)

-- a removed row took no air, and a row of another kind could be added at its instant
unfoldable pub moved_before : Monitor → Option ℕ → Situation → Move → Option Situation
moved_before m None s a = moved m None s a
moved_before m (Some k) s (keep j) = sent m false j k s
moved_before m (Some k) s rest = cond (to_unit m k) (Some s) None
moved_before m (Some k) s (add j) = option_and_then (λ a. cond (to_unit m k && not (eqb a k)) (sent m (is_guess m a) j a s) None) (trigger_of m j)

unfoldable pub step_before : Monitor → List Packet → (t n k : ℕ) → Option ℕ
step_before m recording t n k =
    option_map (λ s. number m (tick (capped m) s)) (moved_before m (recorded_at recording t) (situation_of m n) (move_of k))

-- the situations left at the end, and the least moves
abbrev pub left_before : Monitor → List Packet → List Bool
left_before m recording = L.layer (size m) move_limit (step_before m recording) (first_number m) (end_of recording)

abbrev pub moves_before : Monitor → List Packet → List ℕ
moves_before m recording = L.least_moves (size m) move_limit (step_before m recording) (first_number m) (end_of recording)

-- rejected now, by the definitions and in the paper's words; accepted before, by these least moves (64 rests, 65 adds by transition 0, 2 keeps by transition 2),
-- with these rows as the witness
pub record Narrowed (m : Monitor) (recording : List Packet) (moves : List ℕ) (given : List Row) (cost instant not_yet no_more : ℕ) : Type 0 where
  pub rejected : verdict m recording 10000 ≡ Rejected cost instant not_yet no_more
  pub impossible : Possible m recording → ⊥
  pub accepted : L.is_empty (left_before m recording) ≡ false
  pub least : moves_before m recording ≡ moves
  pub explained : ExplainedBefore m recording given

-- Document 01's small monitor, whose RETRY comes 4 to 6 ticks behind DATA. ACK at 1, RETRY at 5: DATA would be at 1, which is the ACK's instant
pub at_its_instant : List ℕ
unfolding two
at_its_instant = two 1 2 5 1

pub at_its_instant_given : List Row
at_its_instant_given = marked removed 1 2 no_transition ∷ marked added 1 0 0 ∷ marked kept 5 1 2 ∷ []

-- ACK at 2, RETRY at 5: DATA would be at 1 and has the air when the ACK is overheard
pub in_another : List ℕ
unfolding two
in_another = two 2 2 5 1

pub in_another_given : List Row
in_another_given = marked added 1 0 0 ∷ marked removed 2 2 no_transition ∷ marked kept 5 1 2 ∷ []

-- the same monitor where ACK has airtime 1. ACK at 1, RETRY at 6: DATA would be at 1 or at 2, and the ACK has the air at both
pub longer_ack : List ℕ
unfolding table
longer_ack = set table 13 1

pub in_its_airtime : List ℕ
unfolding two
in_its_airtime = two 1 2 6 1

pub in_its_airtime_given : List Row
in_its_airtime_given = marked removed 1 2 no_transition ∷ marked added 2 0 0 ∷ marked kept 6 1 2 ∷ []

-- the verdicts now
record Verdicts : Type 0 where
  instant : verdict (monitor_at table) (packets_at at_its_instant) 10000 ≡ Rejected 12 5 2 0
  another : verdict (monitor_at table) (packets_at in_another) 10000 ≡ Rejected 9 5 1 0
  airtime : verdict (monitor_at longer_ack) (packets_at in_its_airtime) 10000 ≡ Rejected 13 6 2 0

verdicts : Verdicts
unfolding table longer_ack at_its_instant in_another in_its_airtime run_of
verdicts = record { instant = refl; another = refl; airtime = refl }

-- each removed row is to the unit
abbrev Inbound : Monitor → List Row → Type 0
Inbound m [] = Unit {0}
Inbound m (r ∷ rs) = (cond (is_removed r) (to_unit m r.kind) true ≡ true) × Inbound m rs

inbound_by : (m : Monitor) (rows : List Row) → Inbound m rows → (r : Row) → Memᴰ r rows → r.mark ≡ removed → to_unit m r.kind ≡ true
inbound_by m [] h r i e = absurd (Memᴰ.not-nil i)
inbound_by m (a ∷ rows) h r i e = ⊎_elim here (λ j. inbound_by m rows h.1 r j e) (Memᴰ.cases_cons i)
  where
    here : r ≡ a → to_unit m r.kind ≡ true
    here q =
        let found : cond (is_removed r) (to_unit m r.kind) true ≡ true = ap (λ (x : Row). cond (is_removed x) (to_unit m x.kind) true) q ∙ h.0 in
        rw (eq-eqb r.mark removed e) at found

-- all of it from what computes: what the definitions reject is impossible
narrowed_by : (table recording : List ℕ) (moves : List ℕ) (given : List Row) (cost instant not_yet no_more : ℕ) → SoundRecording table recording
    → verdict (monitor_at table) (packets_at recording) 10000 ≡ Rejected cost instant not_yet no_more
    → L.is_empty (left_before (monitor_at table) (packets_at recording)) ≡ false → moves_before (monitor_at table) (packets_at recording) ≡ moves
    → heard given ≡ packets_at recording → Inbound (monitor_at table) given → PacketTrace (monitor_at table) (packets (sent_rows given))
    → CarriedBy (monitor_at table) 0 start (sent_rows given) → Narrowed (monitor_at table) (packets_at recording) moves given cost instant not_yet no_more
narrowed_by table recording moves given cost instant not_yet no_more sound e accepted least accounts inbound spaced carried =
    let j = subst (λ (v : Verdict). Judged Two (monitor_at table) (packets_at recording) 10000 v) e (sound-judged Two table recording sound (sane_recording table recording sound).last 10000) in
    let within : 10000 < cost_of (monitor_at table) (packets_at recording) → ⊥ = j.exhausted.1 in
    record {
      rejected = e;
      impossible = (j.rejected (omega arith)).0 tt;
      accepted = accepted;
      least = least;
      explained =
          record {
            accounts = accounts;
            inbound = inbound_by (monitor_at table) given inbound;
            spaced = spaced;
            carried = carried;
          };
    }

pub record Narrower : Type 0 where
  pub instant : Narrowed (monitor_at table) (packets_at at_its_instant) (65 ∷ 64 ∷ 64 ∷ 64 ∷ 2 ∷ []) at_its_instant_given 12 5 2 0
  pub another : Narrowed (monitor_at table) (packets_at in_another) (65 ∷ 64 ∷ 64 ∷ 64 ∷ 2 ∷ []) in_another_given 9 5 1 0
  pub airtime : Narrowed (monitor_at longer_ack) (packets_at in_its_airtime) (64 ∷ 65 ∷ 64 ∷ 64 ∷ 64 ∷ 2 ∷ []) in_its_airtime_given 13 6 2 0

pub narrower : Narrower
unfolding table longer_ack at_its_instant in_another in_its_airtime at_its_instant_given in_another_given in_its_airtime_given run_of moved_before step_before heard sent_rows packets
narrower =
    record {
      instant =
          narrowed_by table at_its_instant (65 ∷ 64 ∷ 64 ∷ 64 ∷ 2 ∷ []) at_its_instant_given 12 5 2 0 refl verdicts.instant
          refl refl refl (refl, (refl, (refl, tt))) (omega arith, (omega arith, tt)) (_, refl, (_, refl, tt));
      another =
          narrowed_by table in_another (65 ∷ 64 ∷ 64 ∷ 64 ∷ 2 ∷ []) in_another_given 9 5 1 0 refl verdicts.another
          refl refl refl (refl, (refl, (refl, tt))) (omega arith, (omega arith, tt)) (_, refl, (_, refl, tt));
      airtime =
          narrowed_by longer_ack in_its_airtime (64 ∷ 65 ∷ 64 ∷ 64 ∷ 64 ∷ 2 ∷ []) in_its_airtime_given 13 6 2 0 refl verdicts.airtime
          refl refl refl (refl, (refl, (refl, tt))) (omega arith, (omega arith, tt)) (_, refl, (_, refl, tt));
    }
