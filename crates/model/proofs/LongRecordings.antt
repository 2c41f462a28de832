-- Recordings up to 65,535 ticks: 31 with 0 exactly where the edition's times end before the recording does, in edition 2 never; and their cost fits 32 bits.
use Prim.Native.Nat.{ℕ, ◌<◌, ◌≤◌}
use native.Mathlib.Omega.{arith}
use native.Mathlib.Nat.{not-le_of_lt, le_trans, mul-le-mul}
use mathlib.Core.Path.{◌≡◌, refl, sym, ap, ◌∙◌}
use mathlib.Core.Logic.{◌↔◌}
use mathlib.Core.List.{List, [], ◌∷◌}
use mathlib.Core.Bool.{Bool, true, false}
use lib.ListN.{length}
use lib.Dec.{leb, ltb}
use borrow.Author.Tests.{leb-true, leb-false, le-leb}
use Rattle.model.specs.First.{unless, Reading}
use Rattle.model.specs.Edition.{latest_time}
use Rattle.model.specs.Rule.{Rule}
use Rattle.model.specs.Monitor.{Monitor}
use Rattle.model.specs.Trace.{Packet}
use Rattle.model.specs.Table.{monitor_at}
use Rattle.model.specs.Recording.{SoundRecording, packets_at, end_of}
use Rattle.model.specs.Numbers.{Values, values, verdict_values}
use Rattle.model.specs.Ruled.{monitor_under, SoundUnder}
use Rattle.model.specs.Layers.{is_empty}
use Rattle.model.specs.Validation.{possible_after, last_of, cost_of, passing_of, pairs_at, preferred, verdict, scratch_wanted, room_wanted, refusal_of, validation_of}
use Rattle.model.specs.Late.{RefusesLateOf}
use Rattle.model.specs.declared.Edition.{Edition}
use Rattle.model.specs.declared.Edition.TheVariants.{Two}
use Rattle.std.specs.Prelude.{Ok}
use Rattle.model.specs.declared.Refusal.TheVariants.{Scratch, WitnessRoom}
use Rattle.model.specs.declared.Readiness.TheVariants.{NotYet, NoMore}
use Rattle.model.specs.declared.Verdict.TheVariants.{Accepted, Rejected, Exhausted}
use Rattle.model.proofs.Tests.{test, le_test}
use Rattle.model.proofs.TableForm.{table_small, plain_size}
use Rattle.model.proofs.RecordingForm.{sound_table, sane_recording}
use Rattle.model.proofs.RuledForm.{recording_sound, facts_under}
use Rattle.model.proofs.Judgement.{sound-judged, sound_judged_under}

-- a verdict has the number 0, 1 or 2
verdict-number : (m : Monitor) (recording : List Packet) (budget : ℕ) → (verdict_values (Ok (verdict m recording budget))).number ≤ 2
unfolding verdict
verdict-number m recording budget = by (ltb budget (cost_of m recording)) (is_empty (possible_after m recording (last_of m recording)))
  where
    by : (over empty : Bool)
        → (verdict_values
        (Ok (elim over [
          | true ↦ Exhausted budget (passing_of m recording budget)
          | false ↦
              elim empty [
                | true ↦
                    Rejected (cost_of m recording) (last_of m recording) (pairs_at m recording NotYet (last_of m recording))
                    (pairs_at m recording NoMore (last_of m recording))
                | false ↦ Accepted (cost_of m recording) (length (preferred m recording))
              ]
        ]))
        ).number
        ≤ 2
    by true empty = omega arith
    by false true = omega arith
    by false false = omega arith

-- where nothing is refused, what is given is sound, and the recording ends early enough
pub unrefused : (given : Reading) (edition : Edition) (m : Monitor) (recording : List Packet) (scratch_length room_length : ℕ)
    → refusal_of given edition m recording scratch_length room_length ≡ Ok tt → (given ≡ Ok tt) × (end_of recording ≤ latest_time edition)
unfolding refusal_of
unrefused given edition m recording scratch_length room_length e =
    let all : List Reading =
    given
    ∷ unless (leb (scratch_wanted m recording) scratch_length) (Scratch (scratch_wanted m recording))
    ∷ unless (leb (end_of recording) (latest_time edition)) (WitnessRoom 0)
    ∷ unless (leb (room_wanted edition recording) room_length) (WitnessRoom (room_wanted edition recording))
    ∷ [] in
    (test all e 0, le_test _ _ (WitnessRoom 0) (test all e 2))

-- given: the answer on table, recording and rule
module _ (given : Reading) (edition : Edition) (m : Monitor) (recording : List Packet) (budget scratch_length room_length : ℕ) where
  answer : Values
  answer = verdict_values (validation_of given edition m recording budget scratch_length room_length)

  module _ (sound : given ≡ Ok tt) (fits : scratch_wanted m recording ≤ scratch_length) where
    late : leb (end_of recording) (latest_time edition) ≡ false → answer ≡ values 31 0 0
    unfolding answer validation_of refusal_of
    late e = rw (refusal_of, validation_of, sound, le-leb (scratch_wanted m recording) scratch_length fits, e)

    early : leb (end_of recording) (latest_time edition) ≡ true → answer ≡ values 31 0 0 → ⊥
    unfolding answer validation_of refusal_of
    early e q = by (leb (room_wanted edition recording) room_length) refl
      where
        by : (b : Bool) → leb (room_wanted edition recording) room_length ≡ b → ⊥
        by true h =
            let judged : answer ≡ verdict_values (Ok (verdict m recording budget)) =
            rw (refusal_of, validation_of, sound, le-leb (scratch_wanted m recording) scratch_length fits, e, h)
            in
            omega (arith, verdict-number m recording budget, ap (λ (v : Values). v.number) (sym judged ∙ q))
        by false h =
            let short : answer ≡ values 31 (room_wanted edition recording) 0 =
            rw (refusal_of, validation_of, sound, le-leb (scratch_wanted m recording) scratch_length fits, e, h)
            in
            omega (arith, ap (λ (v : Values). v.second) (sym short ∙ q))

  pub refuses_late : RefusesLateOf given edition m recording scratch_length (verdict_values (validation_of given edition m recording budget scratch_length room_length))
  unfolding answer
  refuses_late sound fits = by (leb (end_of recording) (latest_time edition)) refl
    where
      by : (b : Bool) → leb (end_of recording) (latest_time edition) ≡ b
          → (verdict_values (validation_of given edition m recording budget scratch_length room_length) ≡ values 31 0 0) ↔ (latest_time edition < end_of recording)
      by true e = (λ q. absurd (early sound fits e q), λ h. absurd (not-le_of_lt h (leb-true (end_of recording) (latest_time edition) e)))
      by false e = (λ q. leb-false (end_of recording) (latest_time edition) e, λ h. late sound fits e)

pub never_late : (table recording : List ℕ) → SoundRecording table recording → end_of (packets_at recording) ≤ latest_time Two
never_late table recording sound = (sane_recording table recording sound).last

-- "Cost, at most 4,294,901,760, still fits 32 bits"
pub cost-fits : (table recording : List ℕ) → SoundRecording table recording → cost_of (monitor_at table) (packets_at recording) ≤ 4294901760
cost-fits table recording sound =
    let most = (sound-judged Two table recording sound (never_late table recording sound) 0).bounded in
    le_trans most (mul-le-mul (never_late table recording sound) (rw (← (plain_size table)) at (table_small table (sound_table table recording sound))))

-- .. under a rule too
pub cost_fits_under : (rule : Rule) (table recording : List ℕ) → SoundUnder rule table recording → cost_of (monitor_under rule table) (packets_at recording) ≤ 4294901760
cost_fits_under rule table recording sound =
    let last = never_late table recording (recording_sound rule table recording sound) in
    let most = (sound_judged_under rule Two table recording sound last 0).bounded in
    le_trans most (mul-le-mul last (facts_under rule table recording sound).small)
