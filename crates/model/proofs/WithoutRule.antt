-- A rule with l = 1 and k = 1 changes no answer: 25 and 26 pass where the table is sound, and the step is that without a rule.
use Prim.Native.Nat.{ℕ, ◌≤◌}
use native.Mathlib.Omega.{arith}
use mathlib.Core.Path.{◌≡◌, refl, ap, ◌∙◌}
use mathlib.Core.List.{List, [], ◌∷◌}
use borrow.Author.Tests.{le-leb}
use Rattle.model.specs.Limits.{device_limit, size_limit}
use Rattle.model.specs.First.{first_of, Reading}
use Rattle.model.specs.Rule.{rule_of}
use Rattle.model.specs.Monitor.{Monitor}
use Rattle.model.specs.Size.{size}
use Rattle.model.specs.Table.{monitor_of, monitor_at}
use Rattle.model.specs.Recording.{recording_answer, packets_at}
use Rattle.model.specs.Ruled.{monitor_under, rule_answer, ruled_answer}
use Rattle.model.specs.Witness.{rows_at}
use Rattle.model.specs.Rules.{checked, check_answer, check_answer_under}
use Rattle.model.specs.Without.{AsWithout}
use Rattle.std.specs.Prelude.{Ok, Err}
use Rattle.model.proofs.TableForm.{table_small, plain_size}
use Rattle.model.proofs.RecordingForm.{sound_table}
use Rattle.model.proofs.DeviceFree.{with_devices, same_size, same-validation, same-scratch, same-room, same-checking}

module _ (d : ℕ) (few : d ≤ device_limit) (table : List ℕ) where
  abbrev m : Monitor
  m = monitor_at table

  -- the monitor differs from the table's own in the rule's device alone
  same_monitor : monitor_under (rule_of d 1 1) table ≡ with_devices m.devices d m
  unfolding monitor_of
  same_monitor = refl

  one : m.rule.window ≡ 1
  unfolding monitor_of
  one = refl

  any : 1 ≤ m.rule.most
  unfolding monitor_of
  any = omega arith

  small : size (monitor_under (rule_of d 1 1) table) ≡ size m
  small = ap size same_monitor ∙ same_size m.devices d m

  rule_passes : (recording : List ℕ) → recording_answer table recording ≡ Ok tt → rule_answer (monitor_under (rule_of d 1 1) table) ≡ Ok tt
  unfolding rule_answer
  rule_passes recording e =
      let within : size (monitor_under (rule_of d 1 1) table) ≤ size_limit = omega (arith, small, plain_size table, table_small table (sound_table table recording e)) in
      rw (le-leb d device_limit few, le-leb (size (monitor_under (rule_of d 1 1) table)) size_limit within)

  same_answer_lem : (recording : List ℕ) → ruled_answer (rule_of d 1 1) table recording ≡ recording_answer table recording
  unfolding ruled_answer
  same_answer_lem recording = by (recording_answer table recording) refl
    where
      by : (x : Reading) → recording_answer table recording ≡ x → first_of (recording_answer table recording ∷ rule_answer (monitor_under (rule_of d 1 1) table) ∷ []) ≡ recording_answer table recording
      by (Ok _) e = rw (e, rule_passes recording e)
      by (Err r) e = rw e

  pub as_without : AsWithout (rule_of d 1 1) table
  unfolding check_answer check_answer_under
  as_without =
      record {
        same_size = small;
        verdict = λ edition recording budget scratch_length room_length.
            rw (same_answer_lem recording, same_monitor)
            (same-validation m.devices d m one any (recording_answer table recording) edition (packets_at recording) budget scratch_length room_length);
        scratch = λ edition recording budget scratch room.
            rw (same_answer_lem recording, same_monitor)
            (same-scratch m.devices d m one any (recording_answer table recording) edition (packets_at recording) budget scratch room);
        room = λ edition recording budget scratch room.
            rw (same_answer_lem recording, same_monitor)
            (same-room m.devices d m one any (recording_answer table recording) edition (packets_at recording) budget scratch room);
        checking = λ edition recording witness.
            rw (same_answer_lem recording, same_monitor)
            (ap (λ (x : Reading). checked x (rows_at edition witness)) (same-checking m.devices d m one any (recording_answer table recording) edition recording witness));
      }
