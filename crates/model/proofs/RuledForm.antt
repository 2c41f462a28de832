-- What 25 and 26 ensure of a rule; a sane monitor, and a sane recording, stay sane under it.
use Prim.Native.Nat.{ℕ, ◌≤◌}
use mathlib.Core.Path.{◌≡◌}
use mathlib.Core.List.{List, [], ◌∷◌}
use lib.Dec.{leb}
use Rattle.model.specs.Limits.{device_limit, window_limit, size_limit}
use Rattle.model.specs.First.{unless, Reading}
use Rattle.model.specs.Guard.{Guard, always, at_most, at_least, variable, negation, conjunction}
use Rattle.model.specs.Rule.{Rule}
use Rattle.model.specs.Monitor.{Monitor, under}
use Rattle.model.specs.Trace.{Packet, Spaced, PacketTrace}
use Rattle.model.specs.Size.{size}
use Rattle.model.specs.Table.{monitor_at}
use Rattle.model.specs.Recording.{recording_answer, packets_at, SoundRecording}
use Rattle.model.specs.Ruled.{monitor_under, rule_answer, ruled_answer, SoundUnder}
use Rattle.model.specs.Sane.{Closed, Sane, SaneRecording}
use Rattle.std.specs.Prelude.{Ok}
use Rattle.model.specs.declared.Refusal.TheVariants.{RuleRange, RuleSize}
use Rattle.model.proofs.Tests.{test, le_test}
use Rattle.model.proofs.TableForm.{sane_table}
use Rattle.model.proofs.RecordingForm.{sound_table, sane_recording}

-- what neither 25 nor 26 refuses
pub record RuleFacts (m : Monitor) : Type 0 where
  pub device : m.rule.device ≤ device_limit
  pub some : 1 ≤ m.rule.window
  pub window : m.rule.window ≤ window_limit
  pub most : m.rule.most ≤ m.rule.window
  pub small : size m ≤ size_limit

pub rule_facts : (m : Monitor) → rule_answer m ≡ Ok tt → RuleFacts m
unfolding rule_answer
rule_facts m e =
    let all : List Reading =
    unless (leb m.rule.device device_limit) RuleRange
    ∷ unless (leb 1 m.rule.window) RuleRange
    ∷ unless (leb m.rule.window window_limit) RuleRange
    ∷ unless (leb m.rule.most m.rule.window) RuleRange
    ∷ unless (leb (size m) size_limit) RuleSize
    ∷ [] in
    record {
      device = le_test _ _ RuleRange (test all e 0);
      some = le_test _ _ RuleRange (test all e 1);
      window = le_test _ _ RuleRange (test all e 2);
      most = le_test _ _ RuleRange (test all e 3);
      small = le_test _ _ RuleSize (test all e 4);
    }

closed-under : (rule : Rule) (m : Monitor) (g : Guard) → Closed m g → Closed (under rule m) g
closed-under rule m always h = h
closed-under rule m (at_most c t) h = h
closed-under rule m (at_least c t) h = h
closed-under rule m (variable x) h = h
closed-under rule m (negation g) h = closed-under rule m g h
closed-under rule m (conjunction g h) k = (closed-under rule m g k.0, closed-under rule m h k.1)

spaced-under : (rule : Rule) (m : Monitor) (p : Packet) (ps : List Packet) → Spaced m p ps → Spaced (under rule m) p ps
spaced-under rule m p [] h = h
spaced-under rule m p (q ∷ ps) h = (h.0, spaced-under rule m q ps h.1)

trace-under : (rule : Rule) (m : Monitor) (ps : List Packet) → PacketTrace m ps → PacketTrace (under rule m) ps
trace-under rule m [] h = h
trace-under rule m (p ∷ ps) h = (h.0, spaced-under rule m p ps h.1)

module _ (rule : Rule) (table recording : List ℕ) (sound : SoundUnder rule table recording) where
  -- the numbers before 25 do not apply either
  pub recording_sound : SoundRecording table recording
  unfolding ruled_answer
  recording_sound = let all : List Reading = recording_answer table recording ∷ rule_answer (monitor_under rule table) ∷ [] in test all sound 0

  pub facts_under : RuleFacts (monitor_under rule table)
  unfolding ruled_answer
  facts_under =
      let all : List Reading = recording_answer table recording ∷ rule_answer (monitor_under rule table) ∷ [] in rule_facts (monitor_under rule table) (test all sound 1)

  pub sane-under : Sane (monitor_under rule table)
  sane-under =
      let sane : Sane (monitor_at table) = sane_table table (sound_table table recording recording_sound) in
      record {
        states = sane.states;
        clocks = sane.clocks;
        few = sane.few;
        transition = λ j t e.
            let s = sane.transition j t e in
            record { target = s.target; trigger = s.trigger; closed = closed-under rule (monitor_at table) t.guard s.closed };
        window = facts_under.some;
      }

  pub sane_recording_under : SaneRecording (monitor_under rule table) (packets_at recording)
  sane_recording_under =
      let sane : SaneRecording (monitor_at table) (packets_at recording) = sane_recording table recording recording_sound in
      record { trace = trace-under rule (monitor_at table) (packets_at recording) sane.trace; few = sane.few; last = sane.last }
