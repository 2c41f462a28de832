-- Sound tables with the same bytes but for length, version and devices are answered alike (R-6).
use Prim.Native.Nat.{ℕ, zero, suc, ◌+◌, ◌*◌, ◌<◌, ◌≤◌}
use native.Mathlib.Nat.{add-zero}
use native.Mathlib.Omega.{arith}
use mathlib.Core.Path.{◌≡◌, refl, sym, ap, ap₂, ◌∙◌}
use mathlib.Core.List.{List, [], ◌∷◌}
use lib.ListN.{take, drop}
use lib.Seq.{get_or-take, get_or-drop}
use lib.Dec.{ltb}
use Rattle.model.specs.Limits.{kind_limit, transition_limit, guard_limit}
use Rattle.model.specs.Bytes.{byte_at, tab}
use Rattle.model.specs.First.{first_of, Reading}
use Rattle.model.specs.Rule.{Rule}
use Rattle.model.specs.Monitor.{Monitor, airtime}
use Rattle.model.specs.Kinds.{version_at, kind_at}
use Rattle.model.specs.Table.{guard_in, transition_in, monitor_of, monitor_at, kinds_at, transitions_at, guard_length_at, transition_at, kind_column, transition_column, table_parts, SoundTable}
use Rattle.model.specs.Recording.{time_at, row_kind_at, count_at, clear_of_before, recorded_row, recorded_rows, recording_scan, recording_answer, packets_at}
use Rattle.model.specs.Witness.{rows_at}
use Rattle.model.specs.Rules.{checked, check_answer}
use Rattle.model.specs.Same.{SameTable}
use Rattle.model.specs.Versions.{SameOtherBytes, SameAnswers}
use Rattle.model.specs.declared.TableParts.{TableParts}
use Rattle.model.proofs.Places.{get_or_column}
use Rattle.model.proofs.TableForm.{table_facts, guard_byte, plain_rule}
use Rattle.model.proofs.TableTrip.{length-few, same_monitor}
use Rattle.model.proofs.DeviceFree.{with_devices, same-validation, same-scratch, same-room, same-checking}

-- bytes of a part that two lists share
module _ (b c : List ℕ) (at to : ℕ) where
  part_byte : (n : ℕ) → take n (drop at b) ≡ take n (drop to c) → (k : ℕ) → k < n → byte_at b (at + k) ≡ byte_at c (to + k)
  part_byte n e k h =
      sym (get_or-take n (drop at b) k 0 h ∙ get_or-drop at b k 0)
      ∙ ap (λ (l : List ℕ). byte_at l k) e
      ∙ get_or-take n (drop to c) k 0 h
      ∙ get_or-drop to c k 0

  rest_byte : drop at b ≡ drop to c → (k : ℕ) → byte_at b (at + k) ≡ byte_at c (to + k)
  rest_byte e k = sym (get_or-drop at b k 0) ∙ ap (λ (l : List ℕ). byte_at l k) e ∙ get_or-drop to c k 0

-- parts in a version, with these devices
abbrev pub in_version : (version : ℕ) → (devices : List ℕ) → TableParts → TableParts
in_version version devices t =
    record {
      version = version;
      states = t.states;
      variables = t.variables;
      clocks = t.clocks;
      kinds = t.kinds;
      transitions = t.transitions;
      directions = t.directions;
      airtimes = t.airtimes;
      devices = devices;
      sources = t.sources;
      targets = t.targets;
      triggers = t.triggers;
      sets = t.sets;
      clears = t.clears;
      resets = t.resets;
      lengths = t.lengths;
      guards = t.guards;
    }

module _ (b c : List ℕ) (soundb : SoundTable b) (soundc : SoundTable c) (same : SameOtherBytes b c) where
  -- the parts of c, with the version and devices of b
  abbrev likewise : TableParts
  likewise = in_version (table_parts b).version (table_parts b).devices (table_parts c)

  count : (k : ℕ) → k < 5 → byte_at b (3 + k) ≡ byte_at c (3 + k)
  count k h = part_byte b c 3 3 5 same.counts k h

  behind : (k : ℕ) → byte_at b (transition_at b 0 + k) ≡ byte_at c (transition_at c 0 + k)
  behind k = rest_byte b c (transition_at b 0) (transition_at c 0) same.transitions k

  -- each transition record stands as far behind the first one

  field_by : (j d k : ℕ) → transition_at b j ≡ transition_at b 0 + d → transition_at c j ≡ transition_at c 0 + d → byte_at b (transition_at b j + k) ≡ byte_at c (transition_at c j + k)
  field_by j d k p q =
      let there : transition_at b j + k ≡ transition_at b 0 + (d + k) = omega arith in
      let here : transition_at c 0 + (d + k) ≡ transition_at c j + k = omega arith in
      ap (byte_at b) there ∙ behind (d + k) ∙ ap (byte_at c) here

  offset : (j : ℕ) → (d : ℕ) × (transition_at b j ≡ transition_at b 0 + d) × (transition_at c j ≡ transition_at c 0 + d)
  unfolding transition_at
  offset zero = (0, sym (add-zero (transition_at b 0)), sym (add-zero (transition_at c 0)))
  offset (suc j) =
      let (d, p, q) = offset j in
      let long : guard_length_at b (transition_at b j) ≡ guard_length_at c (transition_at c j) = field_by j d 6 p q in
      (d + 7 + guard_length_at c (transition_at c j), omega arith, omega arith)

  field : (j k : ℕ) → byte_at b (transition_at b j + k) ≡ byte_at c (transition_at c j + k)
  field j k = let (d, p, q) = offset j in field_by j d k p q

  -- the columns of the parts

  kind_field : (k : ℕ) → k < 2 → (i : ℕ) → i < kinds_at c → byte_at (kind_column b k) i ≡ byte_at (kind_column c k) i
  kind_field k h i l =
      let within : i < kinds_at b = rw (count 3 (omega arith)) l in
      get_or_column kind_limit (λ i. byte_at b (kind_at (version_at b) i + k)) (kinds_at b) i within
      ∙ part_byte b c (kind_at (version_at b) i) (kind_at (version_at c) i) 2 (same.kinds i within) k h
      ∙ sym (get_or_column kind_limit (λ i. byte_at c (kind_at (version_at c) i + k)) (kinds_at c) i l)

  transition_field : (k j : ℕ) → j < transitions_at c → byte_at (transition_column b k) j ≡ byte_at (transition_column c k) j
  transition_field k j l =
      let within : j < transitions_at b = rw (count 4 (omega arith)) l in
      get_or_column transition_limit (λ i. byte_at b (transition_at b i + k)) (transitions_at b) j within
      ∙ field j k
      ∙ sym (get_or_column transition_limit (λ i. byte_at c (transition_at c i + k)) (transitions_at c) j l)

  guard-bytes : (j : ℕ) → j < transitions_at c → (i : ℕ) → i < byte_at (transition_column c 6) j → byte_at (table_parts b).guards (guard_limit * j + i) ≡ byte_at (table_parts c).guards (guard_limit * j + i)
  guard-bytes j l i p =
      let within : j < transitions_at b = rw (count 4 (omega arith)) l in
      let long : byte_at (transition_column c 6) j ≡ guard_length_at c (transition_at c j) = get_or_column transition_limit (λ i. byte_at c (transition_at c i + 6)) (transitions_at c) j l in
      let q : i < guard_length_at c (transition_at c j) = rw long at p in
      let r : i < guard_length_at b (transition_at b j) = rw (field j 6) q in
      let there : transition_at b j + 7 + i ≡ transition_at b j + (7 + i) = omega arith in
      let here : transition_at c j + (7 + i) ≡ transition_at c j + 7 + i = omega arith in
      guard_byte b (table_facts b soundb) j within i r ∙ ap (byte_at b) there ∙ field j (7 + i) ∙ ap (byte_at c) here ∙ sym (guard_byte c (table_facts c soundc) j l i q)

  same_parts : SameTable (table_parts b) likewise
  unfolding table_parts
  same_parts =
      record {
        version = refl;
        states = count 0 (omega arith);
        variables = count 1 (omega arith);
        clocks = count 2 (omega arith);
        kinds = count 3 (omega arith);
        transitions = count 4 (omega arith);
        directions = kind_field 0 (omega arith);
        airtimes = kind_field 1 (omega arith);
        devices = λ i h. refl;
        sources = transition_field 0;
        targets = transition_field 1;
        triggers = transition_field 2;
        sets = transition_field 3;
        clears = transition_field 4;
        resets = transition_field 5;
        lengths = transition_field 6;
        guards = guard-bytes;
      }

  -- the monitors differ in their devices alone

  abbrev devices : List ℕ
  devices = tab (byte_at (table_parts b).devices) (table_parts c).kinds

  same_monitors : monitor_at b ≡ with_devices devices 0 (monitor_at c)
  unfolding monitor_of transition_in guard_in table_parts
  same_monitors = same_monitor (table_parts b) likewise same_parts (length-few c (table_facts c soundc))

  -- what is asked of a recording

  same-kinds : kinds_at b ≡ kinds_at c
  same-kinds = count 3 (omega arith)

  clear_alike : (r : List ℕ) (i : ℕ) → clear_of_before b r i ≡ clear_of_before c r i
  unfolding clear_of_before
  clear_alike r zero = refl
  clear_alike r (suc i) = ap (λ (m : Monitor). ltb (time_at r i + airtime m (row_kind_at r i)) (time_at r (suc i))) same_monitors

  row-alike : (r : List ℕ) (i : ℕ) → recorded_row b r i ≡ recorded_row c r i
  unfolding recorded_row
  row-alike r i = rw (clear_alike r i, same-kinds)

  rows_alike : (n : ℕ) (r : List ℕ) (i : ℕ) → recorded_rows n b r i ≡ recorded_rows n c r i
  unfolding recorded_rows
  rows_alike zero r i = refl
  rows_alike (suc n) r i = ap₂ (λ (x y : Reading). first_of (x ∷ y ∷ [])) (row-alike r i) (rows_alike n r (suc i))

  answer-alike : (r : List ℕ) → recording_answer b r ≡ recording_answer c r
  unfolding recording_answer recording_scan
  answer-alike r = rw (soundb, soundc, rows_alike (count_at r) r 0)

  -- the rest is asked of the monitor

  one : (monitor_at c).rule.window ≡ 1
  one = ap (λ (r : Rule). r.window) (plain_rule c)

  any : 1 ≤ (monitor_at c).rule.most
  any = omega (arith, ap (λ (r : Rule). r.most) (plain_rule c))

  pub same-answers : SameAnswers b c
  unfolding check_answer
  same-answers =
      record {
        verdict = λ edition recording budget scratch_length room_length.
            rw (answer-alike recording, same_monitors) (same-validation devices 0 (monitor_at c) one any (recording_answer c recording) edition (packets_at recording) budget scratch_length room_length);
        scratch = λ edition recording budget scratch room.
            rw (answer-alike recording, same_monitors) (same-scratch devices 0 (monitor_at c) one any (recording_answer c recording) edition (packets_at recording) budget scratch room);
        room = λ edition recording budget scratch room.
            rw (answer-alike recording, same_monitors) (same-room devices 0 (monitor_at c) one any (recording_answer c recording) edition (packets_at recording) budget scratch room);
        checking = λ edition recording witness.
            rw (answer-alike recording, same_monitors)
            (ap (λ (x : Reading). checked x (rows_at edition witness)) (same-checking devices 0 (monitor_at c) one any (recording_answer c recording) edition recording witness));
      }
