-- The table's round trips: sound bytes to parts and back, and parts to bytes and back.
use Prim.Native.Nat.{ℕ, zero, suc, ◌+◌, ◌*◌, ◌<◌, ◌≤◌}
use native.Mathlib.Nat.{add-zero}
use native.Mathlib.Omega.{arith}
use mathlib.Core.Path.{◌≡◌, refl, sym, ap, ap₂, ◌∙◌}
use mathlib.Core.List.{List, [], ◌∷◌, ◌++◌}
use lib.ListN.{length, take, drop, length-append, length-take, length-drop}
use lib.Seq.{length-take-le, get_or-take, get_or-drop}
use Rattle.model.specs.Limits.{kind_limit, transition_limit, guard_limit}
use Rattle.model.specs.Bytes.{byte_at, word_at, word_bytes, joined}
use lib.Dec.{eqb}
use Rattle.model.specs.Guard.{guard_at, guard_of}
use Rattle.model.proofs.GuardForm.{guard-moved, moved-guard}
use Rattle.model.specs.Rule.{no_rule}
use Rattle.model.specs.Table.{guard_in, transition_in, monitor_of, monitor_at, kinds_at, transitions_at, guard_length_at, transition_at, guard_place, table_parts, SoundTable, kind_records, scan_with, answer_with, table_answer, table_writable, kind_column, device_column, transition_column, field_bytes, guard_bytes_in, transition_bytes, count_bytes, table_body, table_bytes}
use Rattle.model.specs.Kinds.{version_at, kind_width, kind_at, device_at, kind_record, kind_fields, kind_bytes}
use Rattle.model.specs.Same.{Zero, SameTable, TableZero}
use Rattle.std.specs.Prelude.{Ok}
use Rattle.model.specs.declared.TableParts.{TableParts}
use Rattle.model.proofs.Places.{AllBytes, Stands, stands-append, stands-left, stands-right, stands-moved, stands_self, stands-whole, word_at_lem, length-padded, get_or_padded_past, get_or_column, get_or_column_past, stands-joined, joined-stands, tab-same, tab-alike}
use Rattle.model.proofs.KindForm.{two_or_three, kind-length, kinds-length, kind_byte, device_byte, device-back}
use Rattle.model.proofs.TableForm.{SoundTransition, TableFacts, scan_facts, scan_sound, table_facts, places_length, guard-place, guard_byte}

-- the guard of transition j as it is written
abbrev guard_out : TableParts → ℕ → List ℕ
guard_out t j = guard_bytes_in t.guards (byte_at t.lengths j) j

module _ (t : TableParts) (full : length t.guards ≡ guard_limit * transition_limit) (j : ℕ) (h : j < transition_limit) (few : byte_at t.lengths j ≤ guard_limit) where
  guard_out_length : length (guard_out t j) ≡ byte_at t.lengths j
  guard_out_length =
      let e : length (take guard_limit (drop (guard_limit * j) t.guards)) ≡ guard_limit = length-take-le guard_limit (drop (guard_limit * j) t.guards) (omega (arith, length-drop (guard_limit * j) t.guards)) in
      length-take-le (byte_at t.lengths j) (take guard_limit (drop (guard_limit * j) t.guards)) (rw e few)

  transition_bytes-length : length (transition_bytes t j) ≡ 7 + byte_at t.lengths j
  transition_bytes-length = omega (arith, guard_out_length)

guard_out_byte : (t : TableParts) (j i : ℕ) → byte_at t.lengths j ≤ guard_limit → i < byte_at t.lengths j → byte_at (guard_out t j) i ≡ byte_at t.guards (guard_limit * j + i)
guard_out_byte t j i few h =
    get_or-take (byte_at t.lengths j) (take guard_limit (drop (guard_limit * j) t.guards)) i 0 h
    ∙ get_or-take guard_limit (drop (guard_limit * j) t.guards) i 0 (omega arith)
    ∙ get_or-drop (guard_limit * j) t.guards i 0

-- the parts of a sound table, written again
module _ {devices : List ℕ} (b : List ℕ) (facts : TableFacts devices b) where
  guards_full : length (table_parts b).guards ≡ guard_limit * transition_limit
  unfolding table_parts
  guards_full =
      let few : transitions_at b ≤ transition_limit = facts.counts.transitions in
      length-padded (guard_limit * transition_limit) (joined (guard_place b) (transitions_at b)) (omega (arith, places_length b facts))

  length_of : (j : ℕ) → j < transitions_at b → byte_at (table_parts b).lengths j ≡ guard_length_at b (transition_at b j)
  unfolding table_parts
  length_of j h = get_or_column transition_limit (λ i. byte_at b (transition_at b i + 6)) (transitions_at b) j h

  pub length-few : (j : ℕ) → j < transitions_at b → byte_at (table_parts b).lengths j ≤ guard_limit
  length-few j h = rw (length_of j h) (facts.transition j h).few

  offset : (j : ℕ) → j ≤ transitions_at b → transition_at b 0 + length (joined (transition_bytes (table_parts b)) j) ≡ transition_at b j
  unfolding joined transition_at
  offset zero h = omega arith
  offset (suc j) h =
      let few : transitions_at b ≤ transition_limit = facts.counts.transitions in
      let again : transition_at b 0 + length (joined (transition_bytes (table_parts b)) j) ≡ transition_at b j = offset j (omega arith) in
      let n : length (transition_bytes (table_parts b) j) ≡ 7 + byte_at (table_parts b).lengths j =
      transition_bytes-length (table_parts b) guards_full j (omega arith) (length-few j h)
      in
      omega (arith, length-append (joined (transition_bytes (table_parts b)) j) (transition_bytes (table_parts b) j), length_of j h)

  kind-stands : (i : ℕ) → i < kinds_at b → Stands b (kind_at (version_at b) i) (kind_bytes (table_parts b) i)
  unfolding table_parts
  kind-stands i h k p = let q : k < kind_width (version_at b) = rw (kind-length (table_parts b) i) at p in go k q ∙ sym (kind_byte (table_parts b) i k q)
    where
      field : (k : ℕ) → byte_at b (kind_at (version_at b) i + k) ≡ byte_at (kind_column b k) i
      field k = sym (get_or_column kind_limit (λ i. byte_at b (kind_at (version_at b) i + k)) (kinds_at b) i h)

      go : (k : ℕ) → k < kind_width (version_at b) → byte_at b (kind_at (version_at b) i + k) ≡ byte_at (byte_at (kind_column b 0) i ∷ byte_at (kind_column b 1) i ∷ byte_at (device_column b) i ∷ []) k
      go zero q = field 0
      go (suc zero) q = field 1
      go (suc (suc zero)) q = sym (get_or_column kind_limit (λ i. device_at b (kind_at (version_at b) i)) (kinds_at b) i h ∙ device_byte b (kind_at (version_at b) i) q)
      go (suc (suc (suc k))) q = absurd (omega (arith, (two_or_three (version_at b)).1))

  column : (j : ℕ) → j < transitions_at b → (k : ℕ) → byte_at b (transition_at b j + k) ≡ byte_at (transition_column b k) j
  column j h k = sym (get_or_column transition_limit (λ i. byte_at b (transition_at b i + k)) (transitions_at b) j h)

  fields_stand : (j : ℕ) → j < transitions_at b → Stands b (transition_at b j) (field_bytes (table_parts b) j)
  unfolding table_parts
  fields_stand j h zero p = column j h 0
  fields_stand j h (suc zero) p = column j h 1
  fields_stand j h (suc (suc zero)) p = column j h 2
  fields_stand j h (suc (suc (suc zero))) p = column j h 3
  fields_stand j h (suc (suc (suc (suc zero)))) p = column j h 4
  fields_stand j h (suc (suc (suc (suc (suc zero))))) p = column j h 5
  fields_stand j h (suc (suc (suc (suc (suc (suc zero)))))) p = column j h 6
  fields_stand j h (suc (suc (suc (suc (suc (suc (suc i))))))) p = absurd (omega arith)

  guard-stands : (j : ℕ) → j < transitions_at b → Stands b (transition_at b j + 7) (guard_out (table_parts b) j)
  guard-stands j h i p =
      let n : byte_at (table_parts b).lengths j ≡ guard_length_at b (transition_at b j) = length_of j h in
      let few : transitions_at b ≤ transition_limit = facts.counts.transitions in
      let e : length (guard_out (table_parts b) j) ≡ byte_at (table_parts b).lengths j = guard_out_length (table_parts b) guards_full j (omega arith) (length-few j h) in
      sym (guard_out_byte (table_parts b) j i (length-few j h) (omega arith) ∙ guard_byte b facts j h i (omega arith))

  transition-stands : (j : ℕ) → j < transitions_at b → Stands b (transition_at b j) (transition_bytes (table_parts b) j)
  transition-stands j h = stands-append b (transition_at b j) (field_bytes (table_parts b) j) (guard_out (table_parts b) j) (fields_stand j h) (guard-stands j h)

  body_length : 2 + length (table_body (table_parts b)) ≡ length b
  unfolding table_body table_parts transition_at
  body_length =
      let t : TableParts = table_parts b in
      let e : transition_at b 0 + length (joined (transition_bytes t) (transitions_at b)) ≡ transition_at b (transitions_at b) = offset (transitions_at b) (omega arith) in
      let f : transition_at b (transitions_at b) ≡ length b = facts.end in
      omega (arith, length-append (joined (kind_bytes t) (kinds_at b)) (joined (transition_bytes t) (transitions_at b)), kinds-length t (kinds_at b))

  counts_stand : Stands b 2 (count_bytes (table_parts b))
  unfolding table_parts
  counts_stand zero p = refl
  counts_stand (suc zero) p = refl
  counts_stand (suc (suc zero)) p = refl
  counts_stand (suc (suc (suc zero))) p = refl
  counts_stand (suc (suc (suc (suc zero)))) p = refl
  counts_stand (suc (suc (suc (suc (suc zero))))) p = refl
  counts_stand (suc (suc (suc (suc (suc (suc i)))))) p = absurd (omega arith)

  body_stands : Stands b 2 (table_body (table_parts b))
  unfolding table_body table_parts transition_at
  body_stands =
      let t : TableParts = table_parts b in
      let counts : List ℕ = count_bytes t in
      let kinds : List ℕ = joined (kind_bytes t) (kinds_at b) in
      let transitions : List ℕ = joined (transition_bytes t) (transitions_at b) in
      let end : transition_at b 0 ≡ 2 + length (counts ++ kinds) = omega (arith, kinds-length t (kinds_at b)) in
      stands-append b 2 (counts ++ kinds) transitions
      (stands-append b 2 counts kinds counts_stand
      (stands-joined (kind_bytes t) b 8 (kinds_at b)
      (λ i h. stands-moved b (kind_at (version_at b) i) (8 + length (joined (kind_bytes t) i)) (kind_bytes t i) (omega (arith, kinds-length t i)) (kind-stands i h))))
      (stands-moved b (transition_at b 0) (2 + length (counts ++ kinds)) transitions end
      (stands-joined (transition_bytes t) b (transition_at b 0) (transitions_at b)
      (λ j h. stands-moved b (transition_at b j) (transition_at b 0 + length (joined (transition_bytes t) j)) (transition_bytes t j) (sym (offset j (omega arith))) (transition-stands j h))))

pub table_again : (b : List ℕ) → AllBytes b → SoundTable b → table_bytes (table_parts b) ≡ b
unfolding table_bytes
table_again b all s =
    let facts : TableFacts (device_column b) b = table_facts b s in
    let n : 2 + length (table_body (table_parts b)) ≡ length b = body_length b facts in
    let f : word_at b 0 + 2 ≡ length b = facts.head.framed in
    stands-whole b (table_bytes (table_parts b)) (omega arith)
    (stands-append b 0 (word_bytes (length (table_body (table_parts b)))) (table_body (table_parts b))
    (word_at_lem b 0 (length (table_body (table_parts b))) all (omega arith)) (body_stands b facts))

module _ (b : List ℕ) where
  no_kind : (k : ℕ) → Zero (kinds_at b) (kind_column b k)
  no_kind k = get_or_column_past kind_limit (λ i. byte_at b (kind_at (version_at b) i + k)) (kinds_at b)

  no_transition_lem : (k : ℕ) → Zero (transitions_at b) (transition_column b k)
  no_transition_lem k = get_or_column_past transition_limit (λ j. byte_at b (transition_at b j + k)) (transitions_at b)

  no_guard : (facts : TableFacts (device_column b) b) (j : ℕ) → j < transitions_at b → (i : ℕ) → byte_at (table_parts b).lengths j ≤ i → i < guard_limit → byte_at (table_parts b).guards (guard_limit * j + i) ≡ 0
  unfolding guard_place
  no_guard facts j h i p q =
      let n : ℕ = guard_length_at b (transition_at b j) in
      let l : n ≤ i = rw (length_of b facts j h) at p in
      let g : List ℕ = take n (drop (transition_at b j + 7) b) in
      guard-place b facts j h i q ∙ get_or_padded_past guard_limit g i (omega (arith, length-take n (drop (transition_at b j + 7) b)))

  pub zero_beyond : SoundTable b → TableZero (table_parts b)
  unfolding table_parts
  zero_beyond s =
      let facts : TableFacts (device_column b) b = table_facts b s in
      record {
        directions = no_kind 0;
        airtimes = no_kind 1;
        devices = get_or_column_past kind_limit (λ i. device_at b (kind_at (version_at b) i)) (kinds_at b);
        sources = no_transition_lem 0;
        targets = no_transition_lem 1;
        triggers = no_transition_lem 2;
        sets = no_transition_lem 3;
        clears = no_transition_lem 4;
        resets = no_transition_lem 5;
        lengths = no_transition_lem 6;
        guards = no_guard facts;
        no_guards = λ i h. get_or_padded_past (guard_limit * transition_limit) (joined (guard_place b) (transitions_at b)) i (omega (arith, places_length b facts));
      }

-- the bytes of parts, read

module _ (t : TableParts) where
  written_body : Stands (table_bytes t) 2 (count_bytes t ++ joined (kind_bytes t) t.kinds ++ joined (transition_bytes t) t.transitions)
  unfolding table_bytes table_body
  written_body = stands-right (table_bytes t) 0 (word_bytes (length (table_body t))) (table_body t) (stands_self (table_bytes t))

  pub written-counts : Stands (table_bytes t) 2 (count_bytes t)
  written-counts =
      stands-left (table_bytes t) 2 (count_bytes t) (joined (kind_bytes t) t.kinds)
      (stands-left (table_bytes t) 2 (count_bytes t ++ joined (kind_bytes t) t.kinds) (joined (transition_bytes t) t.transitions) written_body)

  pub written-kind : (i : ℕ) → i < t.kinds → Stands (table_bytes t) (kind_at t.version i) (kind_bytes t i)
  written-kind i h =
      stands-moved (table_bytes t) (8 + length (joined (kind_bytes t) i)) (kind_at t.version i) (kind_bytes t i) (omega (arith, kinds-length t i))
      (joined-stands (kind_bytes t) (table_bytes t) 8 t.kinds i h
      (stands-right (table_bytes t) 2 (count_bytes t) (joined (kind_bytes t) t.kinds)
      (stands-left (table_bytes t) 2 (count_bytes t ++ joined (kind_bytes t) t.kinds) (joined (transition_bytes t) t.transitions) written_body)))

  written-transition : (j : ℕ) → j < t.transitions → Stands (table_bytes t) (kind_at t.version t.kinds + length (joined (transition_bytes t) j)) (transition_bytes t j)
  written-transition j h =
      let kinds : List ℕ = joined (kind_bytes t) t.kinds in
      let transitions : List ℕ = joined (transition_bytes t) t.transitions in
      joined-stands (transition_bytes t) (table_bytes t) (kind_at t.version t.kinds) t.transitions j h
      (stands-moved (table_bytes t) (2 + length (count_bytes t ++ kinds)) (kind_at t.version t.kinds) transitions (omega (arith, kinds-length t t.kinds))
      (stands-right (table_bytes t) 2 (count_bytes t ++ kinds) transitions written_body))

module _ (t : TableParts) (full : length t.guards ≡ guard_limit * transition_limit) (facts : TableFacts t.devices (table_bytes t)) where
  few-transitions : t.transitions ≤ transition_limit
  few-transitions = let h : transitions_at (table_bytes t) ≤ transition_limit = facts.counts.transitions in rw (written-counts t 5 (omega arith)) at h

  transition_facts : (j : ℕ) → j < t.transitions → SoundTransition (table_bytes t) (transition_at (table_bytes t) j)
  transition_facts j h = facts.transition j (rw (written-counts t 5 (omega arith)) h)

  placed : (j : ℕ) → j ≤ t.transitions → kind_at t.version t.kinds + length (joined (transition_bytes t) j) ≡ transition_at (table_bytes t) j
  unfolding transition_at joined
  placed zero h =
      let v : version_at (table_bytes t) ≡ t.version = written-counts t 0 (omega arith) in
      let e : kinds_at (table_bytes t) ≡ t.kinds = written-counts t 4 (omega arith) in
      rw (v, e) (add-zero (kind_at t.version t.kinds))
  placed (suc j) h =
      let again : kind_at t.version t.kinds + length (joined (transition_bytes t) j) ≡ transition_at (table_bytes t) j = placed j (omega arith) in
      let e : guard_length_at (table_bytes t) (transition_at (table_bytes t) j) ≡ byte_at t.lengths j =
      stands-moved (table_bytes t) _ (transition_at (table_bytes t) j) (transition_bytes t j) again (written-transition t j h) 6 (omega arith)
      in
      let few : guard_length_at (table_bytes t) (transition_at (table_bytes t) j) ≤ guard_limit = (transition_facts j h).few in
      let n : length (transition_bytes t j) ≡ 7 + byte_at t.lengths j = transition_bytes-length t full j (omega (arith, few-transitions)) (omega arith) in
      omega (arith, length-append (joined (transition_bytes t) j) (transition_bytes t j))

  back : (j : ℕ) → j < t.transitions → Stands (table_bytes t) (transition_at (table_bytes t) j) (transition_bytes t j)
  back j h =
      stands-moved (table_bytes t) (kind_at t.version t.kinds + length (joined (transition_bytes t) j)) (transition_at (table_bytes t) j) (transition_bytes t j) (placed j (omega arith)) (written-transition t j h)

  back-few : (j : ℕ) → j < t.transitions → byte_at t.lengths j ≤ guard_limit
  back-few j h = let e : guard_length_at (table_bytes t) (transition_at (table_bytes t) j) ≡ byte_at t.lengths j = back j h 6 (omega arith) in rw (sym e) (transition_facts j h).few

  -- a column of the parts read, at a place that the count reaches

  read_kind : (i : ℕ) → i < t.kinds → (k : ℕ) → k < kind_width t.version → byte_at (table_bytes t) (kind_at (version_at (table_bytes t)) i + k) ≡ byte_at (kind_bytes t i) k
  read_kind i h k p = let v : version_at (table_bytes t) ≡ t.version = written-counts t 0 (omega arith) in rw v (written-kind t i h k (rw (kind-length t i) p))

  back-kind : (i : ℕ) → i < t.kinds → (k : ℕ) → k < 2 → byte_at (kind_column (table_bytes t) k) i ≡ byte_at (kind_fields t i) k
  back-kind i h k p =
      let b : List ℕ = table_bytes t in
      let q : k < kind_width t.version = omega (arith, (two_or_three t.version).0) in
      get_or_column kind_limit (λ i. byte_at b (kind_at (version_at b) i + k)) (kinds_at b) i (rw (written-counts t 4 (omega arith)) h) ∙ read_kind i h k q ∙ kind_byte t i k q

  back-device : (i : ℕ) → i < t.kinds → byte_at (device_column (table_bytes t)) i ≡ byte_at t.devices i
  back-device i h =
      let b : List ℕ = table_bytes t in
      let within : i < kinds_at b = rw (written-counts t 4 (omega arith)) h in
      let v : version_at b ≡ t.version = written-counts t 0 (omega arith) in
      get_or_column kind_limit (λ i. device_at b (kind_at (version_at b) i)) (kinds_at b) i within
      ∙ device-back b (kind_at (version_at b) i) (byte_at t.devices i) (facts.kind i within).sender
      (λ wide. let q : 2 < kind_width t.version = rw v at wide in read_kind i h 2 q ∙ kind_byte t i 2 q)

  back_field : (j : ℕ) → j < t.transitions → (k : ℕ) → k < 7 → byte_at (transition_column (table_bytes t) k) j ≡ byte_at (transition_bytes t j) k
  back_field j h k p =
      let b : List ℕ = table_bytes t in
      get_or_column transition_limit (λ i. byte_at b (transition_at b i + k)) (transitions_at b) j (rw (written-counts t 5 (omega arith)) h) ∙ back j h k (omega arith)

  back-guard :
      (j : ℕ) → j < t.transitions → (i : ℕ) → i < byte_at t.lengths j → byte_at (table_parts (table_bytes t)).guards (guard_limit * j + i) ≡ byte_at t.guards (guard_limit * j + i)
  back-guard j h i p =
      let b : List ℕ = table_bytes t in
      let e : guard_length_at b (transition_at b j) ≡ byte_at t.lengths j = back j h 6 (omega arith) in
      let n : length (guard_out t j) ≡ byte_at t.lengths j = guard_out_length t full j (omega (arith, few-transitions)) (back-few j h) in
      guard_byte b facts j (rw (written-counts t 5 (omega arith)) h) i (omega arith)
      ∙ stands-right b (transition_at b j) (field_bytes t j) (guard_out t j) (back j h) i (omega arith)
      ∙ guard_out_byte t j i (back-few j h) p

-- bytes are judged by the devices that their kinds have

devices-same : (d e b : List ℕ) → ((i : ℕ) → i < kinds_at b → byte_at d i ≡ byte_at e i) → answer_with d b ≡ answer_with e b
unfolding answer_with scan_with kind_records
devices-same d e b same =
    let at : ℕ → ℕ = λ i. kind_at (version_at b) i in
    let kinds = tab-same (λ i. kind_record b (at i) (byte_at d i)) (λ i. kind_record b (at i) (byte_at e i)) (kinds_at b) (λ i h. ap (kind_record b (at i)) (same i h)) in
    rw kinds

pub sound_back : (t : TableParts) → length t.guards ≡ guard_limit * transition_limit → table_writable t ≡ Ok tt → SoundTable (table_bytes t)
unfolding table_answer
sound_back t full s =
    let facts : TableFacts t.devices (table_bytes t) = scan_facts t.devices (table_bytes t) (scan_sound t.devices (table_bytes t) s) in
    let n : kinds_at (table_bytes t) ≡ t.kinds = written-counts t 4 (omega arith) in
    devices-same (device_column (table_bytes t)) t.devices (table_bytes t) (λ i h. back-device t full facts i (rw n at h)) ∙ s

pub table_back_lem : (t : TableParts) → length t.guards ≡ guard_limit * transition_limit → scan_with t.devices (table_bytes t) ≡ Ok tt → SameTable (table_parts (table_bytes t)) t
unfolding table_parts
table_back_lem t full s =
    let facts : TableFacts t.devices (table_bytes t) = scan_facts t.devices (table_bytes t) s in
    record {
      version = written-counts t 0 (omega arith);
      states = written-counts t 1 (omega arith);
      variables = written-counts t 2 (omega arith);
      clocks = written-counts t 3 (omega arith);
      kinds = written-counts t 4 (omega arith);
      transitions = written-counts t 5 (omega arith);
      directions = λ i h. back-kind t full facts i h 0 (omega arith);
      airtimes = λ i h. back-kind t full facts i h 1 (omega arith);
      devices = back-device t full facts;
      sources = λ j h. back_field t full facts j h 0 (omega arith);
      targets = λ j h. back_field t full facts j h 1 (omega arith);
      triggers = λ j h. back_field t full facts j h 2 (omega arith);
      sets = λ j h. back_field t full facts j h 3 (omega arith);
      clears = λ j h. back_field t full facts j h 4 (omega arith);
      resets = λ j h. back_field t full facts j h 5 (omega arith);
      lengths = λ j h. back_field t full facts j h 6 (omega arith);
      guards = back-guard t full facts;
    }

-- parts that agree so describe the same monitor

module _ (t u : TableParts) (same : SameTable t u) (few : (j : ℕ) → j < u.transitions → byte_at u.lengths j ≤ guard_limit) where
  same-guard : (j : ℕ) → j < u.transitions → guard_in t j ≡ guard_in u j
  unfolding guard_in
  same-guard j h =
      let n : ℕ = byte_at u.lengths j in
      ap₂ (λ (vs cs : ℕ). guard_of (guard_at guard_limit vs cs t.guards (guard_limit * j) (guard_limit * j + byte_at t.lengths j))) same.variables same.clocks
      ∙ ap (λ (k : ℕ). guard_of (guard_at guard_limit u.variables u.clocks t.guards (guard_limit * j) (guard_limit * j + k))) (same.lengths j h)
      ∙ ap guard_of (guard-moved u.variables u.clocks u.guards t.guards (guard_limit * j) (guard_limit * j) n (λ i p. sym (same.guards j h i p)) guard_limit guard_limit (few j h) (few j h))
      ∙ moved-guard (guard_limit * j) (guard_limit * j) (guard_at guard_limit u.variables u.clocks u.guards (guard_limit * j) (guard_limit * j + n))

  same-transition : (j : ℕ) → j < u.transitions → transition_in t j ≡ transition_in u j
  unfolding transition_in
  same-transition j h i =
      record {
        source = same.sources j h i;
        target = same.targets j h i;
        trigger = same.triggers j h i;
        sets = same.sets j h i;
        clears = same.clears j h i;
        resets = same.resets j h i;
        guard = same-guard j h i;
      }

  pub same_monitor : monitor_of t ≡ monitor_of u
  unfolding monitor_of
  same_monitor =
      let inbound = tab-alike (λ k. eqb (byte_at t.directions k) 1) (λ k. eqb (byte_at u.directions k) 1) t.kinds u.kinds same.kinds (λ k h. ap (λ (x : ℕ). eqb x 1) (same.directions k h)) in
      let airtimes = tab-alike (λ k. byte_at t.airtimes k) (λ k. byte_at u.airtimes k) t.kinds u.kinds same.kinds same.airtimes in
      let devices = tab-alike (λ k. byte_at t.devices k) (λ k. byte_at u.devices k) t.kinds u.kinds same.kinds same.devices in
      let transitions = tab-alike (transition_in t) (transition_in u) t.transitions u.transitions same.transitions same-transition in
      λ i.
      record {
        states = same.states i;
        variables = same.variables i;
        clocks = same.clocks i;
        inbound = inbound i;
        airtimes = airtimes i;
        devices = devices i;
        transitions = transitions i;
        rule = no_rule;
      }

pub monitor_back : (t : TableParts) → length t.guards ≡ guard_limit * transition_limit → scan_with t.devices (table_bytes t) ≡ Ok tt → monitor_at (table_bytes t) ≡ monitor_of t
monitor_back t full s = same_monitor (table_parts (table_bytes t)) t (table_back_lem t full s) (back-few t full (scan_facts t.devices (table_bytes t) s))
