-- What is read, or written, is judged by its version and devices as R-6 says.
use Prim.Native.Nat.{ℕ, zero, suc, ◌+◌, ◌*◌, ◌<◌, ◌≤◌}
use native.Mathlib.Nat.{add-zero}
use native.Mathlib.Omega.{arith}
use native.Mathlib.Decide.{ℕ_discrete}
use mathlib.Core.Path.{◌≡◌, refl, sym, ap, ap₂, subst, ◌∙◌}
use mathlib.Core.Logic.{◌⊎◌, inl, inr}
use mathlib.Core.List.{List, [], ◌∷◌}
use mathlib.Core.Bool.{Bool, true, false, cond, ◌&&◌}
use lib.ListN.{length}
use lib.Dec.{leb, eqb}
use borrow.Author.Tests.{leb-true, le-leb, lt-leb, eqb-true, eq-eqb}
use Rattle.model.specs.Limits.{table_versions, airtime_limit, device_limit, kind_limit, transition_limit, guard_limit}
use Rattle.model.specs.Bytes.{byte_at, word_at}
use Rattle.model.specs.First.{first_of, Reading}
use Rattle.model.specs.Frame.{is_version, framed}
use Rattle.model.specs.Room.{write}
use Rattle.model.specs.Numbers.{refusal_values, reading_values, writing_values}
use Rattle.model.specs.Kinds.{version_at, kind_width, kind_at, implied_device, device_fits, kind_record}
use Rattle.model.specs.Devices.{Suits, SoundDevices, SoundBefore, JudgesDevices}
use Rattle.model.specs.Table.{kinds_at, kind_column, device_column, table_parts, table_bytes, kind_records, scan_with, answer_with, table_answer, table_writable, write_table, SoundTable}
use Rattle.model.specs.Same.{SameTable}
use Rattle.model.specs.declared.TableParts.{TableParts}
use Rattle.std.specs.Prelude.{Ok, Err}
use Rattle.model.specs.declared.Refusal.{Refusal}
use Rattle.model.specs.declared.Refusal.TheVariants.{TableVersion, TableField}
use Rattle.model.proofs.Basics.{and_left, and_right}
use Rattle.model.proofs.Tests.{tests, first-refused}
use Rattle.model.proofs.KindForm.{two_or_three, kind_next, kind-length, kind_byte}
use Rattle.model.proofs.NumberLaws.{number_0, number-written}
use Rattle.model.proofs.RoomLaws.{written}
use Rattle.model.proofs.Places.{get_or_column}
use Rattle.model.proofs.TableForm.{TableFacts, scan_facts, scan_sound, table_facts}
use Rattle.model.proofs.TableTrip.{written-counts, written-kind, table_back_lem}

-- a device that fits, in words
module _ (version direction device : ℕ) (fits : device_fits version direction device ≡ true) where
  fits-from : direction ≡ 0 → device ≡ 0
  unfolding device_fits implied_device
  fits-from e = go (eqb version 1) (rw (eq-eqb direction 0 e) at fits)
    where
      go : (one : Bool) → cond one (eqb device 0) (eqb device 0) ≡ true → device ≡ 0
      go true h = eqb-true device 0 h
      go false h = eqb-true device 0 h

  fits-to : direction ≡ 1 → (1 ≤ device) × (device ≤ device_limit)
  unfolding device_fits implied_device
  fits-to e = go (eqb version 1) (rw e at fits)
    where
      go : (one : Bool) → cond one (eqb device 1) (leb 1 device && leb device device_limit) ≡ true → (1 ≤ device) × (device ≤ device_limit)
      go true h = let one : device ≡ 1 = eqb-true device 1 h in (omega arith, omega arith)
      go false h = (leb-true 1 device (and_left _ _ h), leb-true device device_limit (and_right (leb 1 device) (leb device device_limit) h))

  fits_one : version ≡ 1 → direction ≡ 1 → device ≡ 1
  unfolding device_fits implied_device
  fits_one v e = eqb-true device 1 (rw (eq-eqb version 1 v, e) at fits)

  fits_suits : Suits version direction device
  fits_suits = record { from = fits-from; to = fits-to; implied = fits_one }

devices_by :
    (t : TableParts) → 1 ≤ t.version → t.version ≤ 2
    → ((i : ℕ) → i < t.kinds → device_fits t.version (byte_at t.directions i) (byte_at t.devices i) ≡ true) → SoundDevices t
devices_by t least most fits = record { version = go (ℕ_discrete t.version 1); suit = λ i h. fits_suits t.version (byte_at t.directions i) (byte_at t.devices i) (fits i h) }
  where
    go : Dec (t.version ≡ 1) → (t.version ≡ 1) ⊎ (t.version ≡ 2)
    go (yes e) = inl e
    go (no e) = inr (omega arith)

-- the direction of a kind, from its record
direction_of : (b : List ℕ) (i : ℕ) → i < kinds_at b → byte_at (kind_column b 0) i ≡ byte_at b (kind_at (version_at b) i)
direction_of b i h = get_or_column kind_limit (λ k. byte_at b (kind_at (version_at b) k + 0)) (kinds_at b) i h ∙ ap (byte_at b) (add-zero (kind_at (version_at b) i))

read_devices : (b : List ℕ) → SoundTable b → SoundDevices (table_parts b)
unfolding table_parts
read_devices b s =
    let facts : TableFacts (device_column b) b = table_facts b s in
    devices_by (table_parts b) facts.head.numbered facts.head.known (λ i h. rw (direction_of b i h) (facts.kind i h).sender)

written-devices : (t : TableParts) → length t.guards ≡ guard_limit * transition_limit → scan_with t.devices (table_bytes t) ≡ Ok tt → SoundDevices t
unfolding table_parts
written-devices t full s =
    let b : List ℕ = table_bytes t in
    let facts : TableFacts t.devices b = scan_facts t.devices b s in
    let same : SameTable (table_parts b) t = table_back_lem t full s in
    let version : version_at b ≡ t.version = same.version in
    devices_by t (omega (arith, facts.head.numbered)) (omega (arith, facts.head.known))
    (λ i h.
    let within : i < kinds_at b = rw same.kinds h in
    let direction : byte_at b (kind_at (version_at b) i) ≡ byte_at t.directions i = sym (direction_of b i within) ∙ same.directions i h in
    ap₂ (λ (v d : ℕ). device_fits v d (byte_at t.devices i)) (sym version) (sym direction) ∙ (facts.kind i within).sender)

-- a record that is there, of a kind whose device does not suit it, is 14 at its offset
bad_device : (b : List ℕ) (at device : ℕ) → at + kind_width (version_at b) ≤ length b → (Suits (version_at b) (byte_at b at) device → ⊥) → kind_record b at device ≡ Err (TableField at)
unfolding kind_record
bad_device b at device there bad =
    let fits : Bool = device_fits (version_at b) (byte_at b at) device in
    rw (le-leb (at + kind_width (version_at b)) (length b) there) (go (leb (byte_at b at) 1) (leb (byte_at b (at + 1)) airtime_limit) fits (λ e. bad (fits_suits (version_at b) (byte_at b at) device e)))
  where
    go :
        (direction airtime fits : Bool) → (fits ≡ true → ⊥)
        → first_of (tests ((direction, TableField at) ∷ (airtime, TableField at) ∷ (fits, TableField at) ∷ [])) ≡ Err (TableField at)
    go true true true h = absurd (h refl)
    go true true false h = refl
    go true false fits h = refl
    go false airtime fits h = refl

first-device :
    (devices b : List ℕ) (i : ℕ) → i < kinds_at b → SoundBefore devices b i → kind_at (version_at b) (suc i) ≤ length b
    → (Suits (version_at b) (byte_at b (kind_at (version_at b) i)) (byte_at devices i) → ⊥) → answer_with devices b ≡ Err (TableField (kind_at (version_at b) i))
unfolding answer_with scan_with kind_records
first-device devices b i within before there bad =
    let at : ℕ → ℕ = λ k. kind_at (version_at b) k in
    let record_is : kind_record b (at i) (byte_at devices i) ≡ Err (TableField (at i)) = bad_device b (at i) (byte_at devices i) (omega (arith, kind_next (version_at b) i)) bad in
    let kinds = first-refused (λ k. kind_record b (at k) (byte_at devices k)) (kinds_at b) i (TableField (at i)) within before.2 record_is in
    rw (before.0, before.1, kinds)

not_version : (v : ℕ) → (v ≡ 1 → ⊥) → (v ≡ 2 → ⊥) → is_version 1 table_versions v ≡ false
not_version zero one two = refl
not_version (suc zero) one two = absurd (one refl)
not_version (suc (suc zero)) one two = absurd (two refl)
not_version (suc (suc (suc v))) one two = rw (le-leb 1 (suc (suc (suc v))) (omega arith)) (lt-leb (suc (suc (suc v))) table_versions (omega arith))

-- parts and bytes of one table
module _ (t : TableParts) (b : List ℕ) (version : version_at b ≡ t.version) (kinds : kinds_at b ≡ t.kinds)
    (direction : (i : ℕ) → i < t.kinds → byte_at b (kind_at (version_at b) i) ≡ byte_at t.directions i) where
  refuses_version : 8 ≤ length b → word_at b 0 + 2 ≡ length b → (t.version ≡ 1 → ⊥) → (t.version ≡ 2 → ⊥) → answer_with t.devices b ≡ Err TableVersion
  unfolding answer_with scan_with framed
  refuses_version least fits one two =
      rw (le-leb 8 (length b) least, eq-eqb (word_at b 0 + 2) (length b) fits, not_version (version_at b) (λ e. one (sym version ∙ e)) (λ e. two (sym version ∙ e)))

  refuses_device :
      (i : ℕ) → i < t.kinds → SoundBefore t.devices b i → kind_at t.version (suc i) ≤ length b
      → (Suits t.version (byte_at t.directions i) (byte_at t.devices i) → ⊥) → answer_with t.devices b ≡ Err (TableField (kind_at t.version i))
  refuses_device i h before there bad =
      first-device t.devices b i (rw kinds h) before (subst (λ (v : ℕ). kind_at v (suc i) ≤ length b) (sym version) there) (λ s. bad (moved s))
      ∙ ap (λ (v : ℕ). Err (TableField (kind_at v i))) version
    where
      moved : Suits (version_at b) (byte_at b (kind_at (version_at b) i)) (byte_at t.devices i) → Suits t.version (byte_at t.directions i) (byte_at t.devices i)
      moved s =
          subst (λ (v : ℕ). Suits v (byte_at t.directions i) (byte_at t.devices i)) version
          (subst (λ (d : ℕ). Suits (version_at b) d (byte_at t.devices i)) (direction i h) s)

pub read_judged : (b : List ℕ) → JudgesDevices (table_parts b) b (reading_values (table_answer b))
unfolding table_parts table_answer
read_judged b =
    let direction : (i : ℕ) → i < kinds_at b → byte_at b (kind_at (version_at b) i) ≡ byte_at (kind_column b 0) i = λ i h. sym (direction_of b i h) in
    record {
      sound = λ n v. read_devices b (number_0 (table_answer b) n v);
      unknown = λ least fits one two. ap reading_values (refuses_version (table_parts b) b refl refl direction least fits one two);
      refused = λ i h before there bad. ap reading_values (refuses_device (table_parts b) b refl refl direction i h before there bad);
    }

pub written-judged : (t : TableParts) → length t.guards ≡ guard_limit * transition_limit → (room : List ℕ) → JudgesDevices t (table_bytes t) (writing_values (write_table t room).answer)
unfolding write_table
written-judged t full room =
    let b : List ℕ = table_bytes t in
    let version : version_at b ≡ t.version = written-counts t 0 (omega arith) in
    let kinds : kinds_at b ≡ t.kinds = written-counts t 4 (omega arith) in
    let refusal : (r : Refusal) → table_writable t ≡ Err r → writing_values (write (table_writable t) b room).answer ≡ refusal_values r =
    λ r e. ap (λ (a : Reading). writing_values (write a b room).answer) e in
    record {
      sound = λ n v.
          let writable = (written (table_writable t) b room n (number-written (write (table_writable t) b room).answer n v)).0 in
          written-devices t full (scan_sound t.devices b writable);
      unknown = λ least fits one two. refusal TableVersion (refuses_version t b version kinds direction least fits one two);
      refused = λ i h before there bad. refusal (TableField (kind_at t.version i)) (refuses_device t b version kinds direction i h before there bad);
    }
  where
    direction : (i : ℕ) → i < t.kinds → byte_at (table_bytes t) (kind_at (version_at (table_bytes t)) i) ≡ byte_at t.directions i
    direction i h =
        let version : version_at (table_bytes t) ≡ t.version = written-counts t 0 (omega arith) in
        let first : 0 < kind_width t.version = omega (arith, (two_or_three t.version).0) in
        ap (λ (v : ℕ). byte_at (table_bytes t) (kind_at v i)) version
        ∙ ap (byte_at (table_bytes t)) (sym (add-zero (kind_at t.version i)))
        ∙ written-kind t i h 0 (rw (kind-length t i) first)
        ∙ kind_byte t i 0 first
