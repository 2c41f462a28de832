-- A table's version and the devices of its kinds, in the words of document 02, R-6.
use Rattle.std.specs.Prelude.{ℕ, suc, ◌+◌, ◌<◌, ◌≤◌, ◌≡◌, ◌⊎◌, List, length, Ok}
use Rattle.model.specs.Limits.{table_versions, device_limit}
use Rattle.model.specs.Bytes.{byte_at, word_at}
use Rattle.model.specs.Frame.{framed}
use Rattle.model.specs.Kinds.{version_at, kind_at, kind_record}
use Rattle.model.specs.Table.{table_counts}
use Rattle.model.specs.Numbers.{Values, values}
use Rattle.model.specs.declared.TableParts.{TableParts}
use Rattle.model.specs.declared.Edition.TheVariants.{One}
use Rattle.model.specs.declared.Refusal.TheVariants.{TableFrame, TableVersion}

-- device 0 on a kind from the unit, 1 to 15 on a kind to it; in version 1 "kinds to it device 1"
pub record Suits (version direction device : ℕ) : Type 0 where
  pub from : direction ≡ 0 → device ≡ 0
  pub to : direction ≡ 1 → (1 ≤ device) × (device ≤ device_limit)
  pub implied : version ≡ 1 → direction ≡ 1 → device ≡ 1

pub record SoundDevices (t : TableParts) : Type 0 where
  pub version : (t.version ≡ 1) ⊎ (t.version ≡ 2)
  pub suit : (i : ℕ) → i < t.kinds → Suits t.version (byte_at t.directions i) (byte_at t.devices i)

-- the kinds having these devices, no number applies to length, version, counts and the kinds before number i
abbrev pub SoundBefore : (devices b : List ℕ) → ℕ → Type 0
SoundBefore devices b i =
    (framed One b 8 1 table_versions TableFrame TableVersion ≡ Ok tt)
    × (table_counts b ≡ Ok tt)
    × ((k : ℕ) → k < i → kind_record b (kind_at (version_at b) k) (byte_at devices k) ≡ Ok tt)

-- what the answer to a table says of its version and devices; t: its parts, b: its bytes. What is accepted has version 1 or 2 and devices that suit. If the
-- length matches, another version is 11. The first device that does not suit is 14 with the offset of its kind's record, if the record is there
pub record JudgesDevices (t : TableParts) (b : List ℕ) (answer : Values) : Type 0 where
  pub sound : (n : ℕ) → answer ≡ values 0 n 0 → SoundDevices t
  pub unknown : 8 ≤ length b → word_at b 0 + 2 ≡ length b → (t.version ≡ 1 → ⊥) → (t.version ≡ 2 → ⊥) → answer ≡ values 11 2 0
  pub refused :
      (i : ℕ) → i < t.kinds → SoundBefore t.devices b i → kind_at t.version (suc i) ≤ length b
      → (Suits t.version (byte_at t.directions i) (byte_at t.devices i) → ⊥) → answer ≡ values 14 (kind_at t.version i) 0
