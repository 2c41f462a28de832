-- R-6 by computation: the small monitor in version 2, and what reading and writing answer to versions and devices.
use Prim.Native.Nat.{ℕ, zero, suc, ◌+◌, ◌*◌, ◌<◌}
use native.Mathlib.Omega.{arith}
use mathlib.Core.Path.{◌≡◌, refl}
use mathlib.Core.List.{List, [], ◌∷◌, ◌++◌, map}
use lib.ListN.{length, set, take, drop, replicate}
use Rattle.model.specs.Bytes.{word_bytes}
use Rattle.model.specs.Kinds.{kind_bytes}
use Rattle.model.specs.Table.{table_parts, table_answer, table_body, table_bytes, write_table}
use Rattle.model.specs.Numbers.{Values, values, reading_values, writing_values}
use Rattle.model.specs.Versions.{SameOtherBytes}
use Rattle.model.specs.declared.Edition.TheVariants.{One}
use Rattle.model.specs.declared.TableParts.{TableParts}
use Rattle.examples.proofs.Examples.{run_of, runs, expected, table}
use Rattle.model.proofs.OtherBytes.{in_version}

-- three kinds as version 2 has them: DATA and RETRY from the unit, ACK from device 5
three_kinds : List ℕ
three_kinds = 0 ∷ 1 ∷ 0 ∷ 0 ∷ 1 ∷ 0 ∷ 1 ∷ 0 ∷ 5 ∷ []

-- the small monitor with these records of its kinds
small_with : (version : ℕ) → (kinds : List ℕ) → List ℕ
unfolding table
small_with version kinds = let body : List ℕ = take 5 (drop 3 table) ++ kinds ++ drop 14 table in word_bytes (1 + length body) ++ (version ∷ body)

pub version_two : List ℕ
unfolding small_with three_kinds
version_two = small_with 2 three_kinds

-- Devices 1, 15, 16, 255 and 0 of the ACK; 1 and 16 of DATA, 1 of RETRY; a later kind's device behind an earlier kind's airtime; versions 0, 3 and 255;
-- version 1's records in version 2, and the other way round; a table cut in the third byte of its last kind, and one with a byte more
pub cases : List (List ℕ × Values)
unfolding small_with three_kinds
cases =
    (small_with 2 three_kinds, values 0 0 0)
    ∷ (small_with 2 (set three_kinds 8 1), values 0 0 0)
    ∷ (small_with 2 (set three_kinds 8 15), values 0 0 0)
    ∷ (small_with 2 (set three_kinds 8 16), values 14 14 0)
    ∷ (small_with 2 (set three_kinds 8 255), values 14 14 0)
    ∷ (small_with 2 (set three_kinds 8 0), values 14 14 0)
    ∷ (small_with 2 (set three_kinds 2 1), values 14 8 0)
    ∷ (small_with 2 (set three_kinds 2 16), values 14 8 0)
    ∷ (small_with 2 (set three_kinds 5 1), values 14 11 0)
    ∷ (small_with 2 (set (set three_kinds 8 0) 4 16), values 14 11 0)
    ∷ (small_with 0 three_kinds, values 11 2 0)
    ∷ (small_with 3 three_kinds, values 11 2 0)
    ∷ (small_with 255 three_kinds, values 11 2 0)
    ∷ (small_with 2 (0 ∷ 1 ∷ 0 ∷ 1 ∷ 1 ∷ 0 ∷ []), values 14 11 0)
    ∷ (small_with 1 three_kinds, values 14 14 0)
    ∷ (set (take 16 (small_with 2 three_kinds)) 1 14, values 13 14 0)
    ∷ (set (small_with 2 three_kinds ++ (0 ∷ [])) 1 70, values 13 71 0)
    ∷ []

-- the small monitor, and the same with an airtime of RETRY that is out of range

pub small : TableParts
unfolding table_parts table
small = table_parts table

pub small_bad : TableParts
unfolding table_parts table
small_bad = table_parts (set table 11 16)

-- Parts of version 1 as they are read, and with other devices of DATA and of the ACK, before and behind a bad airtime; the same of version 2; other versions
pub writings : List (TableParts × Values)
unfolding small small_bad
writings =
    (in_version 1 (0 ∷ 0 ∷ 1 ∷ []) small, values 0 68 0)
    ∷ (in_version 1 (0 ∷ 0 ∷ 5 ∷ []) small, values 14 12 0)
    ∷ (in_version 1 (0 ∷ 0 ∷ 0 ∷ []) small, values 14 12 0)
    ∷ (in_version 1 (1 ∷ 1 ∷ 1 ∷ []) small, values 14 8 0)
    ∷ (in_version 1 (0 ∷ 0 ∷ 5 ∷ []) small_bad, values 14 10 0)
    ∷ (in_version 1 (2 ∷ 0 ∷ 1 ∷ []) small_bad, values 14 8 0)
    ∷ (in_version 2 (0 ∷ 0 ∷ 5 ∷ []) small, values 0 71 0)
    ∷ (in_version 2 (0 ∷ 0 ∷ 16 ∷ []) small, values 14 14 0)
    ∷ (in_version 2 (0 ∷ 1 ∷ 0 ∷ []) small, values 14 11 0)
    ∷ (in_version 0 (0 ∷ 0 ∷ 1 ∷ []) small, values 11 2 0)
    ∷ (in_version 3 (0 ∷ 0 ∷ 1 ∷ []) small_bad, values 11 2 0)
    ∷ []

-- a room long enough, and dirty
pub room : List ℕ
room = replicate 80 7

pub record Answered : Type 0 where
  pub twelve : runs One version_two ≡ expected (λ witness. witness)
  pub other : SameOtherBytes version_two table
  pub read : map (λ c. reading_values (table_answer c.0)) cases ≡ map (λ c. c.1) cases
  pub implied : take 4 (table_parts table).devices ≡ 0 ∷ 0 ∷ 1 ∷ 0 ∷ []
  pub stated : take 4 (table_parts version_two).devices ≡ 0 ∷ 0 ∷ 5 ∷ 0 ∷ []
  pub wrote : map (λ c. writing_values (write_table c.0 room).answer) writings ≡ map (λ c. c.1) writings
  pub bytes : take 71 (write_table (in_version 2 (0 ∷ 0 ∷ 5 ∷ []) small) room).room ≡ version_two

pub two_versions : Answered
unfolding run_of runs expected version_two small_with three_kinds table cases small small_bad writings room kind_bytes table_body table_bytes write_table table_parts
two_versions = record { twelve = refl; other = record { counts = refl; kinds = kind; transitions = refl }; read = refl; implied = refl; stated = refl; wrote = refl; bytes = refl }
  where
    kind : (i : ℕ) → i < 3 → take 2 (drop (8 + 3 * i) version_two) ≡ take 2 (drop (8 + 2 * i) table)
    kind zero h = refl
    kind (suc zero) h = refl
    kind (suc (suc zero)) h = refl
    kind (suc (suc (suc i))) h = absurd (omega arith)
