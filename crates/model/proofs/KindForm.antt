-- What a sound kind record ensures, in each version; how long it is, and where the next one starts.
use Prim.Native.Nat.{ℕ, suc, ◌+◌, ◌*◌, ◌<◌, ◌≤◌}
use native.Mathlib.Nat.{mul-suc, mul-le-mul}
use native.Mathlib.Omega.{arith}
use mathlib.Core.Path.{◌≡◌, refl, sym}
use mathlib.Core.List.{List, [], ◌∷◌}
use mathlib.Core.Bool.{Bool, true, false, cond, ◌&&◌}
use lib.ListN.{length, take}
use lib.Seq.{get_or-take}
use lib.Dec.{leb, eqb}
use borrow.Author.Tests.{eqb-true}
use Rattle.model.specs.Limits.{table_versions, airtime_limit, device_limit}
use Rattle.model.specs.Bytes.{byte_at, joined}
use Rattle.model.specs.Kinds.{version_at, kind_width, kind_at, implied_device, device_at, device_fits, kind_record, kind_fields, kind_bytes}
use Rattle.model.specs.declared.TableParts.{TableParts}
use Rattle.model.specs.First.{Reading}
use Rattle.model.specs.declared.Refusal.{Refusal}
use Rattle.model.specs.declared.Refusal.TheVariants.{TableLength, TableField}
use Rattle.std.specs.Prelude.{Ok}
use Rattle.model.proofs.Basics.{unless-sound}
use Rattle.model.proofs.Tests.{test, le_test, tests}
use Rattle.model.proofs.Places.{length-joined}

pub two_or_three : (version : ℕ) → (2 ≤ kind_width version) × (kind_width version ≤ 3)
two_or_three version = go (eqb version 1)
  where
    go : (one : Bool) → (2 ≤ cond one 2 3) × (cond one 2 3 ≤ 3)
    go true = (omega arith, omega arith)
    go false = (omega arith, omega arith)

pub kind_next : (version i : ℕ) → kind_at version (suc i) ≡ kind_at version i + kind_width version
kind_next version i = omega (arith, mul-suc (kind_width version) i)

-- version 2 has the longest records
pub kind-most : (version i n : ℕ) → i ≤ n → kind_at version i ≤ kind_at table_versions n
kind-most version i n h = omega (arith, mul-le-mul (two_or_three version).1 h)

pub kind-length : (t : TableParts) (i : ℕ) → length (kind_bytes t i) ≡ kind_width t.version
unfolding kind_bytes
kind-length t i = go (eqb t.version 1)
  where
    go : (one : Bool) → length (take (cond one 2 3) (kind_fields t i)) ≡ cond one 2 3
    go true = refl
    go false = refl

pub kinds-length : (t : TableParts) (n : ℕ) → length (joined (kind_bytes t) n) ≡ kind_width t.version * n
kinds-length t n = length-joined (kind_bytes t) (kind_width t.version) n (λ i h. kind-length t i)

pub kind_byte :
    (t : TableParts) (i k : ℕ) → k < kind_width t.version
    → byte_at (kind_bytes t i) k ≡ byte_at (kind_fields t i) k
unfolding kind_bytes
kind_byte t i k h = get_or-take (kind_width t.version) (kind_fields t i) k 0 h

-- where a third byte is, it is the device
pub device_byte : (b : List ℕ) (at : ℕ) → 2 < kind_width (version_at b) → device_at b at ≡ byte_at b (at + 2)
unfolding device_at
device_byte b at = go (eqb (version_at b) 1)
  where
    go : (one : Bool) → 2 < cond one 2 3 → cond one (implied_device (byte_at b at)) (byte_at b (at + 2)) ≡ byte_at b (at + 2)
    go true h = absurd (omega arith)
    go false h = refl

-- a device that fits, and that stands where there is a third byte, is the one that is read
pub device-back :
    (b : List ℕ) (at device : ℕ) → device_fits (version_at b) (byte_at b at) device ≡ true → (2 < kind_width (version_at b) → byte_at b (at + 2) ≡ device) → device_at b at ≡ device
unfolding device_at device_fits
device-back b at device = go (eqb (version_at b) 1)
  where
    go :
        (one : Bool) → cond one (eqb device (implied_device (byte_at b at))) (cond (eqb (byte_at b at) 0) (eqb device 0) (leb 1 device && leb device device_limit)) ≡ true
        → (2 < cond one 2 3 → byte_at b (at + 2) ≡ device) → cond one (implied_device (byte_at b at)) (byte_at b (at + 2)) ≡ device
    go true e h = sym (eqb-true device (implied_device (byte_at b at)) e)
    go false e h = h (omega arith)

-- the record at an offset, of a kind that has a device
pub record SoundKind (b : List ℕ) (at device : ℕ) : Type 0 where
  pub fits : at + kind_width (version_at b) ≤ length b
  pub direction : byte_at b at ≤ 1
  pub airtime : byte_at b (at + 1) ≤ airtime_limit
  pub sender : device_fits (version_at b) (byte_at b at) device ≡ true

abbrev pub kind_tests : List ℕ → (at device : ℕ) → List (Bool × Refusal)
kind_tests b at device =
    (leb (at + kind_width (version_at b)) (length b), TableLength at)
    ∷ (leb (byte_at b at) 1, TableField at)
    ∷ (leb (byte_at b (at + 1)) airtime_limit, TableField at)
    ∷ (device_fits (version_at b) (byte_at b at) device, TableField at)
    ∷ []

pub sound-kind : (b : List ℕ) (at device : ℕ) → kind_record b at device ≡ Ok tt → SoundKind b at device
unfolding kind_record
sound-kind b at device e =
    let l : List Reading = tests (kind_tests b at device) in
    record {
      fits = le_test _ _ (TableLength at) (test l e 0);
      direction = le_test _ _ (TableField at) (test l e 1);
      airtime = le_test _ _ (TableField at) (test l e 2);
      sender = unless-sound (device_fits (version_at b) (byte_at b at) device) (TableField at) (test l e 3);
    }
