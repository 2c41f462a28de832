-- A kind's record in each version of a table (document 02, R-6): how long it is, where it starts, and which device sends the kind.
use Rattle.std.specs.Prelude.{ℕ, ◌+◌, ◌*◌, List, [], ◌∷◌, Bool, cond, ◌&&◌, length, get_or, take, leb, eqb}
use Rattle.model.specs.Limits.{airtime_limit, device_limit}
use Rattle.model.specs.Bytes.{byte_at}
use Rattle.model.specs.First.{unless, first_of, Reading}
use Rattle.model.specs.declared.TableParts.{TableParts}
use Rattle.model.specs.declared.Refusal.TheVariants.{TableLength, TableField}

abbrev pub version_at : List ℕ → ℕ
version_at b = byte_at b 2

-- direction and airtime; "the kind record becomes three bytes, device last, in table version 2"
abbrev pub kind_width : (version : ℕ) → ℕ
kind_width version = cond (eqb version 1) 2 3

-- the offset of kind record i. Behind the last one the transition records start
abbrev pub kind_at : (version i : ℕ) → ℕ
kind_at version i = 8 + kind_width version * i

-- version 1: "kinds from the unit get device 0, kinds to it device 1"
unfoldable pub implied_device : (direction : ℕ) → ℕ
implied_device direction = cond (eqb direction 0) 0 1

-- the device of the kind whose record starts at an offset
unfoldable pub device_at : List ℕ → ℕ → ℕ
device_at b at = cond (eqb (version_at b) 1) (implied_device (byte_at b at)) (byte_at b (at + 2))

-- "A device other than 0 on a kind from the unit, or device 0 on a kind to it, is 14"; "version 1 parts with other devices are 14"
unfoldable pub device_fits : (version direction device : ℕ) → Bool
device_fits version direction device =
    cond (eqb version 1)
    (eqb device (implied_device direction))
    (cond (eqb direction 0) (eqb device 0) (leb 1 device && leb device device_limit))

-- "per kind: direction (0 from the unit, 1 to it) and airtime (0 to 15)", and its device
unfoldable pub kind_record : List ℕ → (at device : ℕ) → Reading
kind_record b at device =
    first_of
    (unless (leb (at + kind_width (version_at b)) (length b)) (TableLength at)
    ∷ unless (leb (byte_at b at) 1) (TableField at)
    ∷ unless (leb (byte_at b (at + 1)) airtime_limit) (TableField at)
    ∷ unless (device_fits (version_at b) (byte_at b at) device) (TableField at)
    ∷ [])

-- the record of kind i as it is written

abbrev pub kind_fields : TableParts → ℕ → List ℕ
kind_fields t i = get_or t.directions i 0 ∷ get_or t.airtimes i 0 ∷ get_or t.devices i 0 ∷ []

unfoldable pub kind_bytes : TableParts → ℕ → List ℕ
kind_bytes t i = take (kind_width t.version) (kind_fields t i)
