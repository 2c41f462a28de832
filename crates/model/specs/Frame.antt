-- "Each file: a two-byte length of all that follows it, big-endian, then a version byte". A recording and a witness have the number of their rows next. In edition 2
-- of a witness length and number are longer (document 02, R-5); tables and recordings have the frame of edition 1.
use Rattle.std.specs.Prelude.{ℕ, ◌+◌, ◌*◌, List, [], ◌∷◌, ◌++◌, Bool, ◌&&◌, length, leb, eqb}
use Rattle.model.specs.Bytes.{byte_at}
use Rattle.model.specs.First.{unless, first_of, Reading}
use Rattle.model.specs.Edition.{size_width, size_at, size_bytes, version_of, version_place, count_place, rows_place}
use Rattle.model.specs.declared.Edition.{Edition}
use Rattle.model.specs.declared.Refusal.{Refusal}

-- one of the versions from the oldest to the latest
abbrev pub is_version : (oldest latest version : ℕ) → Bool
is_version oldest latest version = leb oldest version && leb version latest

-- at least so many bytes, a length that matches, a version from the oldest to the latest
unfoldable pub framed : Edition → List ℕ → (least oldest latest : ℕ) → (frame version : Refusal) → Reading
framed edition b least oldest latest frame version =
    first_of
    (unless (leb least (length b)) frame
    ∷ unless (eqb (size_at edition b 0 + size_width edition) (length b)) frame
    ∷ unless (is_version oldest latest (byte_at b (version_place edition))) version
    ∷ [])

-- the length of what follows it: the count, the version, and so many rows of one width
abbrev pub rows_size : Edition → (width count : ℕ) → ℕ
rows_size edition width count = size_width edition + 1 + width * count

-- the edition's version, then at most so many rows of one width, and no byte more
unfoldable pub framed_rows : Edition → List ℕ → (width limit : ℕ) → (frame version count : Refusal) → Reading
framed_rows edition b width limit frame version count =
    first_of
    (framed edition b (rows_place edition) (version_of edition) (version_of edition) frame version
    ∷ unless (leb (size_at edition b (count_place edition)) limit) count
    ∷ unless (eqb (size_at edition b 0) (rows_size edition width (size_at edition b (count_place edition)))) count
    ∷ [])

-- what stands before so many rows of one width
abbrev pub rows_frame : Edition → (width count : ℕ) → List ℕ
rows_frame edition width count = size_bytes edition (rows_size edition width count) ++ (version_of edition ∷ []) ++ size_bytes edition count
