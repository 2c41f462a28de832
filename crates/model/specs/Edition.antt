-- The two editions of a witness (document 02, R-5) and the numbers in which they differ. A table and a recording have the frame of edition 1.
use Rattle.std.specs.Prelude.{ℕ, ◌+◌, List}
use Rattle.model.specs.Bytes.{word_at, word_bytes, long_at, long_bytes}
use Rattle.model.specs.declared.Edition.{Edition}
use Rattle.model.specs.declared.Edition.TheVariants.{One, Two}

-- "a two-byte length", "two-byte count"; "a four-byte length and a four-byte count"
abbrev pub size_width : Edition → ℕ
size_width One = 2
size_width Two = 4

-- such a number at an offset
abbrev pub size_at : Edition → List ℕ → ℕ → ℕ
size_at One b i = word_at b i
size_at Two b i = long_at b i

-- .. and its bytes
abbrev pub size_bytes : Edition → ℕ → List ℕ
size_bytes One n = word_bytes n
size_bytes Two n = long_bytes n

-- "a version byte 1"; "version byte 2 after the length"
abbrev pub version_of : Edition → ℕ
version_of One = 1
version_of Two = 2

-- where version, count and rows stand, each behind what is before it: the length, the version, the count

abbrev pub version_place : Edition → ℕ
version_place edition = size_width edition

abbrev pub count_place : Edition → ℕ
count_place edition = size_width edition + 1

abbrev pub rows_place : Edition → ℕ
rows_place edition = count_place edition + size_width edition

-- a witness's "count (0 to 4,608)"; "up to 65,535 rows"
abbrev pub most_rows : Edition → ℕ
most_rows One = 4608
most_rows Two = 65535

-- a witness row's "time (1 to 4,096)"; "Raise the last time to 65,535 ticks in [..] edition 2 witnesses"
abbrev pub latest_time : Edition → ℕ
latest_time One = 4096
latest_time Two = 65535
