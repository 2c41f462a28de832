-- The limits that document 01 and document 02's R-5, R-6 and R-7 set, each once; those of a witness are its edition's.
use Rattle.std.specs.Prelude.{ℕ}

-- the latest version of a table, which has version 1 or 2 (R-6)
abbrev pub table_versions : ℕ
table_versions = 2

-- "number of states (1 to 16), variables (0 to 4), clocks (0 to 2), kinds (1 to 32), transitions (0 to 64)"

abbrev pub state_limit : ℕ
state_limit = 16

abbrev pub variable_limit : ℕ
variable_limit = 4

abbrev pub clock_limit : ℕ
clock_limit = 2

abbrev pub kind_limit : ℕ
kind_limit = 32

abbrev pub transition_limit : ℕ
transition_limit = 64

-- "airtime (0 to 15)"
abbrev pub airtime_limit : ℕ
airtime_limit = 15

-- "the sending device, 0 to 15"
abbrev pub device_limit : ℕ
device_limit = 15

-- "l is 1 to 8" (R-7)
abbrev pub window_limit : ℕ
window_limit = 8

-- "guard length (1 to 32)"; so many places each guard has in a table's parts
abbrev pub guard_limit : ℕ
guard_limit = 32

-- "it must be at most 65,536"
abbrev pub size_limit : ℕ
size_limit = 65536

-- a recording's "count n (0 to 512)"
abbrev pub row_limit : ℕ
row_limit = 512

-- a recorded row's time: "Raise the last time to 65,535 ticks in recordings" (R-5)
abbrev pub time_limit : ℕ
time_limit = 65535

-- so many places each column has in a witness's parts, of either edition
abbrev pub witness_places : ℕ
witness_places = 65535
