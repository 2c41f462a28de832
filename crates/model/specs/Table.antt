-- The table: which bytes are sound, their parts, the bytes of parts, what writing gives, and the monitor that a table describes.
use Rattle.std.specs.Prelude.{ℕ, zero, suc, ◌+◌, ◌*◌, ◌/◌, ◌%◌, ◌^◌, List, [], ◌∷◌, ◌++◌, Bool, true, not, ◌&&◌, length, get_or, take, drop, replicate, leb, ltb, eqb, ◌≡◌, Result, Ok}
use Rattle.model.specs.Limits.{table_versions, state_limit, variable_limit, clock_limit, kind_limit, transition_limit, guard_limit, size_limit}
use Rattle.model.specs.Bytes.{byte_at, word_bytes, tab, joined, padded}
use Rattle.model.specs.First.{unless, first_of, Reading, read_as}
use Rattle.model.specs.Frame.{framed}
use Rattle.model.specs.Guard.{Guard, guard_at, ends_at, guard_of}
use Rattle.model.specs.Rule.{no_rule}
use Rattle.model.specs.Monitor.{Monitor, Transition}
use Rattle.model.specs.Kinds.{version_at, kind_at, device_at, kind_record, kind_bytes}
use Rattle.model.specs.Room.{Lent, write}
use Rattle.model.specs.Size.{table_size}
use Rattle.model.specs.Reach.{states_answer}
use Rattle.model.specs.declared.TableParts.{TableParts}
use Rattle.model.specs.declared.Edition.TheVariants.{One}
use Rattle.model.specs.declared.Refusal.{Refusal}
use Rattle.model.specs.declared.Refusal.TheVariants.{TableFrame, TableVersion, TableCount, TableLength, TableField, TableGuard, TableSize}

-- the monitor of a table's parts

unfoldable pub guard_in : TableParts → ℕ → Guard
guard_in t j = guard_of (guard_at guard_limit t.variables t.clocks t.guards (guard_limit * j) (guard_limit * j + get_or t.lengths j 0))

unfoldable pub transition_in : TableParts → ℕ → Transition
transition_in t j =
    record {
      source = get_or t.sources j 0;
      target = get_or t.targets j 0;
      trigger = get_or t.triggers j 0;
      sets = get_or t.sets j 0;
      clears = get_or t.clears j 0;
      resets = get_or t.resets j 0;
      guard = guard_in t j;
    }

unfoldable pub monitor_of : TableParts → Monitor
monitor_of t =
    record {
      states = t.states;
      variables = t.variables;
      clocks = t.clocks;
      inbound = tab (λ k. eqb (get_or t.directions k 0) 1) t.kinds;
      airtimes = tab (λ k. get_or t.airtimes k 0) t.kinds;
      devices = tab (λ k. get_or t.devices k 0) t.kinds;
      transitions = tab (transition_in t) t.transitions;
      rule = no_rule;
    }

-- reading: the counts, one byte each, at offsets 3 to 7

abbrev pub states_at : List ℕ → ℕ
states_at b = byte_at b 3

abbrev pub variables_at : List ℕ → ℕ
variables_at b = byte_at b 4

abbrev pub clocks_at : List ℕ → ℕ
clocks_at b = byte_at b 5

abbrev pub kinds_at : List ℕ → ℕ
kinds_at b = byte_at b 6

abbrev pub transitions_at : List ℕ → ℕ
transitions_at b = byte_at b 7

-- "number of states (1 to 16), variables (0 to 4), clocks (0 to 2), kinds (1 to 32), transitions (0 to 64)"; "Counts go front to back"
unfoldable pub counts_of : (states variables clocks kinds transitions : ℕ) → Reading
counts_of states variables clocks kinds transitions =
    first_of
    (unless (leb 1 states) (TableCount 3)
    ∷ unless (leb states state_limit) (TableCount 3)
    ∷ unless (leb variables variable_limit) (TableCount 4)
    ∷ unless (leb clocks clock_limit) (TableCount 5)
    ∷ unless (leb 1 kinds) (TableCount 6)
    ∷ unless (leb kinds kind_limit) (TableCount 6)
    ∷ unless (leb transitions transition_limit) (TableCount 7)
    ∷ [])

abbrev pub table_counts : List ℕ → Reading
table_counts b = counts_of (states_at b) (variables_at b) (clocks_at b) (kinds_at b) (transitions_at b)

-- each kind's record, the kinds having these devices
unfoldable pub kind_records : (devices : List ℕ) → List ℕ → Reading
kind_records devices b = first_of (tab (λ i. kind_record b (kind_at (version_at b) i) (get_or devices i 0)) (kinds_at b))

-- "no variable may be both set and cleared", for the first n variables
unfoldable pub apart : (n set clear : ℕ) → Bool
apart zero s c = true
apart (suc n) s c = not (eqb (s % 2) 1 && eqb (c % 2) 1) && apart n (s / 2) (c / 2)

-- "per transition: from, to, kind, set mask, clear mask, reset mask, guard length (1 to 32), guard", at the offsets from at on
abbrev pub guard_length_at : List ℕ → ℕ → ℕ
guard_length_at b at = byte_at b (at + 6)

-- "a bit for an absent variable or clock is out of range"
unfoldable pub transition_fields : List ℕ → ℕ → Reading
transition_fields b at =
    first_of
    (unless (ltb (byte_at b at) (states_at b)) (TableField at)
    ∷ unless (ltb (byte_at b (at + 1)) (states_at b)) (TableField at)
    ∷ unless (ltb (byte_at b (at + 2)) (kinds_at b)) (TableField at)
    ∷ unless (ltb (byte_at b (at + 3)) (2 ^ variables_at b)) (TableField at)
    ∷ unless (ltb (byte_at b (at + 4)) (2 ^ variables_at b)) (TableField at)
    ∷ unless (ltb (byte_at b (at + 5)) (2 ^ clocks_at b)) (TableField at)
    ∷ unless (apart (variables_at b) (byte_at b (at + 3)) (byte_at b (at + 4))) (TableField at)
    ∷ [])

-- the guard of the record at an offset: its length, its bytes and its form
unfoldable pub guard_record : List ℕ → ℕ → Reading
guard_record b at =
    first_of
    (unless (leb 1 (guard_length_at b at)) (TableGuard at)
    ∷ unless (leb (guard_length_at b at) guard_limit) (TableGuard at)
    ∷ unless (leb (at + 7 + guard_length_at b at) (length b)) (TableLength at)
    ∷ unless (ends_at (guard_at guard_limit (variables_at b) (clocks_at b) b (at + 7) (at + 7 + guard_length_at b at)) (at + 7 + guard_length_at b at)) (TableGuard at)
    ∷ [])

-- "each: seven or two bytes present (13), fields (14), guard length (15), guard present (13), guard form (15)"
unfoldable pub transition_record : List ℕ → ℕ → Reading
transition_record b at =
    first_of
    (unless (leb (at + 7) (length b)) (TableLength at)
    ∷ transition_fields b at
    ∷ guard_record b at
    ∷ [])

-- the n transition records from an offset on, and no byte behind them
unfoldable pub transition_records : ℕ → List ℕ → ℕ → Reading
transition_records zero b at = unless (eqb at (length b)) (TableLength at)
transition_records (suc n) b at = first_of (transition_record b at ∷ transition_records n b (at + 7 + guard_length_at b at) ∷ [])

-- the offset of transition record j
unfoldable pub transition_at : List ℕ → ℕ → ℕ
transition_at b zero = kind_at (version_at b) (kinds_at b)
transition_at b (suc j) = transition_at b j + 7 + guard_length_at b (transition_at b j)

-- the parts of sound bytes

abbrev pub kind_column : List ℕ → ℕ → List ℕ
kind_column b field = padded kind_limit (tab (λ i. byte_at b (kind_at (version_at b) i + field)) (kinds_at b))

abbrev pub device_column : List ℕ → List ℕ
device_column b = padded kind_limit (tab (λ i. device_at b (kind_at (version_at b) i)) (kinds_at b))

abbrev pub transition_column : List ℕ → ℕ → List ℕ
transition_column b field = padded transition_limit (tab (λ j. byte_at b (transition_at b j + field)) (transitions_at b))

-- guard j in its places
unfoldable pub guard_place : List ℕ → ℕ → List ℕ
guard_place b j = padded guard_limit (take (guard_length_at b (transition_at b j)) (drop (transition_at b j + 7) b))

unfoldable pub table_parts : List ℕ → TableParts
table_parts b =
    record {
      version = version_at b;
      states = states_at b;
      variables = variables_at b;
      clocks = clocks_at b;
      kinds = kinds_at b;
      transitions = transitions_at b;
      directions = kind_column b 0;
      airtimes = kind_column b 1;
      devices = device_column b;
      sources = transition_column b 0;
      targets = transition_column b 1;
      triggers = transition_column b 2;
      sets = transition_column b 3;
      clears = transition_column b 4;
      resets = transition_column b 5;
      lengths = transition_column b 6;
      guards = padded (guard_limit * transition_limit) (joined (guard_place b) (transitions_at b));
    }

-- "in a refused reading every number of the parts is 0": what stands for the parts where there are none
unfoldable pub no_table : TableParts
no_table =
    record {
      version = 0;
      states = 0;
      variables = 0;
      clocks = 0;
      kinds = 0;
      transitions = 0;
      directions = replicate kind_limit 0;
      airtimes = replicate kind_limit 0;
      devices = replicate kind_limit 0;
      sources = replicate transition_limit 0;
      targets = replicate transition_limit 0;
      triggers = replicate transition_limit 0;
      sets = replicate transition_limit 0;
      clears = replicate transition_limit 0;
      resets = replicate transition_limit 0;
      lengths = replicate transition_limit 0;
      guards = replicate (guard_limit * transition_limit) 0;
    }

-- the numbers 10 to 15 of bytes whose kinds have these devices: length and version, counts, records
unfoldable pub scan_with : (devices : List ℕ) → List ℕ → Reading
scan_with devices b =
    first_of
    (framed One b 8 1 table_versions TableFrame TableVersion
    ∷ table_counts b
    ∷ kind_records devices b
    ∷ transition_records (transitions_at b) b (transition_at b 0)
    ∷ [])

-- .. of bytes as they are read
unfoldable pub table_scan : List ℕ → Reading
table_scan b = scan_with (device_column b) b

-- the numbers 16 and 17, of the whole table: N, states that cannot be reached
unfoldable pub whole_answer : Monitor → Reading
whole_answer m =
    first_of
    (unless (leb (table_size m) size_limit) TableSize
    ∷ states_answer m
    ∷ [])

-- the numbers 10 to 17, in their order
unfoldable pub answer_with : (devices : List ℕ) → List ℕ → Reading
answer_with devices b =
    first_of
    (scan_with devices b
    ∷ whole_answer (monitor_of (table_parts b))
    ∷ [])

unfoldable pub table_answer : List ℕ → Reading
table_answer b = answer_with (device_column b) b

unfoldable pub read_table : List ℕ → Result TableParts Refusal
read_table b = read_as (table_answer b) (table_parts b)

-- "A table is sound if no number from 10 to 19 applies"
abbrev pub SoundTable : List ℕ → Type 0
SoundTable b = table_answer b ≡ Ok tt

-- the monitor that a table describes
abbrev pub monitor_at : List ℕ → Monitor
monitor_at b = monitor_of (table_parts b)

-- the bytes of parts

-- the seven bytes before the guard of transition j
abbrev pub field_bytes : TableParts → ℕ → List ℕ
field_bytes t j =
    get_or t.sources j 0
    ∷ get_or t.targets j 0
    ∷ get_or t.triggers j 0
    ∷ get_or t.sets j 0
    ∷ get_or t.clears j 0
    ∷ get_or t.resets j 0
    ∷ get_or t.lengths j 0
    ∷ []

-- the bytes of guard j that its length covers
abbrev pub guard_bytes_in : (guards : List ℕ) → (count j : ℕ) → List ℕ
guard_bytes_in guards count j = take count (take guard_limit (drop (guard_limit * j) guards))

abbrev pub transition_bytes : TableParts → ℕ → List ℕ
transition_bytes t j = field_bytes t j ++ guard_bytes_in t.guards (get_or t.lengths j 0) j

-- version and counts
abbrev pub count_bytes : TableParts → List ℕ
count_bytes t = t.version ∷ t.states ∷ t.variables ∷ t.clocks ∷ t.kinds ∷ t.transitions ∷ []

unfoldable pub table_body : TableParts → List ℕ
table_body t = count_bytes t ++ joined (kind_bytes t) t.kinds ++ joined (transition_bytes t) t.transitions

unfoldable pub table_bytes : TableParts → List ℕ
table_bytes t = word_bytes (length (table_body t)) ++ table_body t

-- the bytes of the longest table: length, version and counts, records of kinds, records of transitions with their guards
abbrev pub table_limit : ℕ
table_limit = kind_at table_versions kind_limit + (7 + guard_limit) * transition_limit

-- what writing parts answers, whatever the room: "the numbers that reading the same bytes would give", with the devices of the parts, for which version 1 has no
-- bytes. A count outside its limits is 12 there, and a guard length outside its limits 15 in its place
abbrev pub table_writable : TableParts → Reading
table_writable t = answer_with t.devices (table_bytes t)

unfoldable pub write_table : TableParts → List ℕ → Lent
write_table t room = write (table_writable t) (table_bytes t) room
