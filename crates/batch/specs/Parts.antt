-- Parts as a case's files give them. A file of parts has the layout of what is written, but for four things: where the length would stand is how many records are
-- given, in two bytes, where the version would stand the filler, which every place holds that no record gives, a table's version stands behind its counts, and a
-- witness's count has four bytes in either edition.
use Rattle.std.specs.Prelude.{ℕ, ◌+◌, ◌*◌, List, [], ◌∷◌, ◌++◌, replicate}
use Rattle.model.specs.Limits.{kind_limit, transition_limit, guard_limit, row_limit, witness_places}
use Rattle.model.specs.Bytes.{byte_at, word_at, word_bytes, long_at, long_bytes}
use Rattle.model.specs.declared.TableParts.{TableParts}
use Rattle.model.specs.declared.RecordingParts.{RecordingParts}
use Rattle.model.specs.declared.WitnessParts.{WitnessParts}
use Rattle.columns.specs.Filled.{filled}

abbrev pub filler_at : List ℕ → ℕ
filler_at b = byte_at b 2

-- a time has two places
abbrev pub filler_time_at : List ℕ → ℕ
filler_time_at b = 257 * filler_at b

-- a table's kinds, three bytes each whatever the version, stand behind it; the fields of its transitions, and the places of each guard, are two further files

abbrev pub kinds_given : List ℕ → ℕ → List ℕ
kinds_given b field = filled (λ i. byte_at b (9 + field + 3 * i)) (byte_at b 0) (replicate kind_limit (filler_at b))

abbrev pub transitions_given : List ℕ → List ℕ → ℕ → List ℕ
transitions_given b fields field = filled (λ j. byte_at fields (field + 7 * j)) (byte_at b 1) (replicate transition_limit (filler_at b))

abbrev pub guards_given : List ℕ → List ℕ → List ℕ
guards_given b guards = filled (λ i. byte_at guards (0 + 1 * i)) (guard_limit * byte_at b 1) (replicate (guard_limit * transition_limit) (filler_at b))

unfoldable pub table_given : List ℕ → List ℕ → List ℕ → TableParts
table_given b fields guards =
    record {
      version = byte_at b 8;
      states = byte_at b 3;
      variables = byte_at b 4;
      clocks = byte_at b 5;
      kinds = byte_at b 6;
      transitions = byte_at b 7;
      directions = kinds_given b 0;
      airtimes = kinds_given b 1;
      devices = kinds_given b 2;
      sources = transitions_given b fields 0;
      targets = transitions_given b fields 1;
      triggers = transitions_given b fields 2;
      sets = transitions_given b fields 3;
      clears = transitions_given b fields 4;
      resets = transitions_given b fields 5;
      lengths = transitions_given b fields 6;
      guards = guards_given b guards;
    }

abbrev pub recorded_times_given : List ℕ → List ℕ
recorded_times_given b = filled (λ i. word_at b (5 + 3 * i)) (word_at b 0) (replicate row_limit (filler_time_at b))

abbrev pub recorded_kinds_given : List ℕ → List ℕ
recorded_kinds_given b = filled (λ i. byte_at b (7 + 3 * i)) (word_at b 0) (replicate row_limit (filler_at b))

unfoldable pub recording_given : List ℕ → RecordingParts
recording_given b = record { count = word_at b 3; times = recorded_times_given b; kinds = recorded_kinds_given b }

-- the byte that stands at start in row 0
abbrev pub rows_given : List ℕ → ℕ → List ℕ
rows_given b start = filled (λ i. byte_at b (start + 5 * i)) (word_at b 0) (replicate witness_places (filler_at b))

abbrev pub times_given : List ℕ → List ℕ
times_given b = filled (λ i. word_at b (8 + 5 * i)) (word_at b 0) (replicate witness_places (filler_time_at b))

unfoldable pub witness_given : List ℕ → WitnessParts
witness_given b =
    record {
      count = long_at b 3;
      marks = rows_given b 7;
      times = times_given b;
      kinds = rows_given b 10;
      transitions = rows_given b 11;
    }

-- every number of the parts in the order of their declaration, as bytes

unfoldable pub words_bytes : List ℕ → List ℕ
words_bytes [] = []
words_bytes (w ∷ ws) = word_bytes w ++ words_bytes ws

abbrev pub kind_numbers : TableParts → List ℕ
kind_numbers t = (t.version ∷ t.states ∷ t.variables ∷ t.clocks ∷ t.kinds ∷ t.transitions ∷ []) ++ t.directions ++ t.airtimes ++ t.devices

abbrev pub transition_numbers : TableParts → List ℕ
transition_numbers t = t.sources ++ t.targets ++ t.triggers ++ t.sets ++ t.clears ++ t.resets ++ t.lengths ++ t.guards

unfoldable pub table_numbers : TableParts → List ℕ
table_numbers t = kind_numbers t ++ transition_numbers t

unfoldable pub recording_numbers : RecordingParts → List ℕ
recording_numbers r = word_bytes r.count ++ words_bytes r.times ++ r.kinds

unfoldable pub witness_numbers : WitnessParts → List ℕ
witness_numbers w = long_bytes w.count ++ w.marks ++ words_bytes w.times ++ w.kinds ++ w.transitions
