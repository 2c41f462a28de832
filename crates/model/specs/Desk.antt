-- The program: how it splits its input, and the lines that it prints, as bytes.
use Rattle.std.specs.Prelude.{ℕ, zero, suc, ◌+◌, ◌-◌, ◌/◌, ◌%◌, List, [], ◌∷◌, ◌++◌, Bool, true, false, cond, ◌&&◌, length, take, drop, leb, ltb, eqb, Ok, Err}
use Rattle.model.specs.Bytes.{word_at, long_at}
use Rattle.model.specs.Numbers.{refusal_values}
use Rattle.model.specs.Table.{monitor_at}
use Rattle.model.specs.Recording.{packets_at}
use Rattle.model.specs.Witness.{Row, kept, removed}
use Rattle.model.specs.Validation.{validation, preferred, scratch_after, room_after}
use Rattle.model.specs.declared.Edition.TheVariants.{One}
use Rattle.model.specs.First.{Validating}
use Rattle.model.specs.declared.Verdict.TheVariants.{Accepted, Rejected, Exhausted}

-- "a four-byte budget at the very end"
abbrev pub budget_in : List ℕ → ℕ
budget_in s = long_at s (length s - 4)

-- what stands before the budget
abbrev pub files_in : List ℕ → List ℕ
files_in s = take (length s - 4) s

-- "The table is what its length states, or all if that runs past the end or no two length bytes are there"
unfoldable pub table_length : List ℕ → ℕ
table_length files = cond (leb 2 (length files)) (cond (leb (word_at files 0 + 2) (length files)) (word_at files 0 + 2) (length files)) (length files)

abbrev pub table_in : List ℕ → List ℕ
table_in s = take (table_length (files_in s)) (files_in s)

-- "the recording is the rest"
abbrev pub recording_in : List ℕ → List ℕ
recording_in s = drop (table_length (files_in s)) (files_in s)

-- "It keeps a zeroed scratch of 65,536 bytes and a witness room of 23,045"
abbrev pub desk_scratch : ℕ
desk_scratch = 65536

abbrev pub desk_room : ℕ
desk_room = 23045

-- decimal digits, at most as many as fuel
unfoldable pub digits : ℕ → ℕ → List ℕ
digits zero n = []
digits (suc fuel) n = elim (ltb n 10) [ true ↦ (48 + n) ∷ [] | false ↦ digits fuel (n / 10) ++ ((48 + n % 10) ∷ []) ]

-- a space and a number below 2 ^ 64
abbrev pub spaced : ℕ → List ℕ
spaced n = 32 ∷ digits 20 n

abbrev pub newline : List ℕ
newline = 10 ∷ []

abbrev pub accepted_word : List ℕ
accepted_word = 97 ∷ 99 ∷ 99 ∷ 101 ∷ 112 ∷ 116 ∷ 101 ∷ 100 ∷ []

abbrev pub rejected_word : List ℕ
rejected_word = 114 ∷ 101 ∷ 106 ∷ 101 ∷ 99 ∷ 116 ∷ 101 ∷ 100 ∷ []

abbrev pub exhausted_word : List ℕ
exhausted_word = 101 ∷ 120 ∷ 104 ∷ 97 ∷ 117 ∷ 115 ∷ 116 ∷ 101 ∷ 100 ∷ []

abbrev pub refused_word : List ℕ
refused_word = 114 ∷ 101 ∷ 102 ∷ 117 ∷ 115 ∷ 101 ∷ 100 ∷ []

abbrev pub kept_word : List ℕ
kept_word = 107 ∷ 101 ∷ 112 ∷ 116 ∷ []

abbrev pub removed_word : List ℕ
removed_word = 114 ∷ 101 ∷ 109 ∷ 111 ∷ 118 ∷ 101 ∷ 100 ∷ []

abbrev pub added_word : List ℕ
added_word = 97 ∷ 100 ∷ 100 ∷ 101 ∷ 100 ∷ []

abbrev pub line : List ℕ → ℕ → ℕ → List ℕ
line word a b = word ++ spaced a ++ spaced b ++ newline

-- "The program prints them after the instant" (R-10)
abbrev pub rejected_line : (cost instant not_yet no_more : ℕ) → List ℕ
rejected_line cost instant not_yet no_more = rejected_word ++ spaced cost ++ spaced instant ++ spaced not_yet ++ spaced no_more ++ newline

abbrev pub mark_word : ℕ → List ℕ
mark_word mark = cond (eqb mark kept) kept_word (cond (eqb mark removed) removed_word added_word)

abbrev pub row_line : Row → List ℕ
row_line r = mark_word r.mark ++ spaced r.time ++ spaced r.kind ++ spaced r.transition ++ newline

unfoldable pub row_lines : List Row → List ℕ
row_lines [] = []
row_lines (r ∷ rs) = row_line r ++ row_lines rs

unfoldable pub verdict_lines : Validating → List Row → List ℕ
verdict_lines (Ok (Accepted cost rows)) witness = line accepted_word cost rows ++ row_lines witness
verdict_lines (Ok (Rejected cost instant not_yet no_more)) witness = rejected_line cost instant not_yet no_more
verdict_lines (Ok (Exhausted budget instant)) witness = line exhausted_word budget instant
verdict_lines (Err r) witness = line refused_word (refusal_values r).number (refusal_values r).second

-- the lines for a table and a recording, judged with a scratch and a witness room of these lengths: "the program keeps edition 1 and its room" (R-5)
unfoldable pub judged_lines : (scratch_length room_length : ℕ) → (table recording : List ℕ) → ℕ → List ℕ
judged_lines scratch_length room_length table recording budget =
    verdict_lines (validation One table recording budget scratch_length room_length) (preferred (monitor_at table) (packets_at recording))

-- "A program reads at most 8,192 bytes"; "Fewer than 4 bytes prints `refused 5 0`, more than 8,192 `refused 6 0`"
unfoldable pub lines_for : (scratch_length room_length : ℕ) → List ℕ → List ℕ
lines_for scratch_length room_length s =
    elim (ltb (length s) 4) [
      | true ↦ line refused_word 5 0
      | false ↦
          elim (ltb 8192 (length s))
          [ true ↦ line refused_word 6 0 | false ↦ judged_lines scratch_length room_length (table_in s) (recording_in s) (budget_in s) ]
    ]

-- what the program prints for its input
abbrev pub desk_lines : List ℕ → List ℕ
desk_lines s = lines_for desk_scratch desk_room s

-- "After a refusal every lent byte is untouched", 5 and 6 too

abbrev pub judgeable : List ℕ → Bool
judgeable s = leb 4 (length s) && leb (length s) 8192

unfoldable pub scratch_for : List ℕ → (scratch room : List ℕ) → List ℕ
scratch_for s scratch room = cond (judgeable s) (scratch_after One (table_in s) (recording_in s) (budget_in s) scratch room) scratch

unfoldable pub room_for : List ℕ → (scratch room : List ℕ) → List ℕ
room_for s scratch room = cond (judgeable s) (room_after One (table_in s) (recording_in s) (budget_in s) scratch room) room

-- lines in a lent text: as far as they fit, the rest untouched
abbrev pub in_text : List ℕ → List ℕ → List ℕ
in_text lines text = take (length text) lines ++ drop (length lines) text
