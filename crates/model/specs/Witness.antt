-- The witness, in either edition: its rows and its form, for which kind, and transition unless removed, may be any byte.
use Rattle.std.specs.Prelude.{ℕ, suc, ◌+◌, ◌*◌, ◌≡◌, List, [], ◌∷◌, ◌++◌, Bool, true, false, not, ◌&&◌, ◌||◌, length, get_or, replicate, leb, ltb, eqb, Option, Some, None, Result, Ok, Err}
use Rattle.model.specs.Limits.{witness_places}
use Rattle.model.specs.Bytes.{byte_at, word_at, word_bytes, tab, padded}
use Rattle.model.specs.First.{unless, first_of, Reading, read_as}
use Rattle.model.specs.Edition.{size_at, version_place, count_place, rows_place, most_rows, latest_time}
use Rattle.model.specs.Frame.{framed_rows, rows_frame}
use Rattle.model.specs.Room.{Lent, write}
use Rattle.model.specs.declared.Edition.{Edition}
use Rattle.model.specs.declared.WitnessParts.{WitnessParts}
use Rattle.model.specs.declared.Refusal.{Refusal}
use Rattle.model.specs.declared.Refusal.TheVariants.{WitnessFrame, WitnessVersion, WitnessCount, WitnessRow}

-- "mark (0 kept, 1 removed, 2 added), two-byte time", from 1 to the latest of the edition, "kind, transition number (255 if removed)"
pub record Row : Type 0 where
  pub mark : ℕ
  pub time : ℕ
  pub kind : ℕ
  pub transition : ℕ

abbrev pub kept : ℕ
kept = 0

abbrev pub removed : ℕ
removed = 1

abbrev pub added : ℕ
added = 2

abbrev pub no_transition : ℕ
no_transition = 255

-- a row by its four fields
abbrev pub marked : (mark time kind transition : ℕ) → Row
marked mark time kind transition = record { mark = mark; time = time; kind = kind; transition = transition }

abbrev pub is_removed : Row → Bool
is_removed r = eqb r.mark removed

-- a row by itself
unfoldable pub in_form : Edition → Row → Bool
in_form edition r = leb r.mark added && leb 1 r.time && leb r.time (latest_time edition) && (not (is_removed r) || eqb r.transition no_transition)

-- "witness times now rise strictly" (R-3)
abbrev pub follows : Row → Row → Bool
follows p r = ltb p.time r.time

-- a row behind the one before it, if there is one
abbrev pub in_place : Edition → Option Row → Row → Bool
in_place edition None r = in_form edition r
in_place edition (Some p) r = in_form edition r && follows p r

-- the first of the rows, counted from i, that breaks the form; none if none does
unfoldable pub misformed : Edition → Option Row → ℕ → List Row → Option ℕ
misformed edition before i [] = None
misformed edition before i (r ∷ rs) = elim (in_place edition before r) [ true ↦ misformed edition (Some r) (suc i) rs | false ↦ Some i ]

abbrev pub Formed : Edition → List Row → Type 0
Formed edition rows = misformed edition None 0 rows ≡ None

-- reading

abbrev pub witness_count_at : Edition → List ℕ → ℕ
witness_count_at edition b = size_at edition b (count_place edition)

-- where row i stands
abbrev pub row_place : Edition → ℕ → ℕ
row_place edition i = rows_place edition + 5 * i

unfoldable pub row_at : Edition → List ℕ → ℕ → Row
row_at edition b i =
    record {
      mark = byte_at b (row_place edition i);
      time = word_at b (row_place edition i + 1);
      kind = byte_at b (row_place edition i + 3);
      transition = byte_at b (row_place edition i + 4);
    }

abbrev pub rows_at : Edition → List ℕ → List Row
rows_at edition b = tab (row_at edition b) (witness_count_at edition b)

-- 43 with the number of a row, where there is one
abbrev pub bad_row : Option ℕ → Reading
bad_row None = Ok tt
bad_row (Some i) = Err (WitnessRow i)

-- 40, 41 and 42
unfoldable pub witness_frame : Edition → List ℕ → Reading
witness_frame edition b =
    framed_rows edition b 5 (most_rows edition) WitnessFrame (WitnessVersion (version_place edition)) (WitnessCount (count_place edition))

-- the form alone: 40 to 42, then 43 for the first row that breaks it
unfoldable pub witness_answer : Edition → List ℕ → Reading
witness_answer edition b = first_of (witness_frame edition b ∷ bad_row (misformed edition None 0 (rows_at edition b)) ∷ [])

abbrev pub SoundForm : Edition → List ℕ → Type 0
SoundForm edition b = witness_answer edition b ≡ Ok tt

-- the parts have places for the rows of either edition
unfoldable pub witness_parts : Edition → List ℕ → WitnessParts
witness_parts edition b =
    record {
      count = witness_count_at edition b;
      marks = padded witness_places (tab (λ i. (row_at edition b i).mark) (witness_count_at edition b));
      times = padded witness_places (tab (λ i. (row_at edition b i).time) (witness_count_at edition b));
      kinds = padded witness_places (tab (λ i. (row_at edition b i).kind) (witness_count_at edition b));
      transitions = padded witness_places (tab (λ i. (row_at edition b i).transition) (witness_count_at edition b));
    }

unfoldable pub no_witness : WitnessParts
no_witness =
    record {
      count = 0;
      marks = replicate witness_places 0;
      times = replicate witness_places 0;
      kinds = replicate witness_places 0;
      transitions = replicate witness_places 0;
    }

unfoldable pub read_witness : Edition → List ℕ → Result WitnessParts Refusal
read_witness edition b = read_as (witness_answer edition b) (witness_parts edition b)

-- the bytes of rows, and of parts

abbrev pub row_bytes : Row → List ℕ
row_bytes r = (r.mark ∷ []) ++ word_bytes r.time ++ (r.kind ∷ r.transition ∷ [])

unfoldable pub rows_bytes : List Row → List ℕ
rows_bytes [] = []
rows_bytes (r ∷ rs) = row_bytes r ++ rows_bytes rs

unfoldable pub witness_bytes : Edition → List Row → List ℕ
witness_bytes edition rows = rows_frame edition 5 (length rows) ++ rows_bytes rows

unfoldable pub row_in : WitnessParts → ℕ → Row
row_in w i =
    record {
      mark = get_or w.marks i 0;
      time = get_or w.times i 0;
      kind = get_or w.kinds i 0;
      transition = get_or w.transitions i 0;
    }

abbrev pub rows_in : WitnessParts → List Row
rows_in w = tab (row_in w) w.count

-- writing: 42 for a count outside its limits; the numbers that reading the same bytes would give
unfoldable pub witness_writable : Edition → WitnessParts → Reading
witness_writable edition w =
    first_of
    (unless (leb w.count (most_rows edition)) (WitnessCount (count_place edition))
    ∷ witness_answer edition (witness_bytes edition (rows_in w))
    ∷ [])

unfoldable pub write_witness : Edition → WitnessParts → List ℕ → Lent
write_witness edition w room = write (witness_writable edition w) (witness_bytes edition (rows_in w)) room
