-- What a writer leaves in a lent text, and the rows of which a verdict's lines speak.
use Rattle.std.specs.Prelude.{ℕ, ◌+◌, ◌^◌, ◌≤◌, ◌≡◌, List, [], ◌∷◌, ◌++◌, cond, length, leb, Ok, Err}
use Rattle.std.proofs.lemmas.List.Edits.{sets}
use Rattle.model.specs.Edition.{most_rows}
use Rattle.model.specs.Bytes.{tab}
use Rattle.model.specs.Desk.{spaced, newline}
use Rattle.model.specs.First.{Validating}
use Rattle.model.specs.Witness.{Row, row_at}
use Rattle.model.specs.declared.Edition.TheVariants.{One}
use Rattle.model.specs.declared.Verdict.TheVariants.{Accepted, Rejected, Exhausted}

-- bytes stored from a place on; those past the end of the text are dropped
unfoldable pub stored : List ℕ → ℕ → List ℕ → List ℕ
stored text at bytes = sets text at bytes

pub record Wrote (bytes : List ℕ) (at : ℕ) (entry exit : List ℕ) (next : ℕ) : Type 0 where
  pub text : exit ≡ stored entry at bytes
  pub place : next ≡ at + length bytes

-- at most this many bytes from the place on keep every sum of places far from the largest usize
abbrev pub Small : ℕ → ℕ → Type 0
Small at bytes = at + bytes ≤ 2 ^ 40

-- numbers behind a word, and the line that they make
abbrev pub numbered : List ℕ → List ℕ → List ℕ
numbered word [] = word
numbered word (n ∷ ns) = numbered (word ++ spaced n) ns

abbrev pub line_of : List ℕ → List ℕ → List ℕ
line_of word numbers = numbered word numbers ++ newline

-- the rows that stand in a witness room, as many as the verdict says; none where it says more than edition 1 has
abbrev pub rows_standing : Validating → List ℕ → List Row
rows_standing (Ok (Accepted cost rows)) witness = cond (leb rows (most_rows One)) (tab (row_at One witness) rows) []
rows_standing (Ok (Rejected cost instant not_yet no_more)) witness = []
rows_standing (Ok (Exhausted budget instant)) witness = []
rows_standing (Err r) witness = []
