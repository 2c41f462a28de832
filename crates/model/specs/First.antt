-- "Numbers are tried in this order; the first that applies is given."
use Rattle.std.specs.Prelude.{ℕ, List, [], ◌∷◌, Bool, true, false, Result, Ok, Err}
use Rattle.model.specs.declared.Permitted.{Permitted}
use Rattle.model.specs.declared.Refusal.{Refusal}
use Rattle.model.specs.declared.Verdict.{Verdict}
use Rattle.model.specs.declared.RuledVerdict.{RuledVerdict}

-- what a test answers: nothing is wrong, or why the input is refused
abbrev pub Reading : Type 0
Reading = Result (Unit {0}) Refusal

-- what writing answers: how many bytes were written
abbrev pub Writing : Type 0
Writing = Result ℕ Refusal

-- what the witness checker answers
abbrev pub Checking : Type 0
Checking = Result Permitted Refusal

-- what validation answers, without a rule and under one

abbrev pub Validating : Type 0
Validating = Result Verdict Refusal

abbrev pub ValidatingUnder : Type 0
ValidatingUnder = Result RuledVerdict Refusal

-- the refusal where the test fails
abbrev pub unless : Bool → Refusal → Reading
unless true r = Ok tt
unless false r = Err r

abbrev pub and_then : Reading → Reading → Reading
and_then (Ok _) next = next
and_then (Err r) next = Err r

-- the first refusal of a list of tests
abbrev pub first_of : List Reading → Reading
first_of [] = Ok tt
first_of (x ∷ xs) = and_then x (first_of xs)

abbrev pub is_sound : Reading → Bool
is_sound (Ok _) = true
is_sound (Err r) = false

-- the parts, where nothing is wrong with the bytes
abbrev pub read_as : {P : Type 0} → Reading → P → Result P Refusal
read_as (Ok _) parts = Ok parts
read_as (Err why) parts = Err why

-- what was answered, without the parts
abbrev pub answer_of : {P : Type 0} → Result P Refusal → Reading
answer_of (Ok parts) = Ok tt
answer_of (Err why) = Err why
