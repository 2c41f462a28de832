-- The editions of a witness by computation (document 02, R-5): P1 to P12 in edition 2, which handovers each edition is written for, with what room, and which bytes
-- and parts each takes.
use Prim.Native.Nat.{ℕ, ◌+◌}
use mathlib.Core.Path.{◌≡◌, refl}
use mathlib.Core.List.{List, [], ◌∷◌, map}
use lib.ListN.{replicate}
use Rattle.model.specs.Numbers.{Values, values, reading_values, writing_values}
use Rattle.model.specs.Witness.{in_form, misformed, row_at, witness_frame, witness_answer, witness_writable, write_witness, row_in}
use Rattle.model.specs.declared.Edition.{Edition}
use Rattle.model.specs.declared.Edition.TheVariants.{One, Two}
use Rattle.model.specs.declared.WitnessParts.{WitnessParts}
use Rattle.examples.proofs.Examples.{run_of, runs, expected, table, ending, Handed, last_of_one, last_of_one_lem}

-- a witness of edition 1, of less than 254 bytes, in edition 2; no bytes are no witness
pub longer : List ℕ → List ℕ
longer [] = []
longer (_ ∷ []) = []
longer (_ ∷ _ ∷ []) = []
longer (_ ∷ _ ∷ _ ∷ []) = []
longer (_ ∷ _ ∷ _ ∷ _ ∷ []) = []
longer (_ ∷ size ∷ _ ∷ _ ∷ count ∷ rows) = 0 ∷ 0 ∷ 0 ∷ (size + 2) ∷ 2 ∷ 0 ∷ 0 ∷ 0 ∷ count ∷ rows

-- T is 4,096, 4,097, 65,535 and, in a row, 0; each length is enough, or one byte short of it
pub handovers : List (List ℕ × Edition × ℕ × ℕ × Values)
unfolding ending
handovers =
    (ending 16 0, One, 24581, 1000000, values 30 24582 0)
    ∷ (ending 16 0, Two, 24582, 20493, values 31 20494 0)
    ∷ (ending 16 1, One, 24587, 0, values 30 24588 0)
    ∷ (ending 16 1, One, 24588, 1000000, values 31 0 0)
    ∷ (ending 16 1, Two, 24588, 20498, values 31 20499 0)
    ∷ (ending 255 255, One, 393215, 1000000, values 30 393216 0)
    ∷ (ending 255 255, One, 393216, 1000000, values 31 0 0)
    ∷ (ending 255 255, Two, 393216, 327688, values 31 327689 0)
    ∷ (ending 0 0, Two, 0, 0, values 23 0 0)
    ∷ []

-- one kept row at this time, in either edition

short : (high low : ℕ) → List ℕ
short high low = 0 ∷ 8 ∷ 1 ∷ 0 ∷ 1 ∷ 0 ∷ high ∷ low ∷ 0 ∷ 0 ∷ []

long : (high low : ℕ) → List ℕ
long high low = 0 ∷ 0 ∷ 0 ∷ 10 ∷ 2 ∷ 0 ∷ 0 ∷ 0 ∷ 1 ∷ 0 ∷ high ∷ low ∷ 0 ∷ 0 ∷ []

-- either edition given as itself and as the other; times 4,096, 4,097, 65,535 and 0; a length whose upper half is wrong, other versions, a row too few and too many
pub witnesses : List (Edition × List ℕ × Values)
unfolding short long
witnesses =
    (One, short 0 1, values 0 0 0)
    ∷ (Two, long 0 1, values 0 0 0)
    ∷ (Two, short 0 1, values 40 0 0)
    ∷ (One, long 0 1, values 40 0 0)
    ∷ (One, short 16 0, values 0 0 0)
    ∷ (One, short 16 1, values 43 0 0)
    ∷ (Two, long 16 1, values 0 0 0)
    ∷ (Two, long 255 255, values 0 0 0)
    ∷ (Two, long 0 0, values 43 0 0)
    ∷ (Two, 0 ∷ 0 ∷ 0 ∷ 5 ∷ 2 ∷ 0 ∷ 0 ∷ 0 ∷ 0 ∷ [], values 0 0 0)
    ∷ (Two, 0 ∷ 0 ∷ 0 ∷ 4 ∷ 2 ∷ 0 ∷ 0 ∷ 0 ∷ [], values 40 0 0)
    ∷ (Two, 0 ∷ 1 ∷ 0 ∷ 5 ∷ 2 ∷ 0 ∷ 0 ∷ 0 ∷ 0 ∷ [], values 40 0 0)
    ∷ (One, 0 ∷ 3 ∷ 2 ∷ 0 ∷ 0 ∷ [], values 41 2 0)
    ∷ (Two, 0 ∷ 0 ∷ 0 ∷ 5 ∷ 1 ∷ 0 ∷ 0 ∷ 0 ∷ 0 ∷ [], values 41 4 0)
    ∷ (One, 0 ∷ 3 ∷ 1 ∷ 0 ∷ 1 ∷ [], values 42 3 0)
    ∷ (Two, 0 ∷ 0 ∷ 0 ∷ 5 ∷ 2 ∷ 0 ∷ 0 ∷ 0 ∷ 1 ∷ [], values 42 5 0)
    ∷ (Two, 0 ∷ 0 ∷ 0 ∷ 5 ∷ 2 ∷ 0 ∷ 1 ∷ 0 ∷ 0 ∷ [], values 42 5 0)
    ∷ []

-- parts whose rows are all 0, and parts with one kept row at this time

empty : ℕ → WitnessParts
empty count = record { count = count; marks = []; times = []; kinds = []; transitions = [] }

kept : ℕ → WitnessParts
kept time = record { count = 1; marks = []; times = time ∷ []; kinds = []; transitions = [] }

-- counts at and above each edition's limit (42), times, a room too short by a byte
pub writings : List (Edition × WitnessParts × ℕ × Values)
unfolding empty kept
writings =
    (One, empty 4609, 100, values 42 3 0)
    ∷ (Two, empty 65536, 100, values 42 5 0)
    ∷ (One, empty 0, 5, values 0 5 0)
    ∷ (Two, empty 0, 9, values 0 9 0)
    ∷ (Two, empty 0, 8, values 33 9 0)
    ∷ (One, kept 4096, 10, values 0 10 0)
    ∷ (One, kept 4097, 10, values 43 0 0)
    ∷ (Two, kept 4097, 14, values 0 14 0)
    ∷ (Two, kept 4097, 13, values 33 14 0)
    ∷ (Two, kept 65535, 14, values 0 14 0)
    ∷ []

pub record Answered : Type 0 where
  pub twelve : runs Two table ≡ expected longer
  pub edge : Handed last_of_one
  pub judged : Handed handovers
  pub read : map (λ c. reading_values (witness_answer c.0 c.1)) witnesses ≡ map (λ c. c.2) witnesses
  pub wrote : map (λ c. writing_values (write_witness c.0 c.1 (replicate c.2 7)).answer) writings ≡ map (λ c. c.3) writings

pub two_editions : Answered
unfolding run_of runs expected longer table ending handovers short long witnesses empty kept writings in_form misformed row_at witness_frame witness_answer row_in witness_writable write_witness
two_editions = record { twelve = refl; edge = last_of_one_lem; judged = refl; read = refl; wrote = refl }
