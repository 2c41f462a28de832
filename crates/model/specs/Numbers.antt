-- "Numbers the desk reads back", with those of document 02's requests: the number, second and third value of each answer.
use Rattle.std.specs.Prelude.{ℕ, Ok, Err}
use Rattle.model.specs.declared.Refusal.{Refusal}
use Rattle.model.specs.declared.Refusal.TheVariants.{TableFrame, TableVersion, TableCount, TableLength, TableField, TableGuard, TableSize, TableState, RecordingFrame, RecordingVersion, RecordingCount, RecordingRange, RecordingOrder, RuleRange, RuleSize, Scratch, WitnessRoom, WriteRoom, WitnessFrame, WitnessVersion, WitnessCount, WitnessRow}
use Rattle.model.specs.First.{Reading, Writing, Checking, Validating, ValidatingUnder}
use Rattle.model.specs.declared.Verdict.TheVariants.{Accepted, Rejected, Exhausted}
use Rattle.model.specs.declared.RuledVerdict.TheVariants as Ruling

pub record Values : Type 0 where
  pub number : ℕ
  pub second : ℕ
  pub third : ℕ

abbrev pub values : ℕ → ℕ → ℕ → Values
values a b c = record { number = a; second = b; third = c }

abbrev pub refusal_values : Refusal → Values
refusal_values TableFrame = values 10 0 0
refusal_values TableVersion = values 11 2 0
refusal_values (TableCount offset) = values 12 offset 0
refusal_values (TableLength offset) = values 13 offset 0
refusal_values (TableField offset) = values 14 offset 0
refusal_values (TableGuard offset) = values 15 offset 0
refusal_values TableSize = values 16 0 0
refusal_values (TableState state) = values 17 state 0
refusal_values RecordingFrame = values 20 0 0
refusal_values RecordingVersion = values 21 2 0
refusal_values RecordingCount = values 22 3 0
refusal_values (RecordingRange row) = values 23 row 0
refusal_values (RecordingOrder row) = values 24 row 0
refusal_values RuleRange = values 25 0 0
refusal_values RuleSize = values 26 0 0
refusal_values (Scratch wanted) = values 30 wanted 0
refusal_values (WitnessRoom wanted) = values 31 wanted 0
refusal_values (WriteRoom wanted) = values 33 wanted 0
refusal_values WitnessFrame = values 40 0 0
refusal_values (WitnessVersion offset) = values 41 offset 0
refusal_values (WitnessCount offset) = values 42 offset 0
refusal_values (WitnessRow row) = values 43 row 0

-- "Reading sound bytes gives 0, 0 and 0"
abbrev pub reading_values : Reading → Values
reading_values (Ok _) = values 0 0 0
reading_values (Err r) = refusal_values r

-- "else 0 with the bytes written and 0"
abbrev pub writing_values : Writing → Values
writing_values (Ok bytes) = values 0 bytes 0
writing_values (Err r) = refusal_values r

-- "0 with the number of removed and added rows, and the number of rows"
abbrev pub checking_values : Checking → Values
checking_values (Ok p) = values 0 p.changed p.rows
checking_values (Err r) = refusal_values r

abbrev pub verdict_values : Validating → Values
verdict_values (Ok (Accepted cost rows)) = values 0 cost rows
verdict_values (Ok (Rejected cost instant not_yet no_more)) = values 1 cost instant
verdict_values (Ok (Exhausted budget instant)) = values 2 budget instant
verdict_values (Err r) = refusal_values r

-- under a rule: "answer 1 is called 'rejected as unlikely'" (R-7)
abbrev pub ruled_values : ValidatingUnder → Values
ruled_values (Ok (Ruling.Accepted cost rows)) = values 0 cost rows
ruled_values (Ok (Ruling.Unlikely cost instant not_yet no_more)) = values 1 cost instant
ruled_values (Ok (Ruling.Exhausted budget instant)) = values 2 budget instant
ruled_values (Err r) = refusal_values r

-- "A rejection gains two counts" (R-10); any other answer has 0 and 0
pub record Counts : Type 0 where
  pub not_yet : ℕ
  pub no_more : ℕ

abbrev pub counts : ℕ → ℕ → Counts
counts a b = record { not_yet = a; no_more = b }

abbrev pub verdict_counts : Validating → Counts
verdict_counts (Ok (Accepted cost rows)) = counts 0 0
verdict_counts (Ok (Rejected cost instant not_yet no_more)) = counts not_yet no_more
verdict_counts (Ok (Exhausted budget instant)) = counts 0 0
verdict_counts (Err r) = counts 0 0

abbrev pub ruled_counts : ValidatingUnder → Counts
ruled_counts (Ok (Ruling.Accepted cost rows)) = counts 0 0
ruled_counts (Ok (Ruling.Unlikely cost instant not_yet no_more)) = counts not_yet no_more
ruled_counts (Ok (Ruling.Exhausted budget instant)) = counts 0 0
ruled_counts (Err r) = counts 0 0
