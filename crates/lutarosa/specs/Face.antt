-- What each exported function promises: document 01's numbers of the definition's answer, a verdict's two counts, and what the function behind it promises of that answer.
use Rattle.std.specs.Prelude.{ℕ, ◌≡◌, List, length}
use Rattle.model.specs.Numbers.{verdict_values, verdict_counts, checking_values, writing_values}
use Rattle.model.specs.Room.{Lent}
use Rattle.model.specs.Rules.{check_answer, check_answer_under}
use Rattle.model.specs.Validation.{validation, validation_under, ruled}
use Rattle.model.specs.declared.Rule.{Rule}
use Rattle.model.specs.declared.Edition.{Edition}
use Rattle.model.specs.First.{Reading}
use Rattle.numbers.specs.Told.{told, verdict_told, counts_told}
use Rattle.numbers.specs.declared.Answer.{Answer}
use Rattle.numbers.specs.declared.VerdictAnswer.{VerdictAnswer}
use Rattle.engine.specs.Validates.{Validates, ValidatesUnder}
use Rattle.checker.specs.Claim.{Checks, ChecksUnder}
use Rattle.rewrite.specs.Rewriting.{Rewrites}

pub record Validated (edition : Edition) (table recording : List ℕ) (budget : ℕ) (scratch room scratch_then room_then : List ℕ) (a : VerdictAnswer) : Type 0 where
  pub answered : verdict_told a ≡ verdict_values (validation edition table recording budget (length scratch) (length room))
  pub counted : counts_told a ≡ verdict_counts (validation edition table recording budget (length scratch) (length room))
  pub promised : Validates edition table recording budget scratch room scratch_then room_then (validation edition table recording budget (length scratch) (length room))

pub record Checked (edition : Edition) (table recording witness : List ℕ) (a : Answer) : Type 0 where
  pub answered : told a ≡ checking_values (check_answer edition table recording witness)
  pub promised : Checks edition table recording witness (check_answer edition table recording witness)

-- answer: of reading the bytes; given: the definition's answer and room
pub record Rewritten (answer : Reading) (b room room_then : List ℕ) (given : Lent) (a : Answer) : Type 0 where
  pub answered : told a ≡ writing_values given.answer
  pub promised : Rewrites answer b room room_then given given.answer

-- the same under a rule (R-7)

pub record ValidatedUnder (rule : Rule) (edition : Edition) (table recording : List ℕ) (budget : ℕ) (scratch room scratch_then room_then : List ℕ) (a : VerdictAnswer) : Type 0 where
  pub answered : verdict_told a ≡ verdict_values (validation_under rule edition table recording budget (length scratch) (length room))
  pub counted : counts_told a ≡ verdict_counts (validation_under rule edition table recording budget (length scratch) (length room))
  pub promised : ValidatesUnder rule edition table recording budget scratch room scratch_then room_then (ruled (validation_under rule edition table recording budget (length scratch) (length room)))

pub record CheckedUnder (rule : Rule) (edition : Edition) (table recording witness : List ℕ) (a : Answer) : Type 0 where
  pub answered : told a ≡ checking_values (check_answer_under rule edition table recording witness)
  pub promised : ChecksUnder rule edition table recording witness (check_answer_under rule edition table recording witness)
