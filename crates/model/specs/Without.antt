-- With l = 1 and k = 1 a rule forbids nothing (document 02, R-7): all that is answered under it is what is answered without it.
use Rattle.std.specs.Prelude.{ℕ, ◌≡◌, List}
use Rattle.model.specs.Rule.{Rule}
use Rattle.model.specs.Size.{size}
use Rattle.model.specs.Table.{monitor_at}
use Rattle.model.specs.Ruled.{monitor_under}
use Rattle.model.specs.Rules.{check_answer, check_answer_under}
use Rattle.model.specs.Validation.{validation, validation_under, scratch_after, scratch_after_under, room_after, room_after_under}
use Rattle.model.specs.declared.Edition.{Edition}

-- of any bytes as table, recording and witness, any budget and any buffers
pub record AsWithout (rule : Rule) (table : List ℕ) : Type 0 where
  pub same_size : size (monitor_under rule table) ≡ size (monitor_at table)
  pub verdict : (edition : Edition) (recording : List ℕ) (budget scratch_length room_length : ℕ)
      → validation_under rule edition table recording budget scratch_length room_length ≡ validation edition table recording budget scratch_length room_length
  pub scratch : (edition : Edition) (recording : List ℕ) (budget : ℕ) (scratch room : List ℕ)
      → scratch_after_under rule edition table recording budget scratch room ≡ scratch_after edition table recording budget scratch room
  pub room : (edition : Edition) (recording : List ℕ) (budget : ℕ) (scratch room : List ℕ)
      → room_after_under rule edition table recording budget scratch room ≡ room_after edition table recording budget scratch room
  pub checking : (edition : Edition) (recording witness : List ℕ) → check_answer_under rule edition table recording witness ≡ check_answer edition table recording witness
