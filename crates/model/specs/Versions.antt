-- "Demand 3 is unchanged" (document 02, R-6): tables that differ in version and devices alone are answered alike.
use Rattle.std.specs.Prelude.{ℕ, ◌<◌, ◌≡◌, List, take, drop}
use Rattle.model.specs.Kinds.{version_at, kind_at}
use Rattle.model.specs.Table.{kinds_at, transition_at}
use Rattle.model.specs.Validation.{validation, scratch_after, room_after}
use Rattle.model.specs.Rules.{check_answer}
use Rattle.model.specs.declared.Edition.{Edition}

-- the same bytes but for length, version and devices: the counts, direction and airtime of each kind, and all from the first transition on
pub record SameOtherBytes (b c : List ℕ) : Type 0 where
  pub counts : take 5 (drop 3 b) ≡ take 5 (drop 3 c)
  pub kinds : (i : ℕ) → i < kinds_at b → take 2 (drop (kind_at (version_at b) i) b) ≡ take 2 (drop (kind_at (version_at c) i) c)
  pub transitions : drop (transition_at b 0) b ≡ drop (transition_at c 0) c

-- whatever the edition, recording, budget, scratch and room, and whatever the witness
pub record SameAnswers (b c : List ℕ) : Type 0 where
  pub verdict : (edition : Edition) (recording : List ℕ) (budget scratch_length room_length : ℕ) → validation edition b recording budget scratch_length room_length ≡ validation edition c recording budget scratch_length room_length
  pub scratch : (edition : Edition) (recording : List ℕ) (budget : ℕ) (scratch room : List ℕ) → scratch_after edition b recording budget scratch room ≡ scratch_after edition c recording budget scratch room
  pub room : (edition : Edition) (recording : List ℕ) (budget : ℕ) (scratch room : List ℕ) → room_after edition b recording budget scratch room ≡ room_after edition c recording budget scratch room
  pub checking : (edition : Edition) (recording witness : List ℕ) → check_answer edition b recording witness ≡ check_answer edition c recording witness
