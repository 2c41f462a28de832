-- What the checker promises. In demand 2's words: a witness of sound form is permitted exactly when it explains the recording.
use Rattle.std.specs.Prelude.{◌≡◌, List, ◌↔◌, ℕ, Ok, Err}
use Rattle.model.specs.Table.{monitor_at}
use Rattle.model.specs.Recording.{packets_at, SoundRecording}
use Rattle.model.specs.Witness.{rows_at, SoundForm}
use Rattle.model.specs.Ruled.{monitor_under, SoundUnder}
use Rattle.model.specs.Rules.{check_answer, check_answer_under}
use Rattle.model.specs.Numbers.{values, checking_values}
use Rattle.model.specs.Claims.{Explains, ExplainsUnder, FirstBreaks}
use Rattle.model.specs.declared.Rule.{Rule}
use Rattle.model.specs.declared.Edition.{Edition}
use Rattle.model.specs.First.{Checking}

abbrev pub IsPermitted : Checking → Type 0
IsPermitted (Ok _) = Unit {0}
IsPermitted (Err r) = ⊥

abbrev pub Faithful : Edition → (table recording witness : List ℕ) → Checking → Type 0
Faithful edition table recording witness r =
    SoundRecording table recording → SoundForm edition witness → IsPermitted r ↔ Explains (monitor_at table) (packets_at recording) (rows_at edition witness)

-- for either edition and any bytes: the definition's answer, document 01's numbers of it, and demand 2
pub record Checks (edition : Edition) (table recording witness : List ℕ) (r : Checking) : Type 0 where
  pub answered : r ≡ check_answer edition table recording witness
  pub numbers : checking_values r ≡ checking_values (check_answer edition table recording witness)
  pub faithful : Faithful edition table recording witness r

-- the same under a rule (R-7)

abbrev pub FaithfulUnder : Rule → Edition → (table recording witness : List ℕ) → Checking → Type 0
FaithfulUnder rule edition table recording witness r =
    SoundUnder rule table recording → SoundForm edition witness → IsPermitted r ↔ ExplainsUnder (monitor_under rule table) (packets_at recording) (rows_at edition witness)

-- of a witness that is permitted without a rule: "a witness row that first breaks it is 43"
abbrev pub NamesFirst : Rule → Edition → (table recording witness : List ℕ) → Checking → Type 0
NamesFirst rule edition table recording witness r =
    SoundUnder rule table recording → IsPermitted (check_answer edition table recording witness)
    → (i : ℕ) → (checking_values r ≡ values 43 i 0) ↔ FirstBreaks (monitor_under rule table) (rows_at edition witness) i

pub record ChecksUnder (rule : Rule) (edition : Edition) (table recording witness : List ℕ) (r : Checking) : Type 0 where
  pub answered : r ≡ check_answer_under rule edition table recording witness
  pub numbers : checking_values r ≡ checking_values (check_answer_under rule edition table recording witness)
  pub faithful : FaithfulUnder rule edition table recording witness r
  pub named : NamesFirst rule edition table recording witness r
