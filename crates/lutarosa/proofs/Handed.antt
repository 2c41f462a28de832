-- A promise of an answer, and that answer's numbers, as promises of the definition's answer.
use Prim.Native.Nat.{ℕ}
use mathlib.Core.Path.{◌≡◌, subst, ◌∙◌}
use mathlib.Core.List.{List}
use Rattle.model.specs.Numbers.{verdict_values, verdict_counts, ruled_values, ruled_counts, checking_values, writing_values}
use Rattle.model.specs.Room.{Lent}
use Rattle.model.specs.declared.Rule.{Rule}
use Rattle.model.specs.declared.Edition.{Edition}
use Rattle.model.specs.First.{Checking, Reading, Writing, Validating, ValidatingUnder}
use Rattle.numbers.specs.Told.{told, verdict_told, counts_told}
use Rattle.numbers.specs.declared.Answer.{Answer}
use Rattle.numbers.specs.declared.VerdictAnswer.{VerdictAnswer}
use Rattle.engine.specs.Validates.{Validates, ValidatesUnder}
use Rattle.checker.specs.Claim.{Checks, ChecksUnder}
use Rattle.rewrite.specs.Rewriting.{Rewrites}
use Rattle.lutarosa.specs.Face.{Validated, Checked, Rewritten, ValidatedUnder, CheckedUnder}

pub validated : {edition : Edition} {table recording : List ℕ} {budget : ℕ} {scratch room scratch_then room_then : List ℕ} {v : Validating} {a : VerdictAnswer} →
    Validates edition table recording budget scratch room scratch_then room_then v → (verdict_told a ≡ verdict_values v) × (counts_told a ≡ verdict_counts v) →
    Validated edition table recording budget scratch room scratch_then room_then a
validated {edition} {table} {recording} {budget} {scratch} {room} {scratch_then} {room_then} p e =
    record {
      answered = e.0 ∙ p.numbers;
      counted = e.1 ∙ p.counts;
      promised = subst (Validates edition table recording budget scratch room scratch_then room_then) p.answered p;
    }

pub checked : {edition : Edition} {table recording witness : List ℕ} {r : Checking} {a : Answer} → Checks edition table recording witness r → told a ≡ checking_values r →
    Checked edition table recording witness a
checked {edition} {table} {recording} {witness} p e =
    record { answered = e ∙ p.numbers; promised = subst (Checks edition table recording witness) p.answered p }

pub validated_under : {rule given : Rule} {edition : Edition} {table recording : List ℕ} {budget : ℕ} {scratch room scratch_then room_then : List ℕ} {v : ValidatingUnder} {a : VerdictAnswer} →
    rule ≡ given → ValidatesUnder rule edition table recording budget scratch room scratch_then room_then v → (verdict_told a ≡ ruled_values v) × (counts_told a ≡ ruled_counts v) →
    ValidatedUnder given edition table recording budget scratch room scratch_then room_then a
validated_under {rule} {given} {edition} {table} {recording} {budget} {scratch} {room} {scratch_then} {room_then} {v} {a} same p e =
    subst (λ (r : Rule). ValidatedUnder r edition table recording budget scratch room scratch_then room_then a) same
    (record {
      answered = e.0 ∙ p.numbers;
      counted = e.1 ∙ p.counts;
      promised = subst (ValidatesUnder rule edition table recording budget scratch room scratch_then room_then) p.answered p;
    })

pub checked_under : {rule given : Rule} {edition : Edition} {table recording witness : List ℕ} {r : Checking} {a : Answer} →
    rule ≡ given → ChecksUnder rule edition table recording witness r → told a ≡ checking_values r → CheckedUnder given edition table recording witness a
checked_under {rule} {given} {edition} {table} {recording} {witness} {r} {a} same p e =
    subst (λ (x : Rule). CheckedUnder x edition table recording witness a) same
    (record { answered = e ∙ p.numbers; promised = subst (ChecksUnder rule edition table recording witness) p.answered p })

pub rewritten : {answer : Reading} {b room room_then : List ℕ} {given : Lent} {r : Writing} {a : Answer} →
    Rewrites answer b room room_then given r → told a ≡ writing_values r → Rewritten answer b room room_then given a
rewritten {answer} {b} {room} {room_then} {given} p e =
    record { answered = e ∙ p.writes.numbers; promised = subst (Rewrites answer b room room_then given) p.writes.answered p }
