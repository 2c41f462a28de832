-- Which answer has the number 0, and which the number 17; the numbers of a verdict under a rule.
use Prim.Native.Nat.{ℕ, ◌≤◌}
use native.Mathlib.Omega.{arith}
use mathlib.Core.Path.{◌≡◌, refl, ap, ◌∙◌}
use Rattle.model.specs.Numbers.{Values, values, refusal_values, reading_values, writing_values, verdict_values, ruled_values, verdict_counts, ruled_counts}
use Rattle.model.specs.Validation.{ruled}
use Rattle.model.specs.First.{Reading, Writing, Validating}
use Rattle.std.specs.Prelude.{Ok, Err}
use Rattle.model.specs.declared.Verdict.TheVariants.{Accepted, Rejected, Exhausted}
use Rattle.model.specs.declared.Refusal.{Refusal}
use Rattle.model.specs.declared.Refusal.TheVariants.{TableFrame, TableVersion, TableCount, TableLength, TableField, TableGuard, TableSize, TableState, RecordingFrame, RecordingVersion, RecordingCount, RecordingRange, RecordingOrder, RuleRange, RuleSize, Scratch, WitnessRoom, WriteRoom, WitnessFrame, WitnessVersion, WitnessCount, WitnessRow}

-- a refusal's number is 10 or more, and 17 for a state alone
refusal-number : (r : Refusal) → (10 ≤ (refusal_values r).number) × ((refusal_values r).number ≡ 17 → r ≡ TableState (refusal_values r).second)
refusal-number TableFrame = (omega arith, λ e. absurd (omega arith))
refusal-number TableVersion = (omega arith, λ e. absurd (omega arith))
refusal-number (TableCount n) = (omega arith, λ e. absurd (omega arith))
refusal-number (TableLength n) = (omega arith, λ e. absurd (omega arith))
refusal-number (TableField n) = (omega arith, λ e. absurd (omega arith))
refusal-number (TableGuard n) = (omega arith, λ e. absurd (omega arith))
refusal-number TableSize = (omega arith, λ e. absurd (omega arith))
refusal-number (TableState n) = (omega arith, λ e. refl)
refusal-number RecordingFrame = (omega arith, λ e. absurd (omega arith))
refusal-number RecordingVersion = (omega arith, λ e. absurd (omega arith))
refusal-number RecordingCount = (omega arith, λ e. absurd (omega arith))
refusal-number (RecordingRange n) = (omega arith, λ e. absurd (omega arith))
refusal-number (RecordingOrder n) = (omega arith, λ e. absurd (omega arith))
refusal-number RuleRange = (omega arith, λ e. absurd (omega arith))
refusal-number RuleSize = (omega arith, λ e. absurd (omega arith))
refusal-number (Scratch n) = (omega arith, λ e. absurd (omega arith))
refusal-number (WitnessRoom n) = (omega arith, λ e. absurd (omega arith))
refusal-number (WriteRoom n) = (omega arith, λ e. absurd (omega arith))
refusal-number WitnessFrame = (omega arith, λ e. absurd (omega arith))
refusal-number (WitnessVersion n) = (omega arith, λ e. absurd (omega arith))
refusal-number (WitnessCount n) = (omega arith, λ e. absurd (omega arith))
refusal-number (WitnessRow n) = (omega arith, λ e. absurd (omega arith))

pub number_0 : (x : Reading) (n : ℕ) → reading_values x ≡ values 0 n 0 → x ≡ Ok tt
number_0 (Ok _) n e = refl
number_0 (Err r) n e = absurd (omega (arith, ap (λ (v : Values). v.number) e, (refusal-number r).0))

pub number-written : (w : Writing) (n : ℕ) → writing_values w ≡ values 0 n 0 → w ≡ Ok n
number-written (Ok m) n e = ap Ok (ap (λ (v : Values). v.second) e)
number-written (Err r) n e = absurd (omega (arith, ap (λ (v : Values). v.number) e, (refusal-number r).0))

pub number_17 : (x : Reading) (s : ℕ) → reading_values x ≡ values 17 s 0 → x ≡ Err (TableState s)
number_17 (Ok _) s e = absurd (omega (arith, ap (λ (v : Values). v.number) e))
number_17 (Err r) s e = ap Err ((refusal-number r).1 (ap (λ (v : Values). v.number) e) ∙ ap TableState (ap (λ (v : Values). v.second) e))

-- a verdict under a rule has the numbers and the counts of the verdict

pub ruled-values : (v : Validating) → ruled_values (ruled v) ≡ verdict_values v
ruled-values (Ok (Accepted cost rows)) = refl
ruled-values (Ok (Rejected cost instant not_yet no_more)) = refl
ruled-values (Ok (Exhausted budget instant)) = refl
ruled-values (Err r) = refl

pub ruled-counts : (v : Validating) → ruled_counts (ruled v) ≡ verdict_counts v
ruled-counts (Ok (Accepted cost rows)) = refl
ruled-counts (Ok (Rejected cost instant not_yet no_more)) = refl
ruled-counts (Ok (Exhausted budget instant)) = refl
ruled-counts (Err r) = refl
