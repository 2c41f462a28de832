-- R-7 by computation: rules on the small monitor, whose kinds from the unit have device 0 and whose ACK has device 1.
use Prim.Native.Nat.{ℕ, ◌<◌, ◌≤◌}
use native.Mathlib.Omega.{arith}
use mathlib.Core.Path.{◌≡◌, refl, subst}
use mathlib.Core.List.{List, [], ◌∷◌, ◌++◌, map}
use Rattle.model.specs.Rule.{rule_of}
use Rattle.model.specs.Trace.{Possible, PossibleUnder}
use Rattle.model.specs.Table.{monitor_at}
use Rattle.model.specs.Recording.{SoundRecording, packets_at, end_of}
use Rattle.model.specs.Ruled.{monitor_under, rule_answer, SoundUnder}
use Rattle.model.specs.Numbers.{Values, values, reading_values, verdict_values, checking_values}
use Rattle.model.specs.Witness.{Row, marked, in_form, row_at, witness_frame}
use Rattle.model.specs.Rules.{sends, removes, keeps, adds, account, broken, changes, check_refusal, check_answer_under}
use Rattle.model.specs.Validation.{cost_of, verdict, preferred, validation_under}
use Rattle.model.specs.Claims.{Judged, JudgedUnder}
use Rattle.model.specs.declared.Edition.TheVariants.{One}
use Rattle.model.specs.declared.Rule.{Rule}
use Rattle.model.specs.declared.Verdict.{Verdict}
use Rattle.model.specs.declared.Verdict.TheVariants.{Accepted, Rejected}
use Rattle.examples.proofs.Examples.{run_of, table, two, p5}
use Rattle.examples.proofs.Unreached.{link, clocked, falling, linked}
use Rattle.model.proofs.Judgement.{sound-judged, sound_judged_under}

-- DATA at 1, 4 and 7: before the second and the third an ACK has to be guessed
pub thrice : List ℕ
thrice = 0 ∷ 12 ∷ 1 ∷ 0 ∷ 3 ∷ 0 ∷ 1 ∷ 0 ∷ 0 ∷ 4 ∷ 0 ∷ 0 ∷ 7 ∷ 0 ∷ []

-- The rule, what is heard, the length of the scratch, the answer. A guess in each second row: none allowed, one of two rows, one and two of three, and no rule on
-- ACK. P8 with no RETRY guessed, P5 with more situations. 25 at each edge, behind 24; 30 by the larger N
pub rulings : List (Rule × List ℕ × ℕ × Values)
unfolding thrice two p5
rulings =
    (rule_of 1 1 1, thrice, 48, values 0 9 5)
    ∷ (rule_of 1 1 0, thrice, 48, values 1 4 4)
    ∷ (rule_of 1 2 1, thrice, 96, values 0 9 5)
    ∷ (rule_of 1 3 1, thrice, 192, values 1 8 7)
    ∷ (rule_of 1 3 2, thrice, 192, values 0 9 5)
    ∷ (rule_of 15 1 0, thrice, 48, values 0 9 5)
    ∷ (rule_of 0 1 0, two 1 0 12 0, 78, values 0 21 3)
    ∷ (rule_of 1 3 1, p5, 168, values 0 16 3)
    ∷ (rule_of 16 1 1, thrice, 1000, values 25 0 0)
    ∷ (rule_of 1 0 0, thrice, 1000, values 25 0 0)
    ∷ (rule_of 1 9 1, thrice, 0, values 25 0 0)
    ∷ (rule_of 1 3 4, thrice, 0, values 25 0 0)
    ∷ (rule_of 16 1 1, two 1 0 2 0, 1000, values 24 1 0)
    ∷ (rule_of 1 3 1, thrice, 191, values 30 192 0)
    ∷ []

-- N 65,536, with 16 states, four variables and a clock: twice as many situations are too many, and 25 comes first
pub wide : List ℕ
unfolding link clocked falling linked
wide = linked 16 4 1 16 (falling 15 ++ clocked 254)

pub too_many : List (Rule × Values)
too_many = (rule_of 1 1 1, values 0 0 0) ∷ (rule_of 1 2 1, values 26 0 0) ∷ (rule_of 16 2 1, values 25 0 0) ∷ []

-- the witness without a rule: kept 1, added 3, kept 4, added 6, kept 7
pub guesser : List ℕ
guesser =
    0 ∷ 28 ∷ 1 ∷ 0 ∷ 5
    ∷ 0 ∷ 0 ∷ 1 ∷ 0 ∷ 0
    ∷ 2 ∷ 0 ∷ 3 ∷ 2 ∷ 1
    ∷ 0 ∷ 0 ∷ 4 ∷ 0 ∷ 0
    ∷ 2 ∷ 0 ∷ 6 ∷ 2 ∷ 1
    ∷ 0 ∷ 0 ∷ 7 ∷ 0 ∷ 0
    ∷ []

-- 43 names the row by which there are too many; 25 comes before the witness is looked at
pub checks : List (Rule × Values)
checks =
    (rule_of 1 1 1, values 0 2 5)
    ∷ (rule_of 1 2 1, values 0 2 5)
    ∷ (rule_of 1 3 2, values 0 2 5)
    ∷ (rule_of 0 1 0, values 0 2 5)
    ∷ (rule_of 1 3 1, values 43 3 0)
    ∷ (rule_of 1 1 0, values 43 1 0)
    ∷ (rule_of 1 9 1, values 25 0 0)
    ∷ []

-- P8's preferred witness, if no RETRY may be guessed: an ACK at 4
pub other_guess : List Row
other_guess = marked 0 1 0 0 ∷ marked 2 4 2 1 ∷ marked 0 12 0 0 ∷ []

pub record Answered : Type 0 where
  pub judged : map (λ c. verdict_values (validation_under c.0 One table c.1 10000 c.2 1000)) rulings ≡ map (λ c. c.3) rulings
  pub small : map (λ c. reading_values (rule_answer (monitor_under c.0 wide))) too_many ≡ map (λ c. c.1) too_many
  pub checked : map (λ c. checking_values (check_answer_under c.0 One table thrice guesser)) checks ≡ map (λ c. c.1) checks
  pub other : preferred (monitor_under (rule_of 0 1 0) table) (packets_at (two 1 0 12 0)) ≡ other_guess

answered-judged : map (λ c. verdict_values (validation_under c.0 One table c.1 10000 c.2 1000)) rulings ≡ map (λ c. c.3) rulings
unfolding run_of thrice rulings table two p5
answered-judged = refl

answered_small : map (λ c. reading_values (rule_answer (monitor_under c.0 wide))) too_many ≡ map (λ c. c.1) too_many
unfolding run_of wide too_many
answered_small = refl

answered : Answered
unfolding run_of thrice guesser checks other_guess table two in_form row_at witness_frame sends removes keeps adds account broken changes check_refusal check_answer_under
answered = record { judged = answered-judged; small = answered_small; checked = refl; other = refl }

-- a recording that is possible, and unlikely under a rule, in the paper's words

record Verdicts : Type 0 where
  plain : verdict (monitor_at table) (packets_at thrice) 10000 ≡ Accepted 9 5
  ruled : verdict (monitor_under (rule_of 1 3 1) table) (packets_at thrice) 10000 ≡ Rejected 8 7 0 0
  sound : SoundRecording table thrice
  allowed : SoundUnder (rule_of 1 3 1) table thrice
  early : end_of (packets_at thrice) ≤ 4096

verdicts : Verdicts
unfolding run_of thrice table
verdicts = record { plain = refl; ruled = refl; sound = refl; allowed = refl; early = omega arith }

possible : Possible (monitor_at table) (packets_at thrice)
possible =
    let j = subst (λ (v : Verdict). Judged One (monitor_at table) (packets_at thrice) 10000 v) verdicts.plain (sound-judged One table thrice verdicts.sound verdicts.early 10000) in
    let within : 10000 < cost_of (monitor_at table) (packets_at thrice) → ⊥ = j.exhausted.1 in
    (j.accepted (omega arith)).0 tt

unlikely : PossibleUnder (monitor_under (rule_of 1 3 1) table) (packets_at thrice) → ⊥
unlikely =
    let m = monitor_under (rule_of 1 3 1) table in
    let j =
    subst (λ (v : Verdict). JudgedUnder One m (packets_at thrice) 10000 v) verdicts.ruled
    (sound_judged_under (rule_of 1 3 1) One table thrice verdicts.allowed verdicts.early 10000) in
    let within : 10000 < cost_of m (packets_at thrice) → ⊥ = j.exhausted.1 in
    (j.rejected (omega arith)).0 tt

pub record LossRate : Type 0 where
  pub answers : Answered
  pub accepted : Possible (monitor_at table) (packets_at thrice)
  pub rejected : PossibleUnder (monitor_under (rule_of 1 3 1) table) (packets_at thrice) → ⊥

pub loss_rate : LossRate
loss_rate = record { answers = answered; accepted = possible; rejected = unlikely }
