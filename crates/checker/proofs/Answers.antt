-- The checker's answer, by what came first, and what it says of the witness in the paper's words.
use Prim.Native.Nat.{ℕ}
use native.Mathlib.Omega.{arith}
use mathlib.Core.Path.{◌≡◌, refl, sym, ap, ap₂, subst, ◌∙◌}
use mathlib.Core.List.{List}
use mathlib.Core.Logic.{◌↔◌}
use Rattle.std.specs.Prelude.{Option, Some, None, Ok, Err}
use Rattle.std.proofs.lemmas.Option.{none-some, same_Some}
use Rattle.model.specs.First.{and_then, Reading, Checking}
use Rattle.model.specs.Rule.{no_rule}
use Rattle.model.specs.Monitor.{Monitor, under}
use Rattle.model.specs.Table.{monitor_of, monitor_at}
use Rattle.model.specs.Recording.{recording_answer, packets_at}
use Rattle.model.specs.Ruled.{monitor_under, ruled_answer, SoundUnder}
use Rattle.model.specs.Witness.{Row, Formed, SoundForm, misformed, rows_at, bad_row, witness_frame, witness_answer}
use Rattle.model.specs.Numbers.{Values, values, checking_values}
use Rattle.model.specs.Rules.{begin, broken, checked, check_refusal, check_answer, check_answer_under}
use Rattle.model.specs.declared.Edition.{Edition}
use Rattle.model.specs.declared.Rule.{Rule}
use Rattle.model.proofs.Basics.{and_then-left, and_then-right}
use Rattle.model.proofs.Explained.{explained, explained_under}
use Rattle.model.proofs.FirstBreak.{first_breaks}
use Rattle.model.proofs.RecordingForm.{sound_table}
use Rattle.model.proofs.RuledForm.{recording_sound, facts_under}
use Rattle.model.proofs.Tests.{then_sound}
use Rattle.model.proofs.TableForm.{plain_rule}
use Rattle.model.proofs.WithoutRule.{as_without}
use Rattle.monitor.specs.From.{offsets_of}
use Rattle.monitor.proofs.Described.{monitor_from_lem}
use Rattle.rule.proofs.Laws.{within-sound}
use Rattle.row_tests.specs.Under.{ruled_from}
use Rattle.checker.specs.Claim.{IsPermitted, Faithful, Checks, FaithfulUnder, NamesFirst, ChecksUnder}

permitted_none : (o : Option ℕ) (rows : List Row) → IsPermitted (checked (bad_row o) rows) ↔ (o ≡ None)
permitted_none None rows = (λ p. refl, λ e. tt)
permitted_none (Some i) rows = (λ p. absurd p, λ e. absurd (none-some i (sym e)))

formed : (edition : Edition) (w : List ℕ) → SoundForm edition w → Formed edition (rows_at edition w)
unfolding witness_answer
formed edition w f = unmarred (misformed edition None 0 (rows_at edition w)) (sym (then_sound _) ∙ and_then-right (witness_frame edition w) _ f)
  where
    unmarred : (o : Option ℕ) → bad_row o ≡ Ok tt → o ≡ None
    unmarred None e = refl
    unmarred (Some i) e = cc

-- given: the answer on what is read before the witness; m: the monitor that is judged
module _ (given : Reading) (edition : Edition) (m : Monitor) (r w : List ℕ) where
  abbrev answer : Checking
  answer = checked (check_refusal given edition m r w) (rows_at edition w)

  abbrev first : Option ℕ
  first = broken edition m (begin (packets_at r)) 0 (rows_at edition w)

  module _ (e : given ≡ Ok tt) where
    framed : (frame : Reading) → witness_frame edition w ≡ frame → answer ≡ checked (and_then frame (bad_row first)) (rows_at edition w)
    unfolding check_refusal
    framed frame f = rw (e, f, then_sound)

    -- demand 2, where to explain is to break no rule
    faithful-to : (explains : Type 0) → SoundForm edition w → (first ≡ None) ↔ explains → IsPermitted answer ↔ explains
    unfolding witness_answer
    faithful-to explains f onto =
        let whole = framed (Ok tt) (and_then-left (witness_frame edition w) _ f) in
        let same = permitted_none first (rows_at edition w) in
        (λ p. onto.0 (same.0 (subst IsPermitted whole p)), λ x. subst IsPermitted (sym whole) (same.1 (onto.1 x)))

    -- what is permitted has a sound frame, and rows that break no rule
    permitted-rows : IsPermitted answer → (witness_frame edition w ≡ Ok tt) × (first ≡ None)
    permitted-rows p = by (witness_frame edition w) refl
      where
        by : (frame : Reading) → witness_frame edition w ≡ frame → (witness_frame edition w ≡ Ok tt) × (first ≡ None)
        by (Ok _) f = (f, (permitted_none first (rows_at edition w)).0 (subst IsPermitted (framed (Ok tt) f) p))
        by (Err x) f = absurd (subst IsPermitted (framed (Err x) f) p)

    -- 43 has the number of the first row that breaks a rule
    row_named : witness_frame edition w ≡ Ok tt → (i : ℕ) → (checking_values answer ≡ values 43 i 0) ↔ (first ≡ Some i)
    row_named f i = subst (λ (x : Checking). (checking_values x ≡ values 43 i 0) ↔ (first ≡ Some i)) (sym (framed (Ok tt) f)) (by first)
      where
        by : (o : Option ℕ) → (checking_values (checked (bad_row o) (rows_at edition w)) ≡ values 43 i 0) ↔ (o ≡ Some i)
        by None = (λ e. absurd (omega (arith, ap (λ (v : Values). v.number) e)), λ e. absurd (none-some i e))
        by (Some j) = (λ e. ap {B = Option ℕ} Some (ap (λ (v : Values). v.second) e), λ e. ap (λ (n : ℕ). values 43 n 0) (same_Some j i e))

-- 25 lets the rule through, so the code goes by the rule as it is
pub judged : (rule : Rule) (t r : List ℕ) → SoundUnder rule t r → ruled_from rule t (offsets_of t) ≡ monitor_under rule t
judged rule t r s =
    let facts = facts_under rule t r s in
    ap₂ (λ (x : Rule) (m : Monitor). under x m) (within-sound rule facts.some facts.window) (monitor_from_lem t (sound_table t r (recording_sound rule t r s)))

-- under a rule
module _ (rule : Rule) (edition : Edition) (t r w : List ℕ) where
  faithful-under : FaithfulUnder rule edition t r w (check_answer_under rule edition t r w)
  unfolding check_answer_under
  faithful-under s f =
      faithful-to (ruled_answer rule t r) edition (monitor_under rule t) r w s _ f
      (explained_under edition (monitor_under rule t) (packets_at r) (rows_at edition w) (facts_under rule t r s).some (formed edition w f))

  -- the table's own monitor has no rule
  plain : under no_rule (monitor_under rule t) ≡ monitor_at t
  unfolding monitor_of
  plain = refl

  names-first : NamesFirst rule edition t r w (check_answer_under rule edition t r w)
  unfolding check_answer check_answer_under
  names-first s p i =
      let (frame, unbroken) = permitted-rows (recording_answer t r) edition (monitor_at t) r w (recording_sound rule t r s) p in
      let named = row_named (ruled_answer rule t r) edition (monitor_under rule t) r w s frame i in
      let breaks =
      first_breaks edition (monitor_under rule t) (packets_at r) (rows_at edition w) (facts_under rule t r s).some
      (ap (λ (m : Monitor). broken edition m (begin (packets_at r)) 0 (rows_at edition w)) plain ∙ unbroken) i in
      (λ e. breaks.0 (named.0 e), λ b. named.1 (breaks.1 b))

  pub checks_under : (x : Checking) → x ≡ check_answer_under rule edition t r w → ChecksUnder rule edition t r w x
  checks_under x e = record { answered = e; numbers = ap checking_values e; faithful = subst (FaithfulUnder rule edition t r w) (sym e) faithful-under; named = subst (NamesFirst rule edition t r w) (sym e) names-first }

-- without a rule: the rule that forbids nothing gives the same answer
module _ (edition : Edition) (t r w : List ℕ) where
  faithful : Faithful edition t r w (check_answer edition t r w)
  unfolding check_answer
  faithful s f =
      faithful-to (recording_answer t r) edition (monitor_at t) r w s _ f
      (explained edition (monitor_at t) (packets_at r) (rows_at edition w) (plain_rule t) (formed edition w f))

  pub checks : (rule : Rule) (x : Checking) → rule ≡ no_rule → x ≡ check_answer_under rule edition t r w → Checks edition t r w x
  checks rule x n e =
      let same : x ≡ check_answer edition t r w =
      e ∙ ap (λ (k : Rule). check_answer_under k edition t r w) n ∙ (as_without 0 (omega arith) t).checking edition r w in
      record { answered = same; numbers = ap checking_values same; faithful = subst (Faithful edition t r w) (sym same) faithful }
