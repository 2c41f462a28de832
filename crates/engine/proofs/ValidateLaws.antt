-- Validation by its tests: what each refusal and the judgement come to, and what is promised of them without a rule and under one.
use Prim.Native.Nat.{ℕ, ◌+◌, ◌-◌, ◌*◌, ◌≤◌}
use native.Mathlib.Nat.{mul_comm}
use native.Mathlib.Omega.{arith}
use mathlib.Core.Path.{◌≡◌, refl, sym, ap, ap₂, subst, ◌∙◌}
use mathlib.Core.List.{List, [], ◌∷◌, ◌++◌}
use lib.ListN.{length, take, drop, replicate}
use lib.Seq.{length-take-le}
use lib.Dec.{leb}
use Rattle.model.specs.First.{unless, first_of, Reading, Validating, ValidatingUnder, read_as, answer_of}
use Rattle.model.specs.Size
use Rattle.model.specs.Edition.{rows_place, latest_time}
use Rattle.model.specs.Monitor.{Monitor}
use Rattle.model.specs.Table.{monitor_at, table_parts}
use Rattle.model.specs.Recording.{recording_answer, count_at, packets_at, end_of}
use Rattle.model.specs.Ruled.{monitor_under, ruled_answer, SoundUnder}
use Rattle.model.specs.Witness.{witness_bytes}
use Rattle.model.specs.Numbers.{verdict_values, verdict_counts, ruled_values, ruled_counts}
use Rattle.model.specs.Validation.{refusal_of, validation_of, validation, validation_under, ruled, verdict, preferred, scratch_wanted, room_wanted, scratch_by, room_by, scratch_left, room_left}
use Rattle.model.specs.Late.{RefusesLate, RefusesLateUnder}
use Rattle.model.specs.Claims.{ValuesOf, Judged, JudgedUnder}
use Rattle.model.specs.declared.Rule.{Rule}
use Rattle.model.specs.declared.Edition.{Edition}
use Rattle.std.specs.Prelude.{Result, Ok, Err, IsOkAnd}
use Rattle.model.specs.declared.Refusal.{Refusal}
use Rattle.model.specs.declared.Refusal.TheVariants.{Scratch, WitnessRoom}
use Rattle.model.specs.declared.Verdict.{Verdict}
use Rattle.model.specs.declared.Verdict.TheVariants.{Accepted, Rejected, Exhausted}
use Rattle.model.specs.declared.TableParts.{TableParts}
use Rattle.model.specs.Rule.{no_rule}
use Rattle.model.proofs.Basics.{and_then-left, and_then-right, length-tab}
use Rattle.model.proofs.Tests.{test, le_test}
use Rattle.model.proofs.RecordingForm.{packet_at, packets-tab}
use Rattle.model.proofs.NumberLaws.{ruled-values, ruled-counts}
use Rattle.model.proofs.Judgement.{sound-judged, sound_judged_under}
use Rattle.model.proofs.LongRecordings.{unrefused, refuses_late}
use Rattle.model.proofs.WithoutRule.{as_without}
use Rattle.situation.specs.declared.Shape.{Shape}
use Rattle.situation.specs.Numbering.{shape_of}
use Rattle.measures.specs.declared.Measures.{Measures}
use Rattle.measures.specs.Measured.{Measured}
use Rattle.measures.specs.Setting.{monitor_by}
use Rattle.lent.specs.Lent.{lent_answer}
use Rattle.engine.specs.Validates.{Answered, Validates, ValidatesUnder}
use Rattle.engine.specs.Judging.{Judging, Settled}
use Rattle.measures.proofs.Grounds.{whole-size, setting}

-- what a reading that is the definition's came to
pub read_ok : {P : Type 0} (given : Reading) (parts x : P) → read_as given parts ≡ Ok x → (given ≡ Ok tt) × (x ≡ parts)
read_ok (Ok _) parts x e = (refl, cc)
read_ok (Err why) parts x e = cc

pub read_err : {P : Type 0} (given : Reading) (parts : P) (why : Refusal) → read_as given parts ≡ Err why → given ≡ Err why
read_err (Ok _) parts why e = cc
read_err (Err r) parts why e = ap (λ x. answer_of x) e

pub le_by : (a b n : ℕ) → a ≡ b → a ≤ n → b ≤ n
le_by a b n e h = omega arith

-- behind what is sound, what is lent decides; last, scratch_need, roomNeed: as the code has them
module _ (given : Reading) (edition : Edition) (m : Monitor) (recording scratch room : List ℕ) (e : given ≡ Ok tt) (last scratch_need room_need : ℕ) (ends : last ≡ end_of (packets_at recording))
    (wanted : scratch_need ≡ scratch_wanted m (packets_at recording)) (roomy : room_need ≡ room_wanted edition (packets_at recording))
    (answer : Reading) (is : answer ≡ lent_answer edition last scratch_need room_need (length scratch) (length room))
  where
    pub by_lent : refusal_of given edition m (packets_at recording) (length scratch) (length room) ≡ answer
    unfolding refusal_of lent_answer
    by_lent = rw (refusal_of, e, is, ends, wanted, roomy)

    pub lent_enough : answer ≡ Ok tt → (scratch_need ≤ length scratch) × (end_of (packets_at recording) ≤ latest_time edition) × (room_need ≤ length room)
    unfolding lent_answer
    lent_enough h =
        let scratch_first : Reading = unless (leb scratch_need (length scratch)) (Scratch scratch_need) in
        let of_room : List Reading = unless (leb last (latest_time edition)) (WitnessRoom 0) ∷ unless (leb room_need (length room)) (WitnessRoom room_need) ∷ [] in
        let both : first_of of_room ≡ Ok tt = and_then-right scratch_first (first_of of_room) (sym is ∙ h) in (
          le_test _ _ (Scratch scratch_need) (and_then-left scratch_first (first_of of_room) (sym is ∙ h)),
          le_by _ _ _ ends (le_test _ _ (WitnessRoom 0) (test of_room both 0)),
          le_test _ _ (WitnessRoom room_need) (test of_room both 1),
        )

module _ (given : Reading) (edition : Edition) (m : Monitor) (recording : List ℕ) (budget : ℕ) (scratch room : List ℕ) where
  validation-refused : (why : Refusal) → refusal_of given edition m (packets_at recording) (length scratch) (length room) ≡ Err why
      → validation_of given edition m (packets_at recording) budget (length scratch) (length room) ≡ Err why
  unfolding validation_of
  validation-refused why e = rw (e, validation_of)

  -- a refusal answers itself and touches nothing
  pub refused : (why : Refusal) → refusal_of given edition m (packets_at recording) (length scratch) (length room) ≡ Err why
      → Answered given edition m recording budget scratch room scratch room (Err why)
  unfolding scratch_left room_left
  refused why e =
      record {
        answered = sym (validation-refused why e);
        cleared = ap (λ (v : Validating). scratch_by v (scratch_wanted m (packets_at recording)) scratch) (sym (validation-refused why e));
        written = ap (λ (v : Validating). room_by v (witness_bytes edition (preferred m (packets_at recording))) room) (sym (validation-refused why e));
      }

  pub unread : (why : Refusal) → given ≡ Err why → Answered given edition m recording budget scratch room scratch room (Err why)
  unfolding refusal_of
  unread why e = refused why (rw (refusal_of, e))

  -- where nothing is refused, the answer is the verdict
  pub valid : refusal_of given edition m (packets_at recording) (length scratch) (length room) ≡ Ok tt
      → validation_of given edition m (packets_at recording) budget (length scratch) (length room) ≡ Ok (verdict m (packets_at recording) budget)
  unfolding validation_of
  valid e = rw (e, validation_of)

  pub judged-whole : refusal_of given edition m (packets_at recording) (length scratch) (length room) ≡ Ok tt
      → (v : Verdict) (part part_then room_then : List ℕ) → length part ≡ scratch_wanted m (packets_at recording)
      → Settled edition m recording budget part room part_then room_then v
      → Answered given edition m recording budget scratch room (part_then ++ drop (scratch_wanted m (packets_at recording)) scratch) room_then (Ok v)
  unfolding scratch_left room_left
  judged-whole sound v part part_then room_then long s =
      let same : ◌≡◌ {A = Validating} (Ok v) (validation_of given edition m (packets_at recording) budget (length scratch) (length room)) =
      ap {B = Validating} Ok s.answered ∙ sym (valid sound)
      in
      record {
        answered = same;
        cleared =
            ap (λ (l : List ℕ). l ++ drop (scratch_wanted m (packets_at recording)) scratch) (s.cleared ∙ ap (λ (n : ℕ). replicate n 0) long)
            ∙ ap (λ (w : Validating). scratch_by w (scratch_wanted m (packets_at recording)) scratch) same;
        written = s.written ∙ ap (λ (w : Validating). room_by w (witness_bytes edition (preferred m (packets_at recording))) room) same;
      }

pub count-is : (recording : List ℕ) → length (packets_at recording) ≡ count_at recording
count-is recording = ap length (packets-tab recording) ∙ length-tab (packet_at recording) (count_at recording)

pub room-is : (edition : Edition) (recording : List ℕ) (head last n : ℕ) → head ≡ rows_place edition → last ≡ end_of (packets_at recording) → n ≡ count_at recording
    → head + 5 * (last + n) ≡ room_wanted edition (packets_at recording)
room-is edition recording head last n p l c = let h = count-is recording in omega arith

-- what is measured of a sound table, recording and rule
module _ (rule : Rule) (table recording : List ℕ) (e : SoundUnder rule table recording) (parts : TableParts) (r : parts ≡ table_parts table)
    (g : Measures) (m : Measured parts rule recording g) where
  pub rule-is : g.shape.rule ≡ rule
  unfolding shape_of
  rule-is = ap (λ (h : Shape). h.rule) m.shape

  pub sound_by : SoundUnder g.shape.rule table recording
  sound_by = subst (λ (x : Rule). SoundUnder x table recording) (sym rule-is) e

  pub measured : Measured (table_parts table) g.shape.rule recording g
  measured = subst (λ (x : Rule). Measured (table_parts table) x recording g) (sym rule-is) (subst (λ (p : TableParts). Measured p rule recording g) r m)

  pub scratch-is : g.row * (g.last + 1) ≡ scratch_wanted (monitor_under rule table) (packets_at recording)
  scratch-is =
      let whole : g.size ≡ Size.size (monitor_under rule table) = whole-size table recording g sound_by measured ∙ ap (λ (x : Rule). Size.size (monitor_under x table)) rule-is in
      let row : g.row ≡ Size.set_bytes (Size.size (monitor_under rule table)) = m.row ∙ ap Size.set_bytes whole in
      ap₂ (λ (a b : ℕ). a * (b + 1)) row m.last ∙ mul_comm (Size.set_bytes (Size.size (monitor_under rule table))) (end_of (packets_at recording) + 1)

  -- a row has at most as many bytes as there are situations
  pub row-few : g.row ≤ 65536
  row-few = omega (arith, (setting table recording g sound_by measured).narrow)

  -- what is lent decides, and where nothing is refused it is enough
  pub lent_by : (edition : Edition) (scratch room : List ℕ) (head count : ℕ) → head ≡ rows_place edition → count ≡ count_at recording
      → (answer : Reading) → answer ≡ lent_answer edition g.last (g.row * (g.last + 1)) (head + 5 * (g.last + count)) (length scratch) (length room)
      → (refusal_of (ruled_answer rule table recording) edition (monitor_under rule table) (packets_at recording) (length scratch) (length room) ≡ answer)
      × (answer ≡ Ok tt
      → (g.row * (g.last + 1) ≤ length scratch) × (end_of (packets_at recording) ≤ latest_time edition) × (head + 5 * (g.last + count) ≤ length room))
  lent_by edition scratch room head count placed counted answer is =
      let roomy = room-is edition recording head g.last count placed m.last counted in (
        by_lent _ edition (monitor_under rule table) recording scratch room e _ _ _ m.last scratch-is roomy answer is,
        lent_enough _ edition (monitor_under rule table) recording scratch room e _ _ _ m.last scratch-is roomy answer is,
      )

  pub judging : (edition : Edition) (scratch room : List ℕ) (head count : ℕ)
      → head ≡ rows_place edition → count ≡ count_at recording → g.row * (g.last + 1) ≤ length scratch → head + 5 * (g.last + count) ≤ length room
      → Judging edition table recording (take (g.row * (g.last + 1) - 0) scratch) room g
  judging edition scratch room head count placed counted fits roomy =
      record {
        sound = sound_by;
        measured = measured;
        long = let l = length-take-le (g.row * (g.last + 1) - 0) scratch (omega arith) in omega arith;
        roomy = let l = count-is recording in omega arith;
      }

  -- the judged part comes back to the front of the scratch
  pub judged_part : (edition : Edition) (budget : ℕ) (scratch room : List ℕ)
      → refusal_of (ruled_answer rule table recording) edition (monitor_under rule table) (packets_at recording) (length scratch) (length room) ≡ Ok tt
      → g.row * (g.last + 1) ≤ length scratch → end_of (packets_at recording) ≤ latest_time edition → (v : Verdict) (part_then room_then : List ℕ)
      → Settled edition (monitor_by g table) recording budget (take (g.row * (g.last + 1) - 0) scratch) room part_then room_then v
      → Answered (ruled_answer rule table recording) edition (monitor_under rule table) recording budget scratch room (part_then ++ drop (g.row * (g.last + 1) - 0) scratch) room_then (Ok v)
  judged_part edition budget scratch room lent fits early v part_then room_then s =
      let n : ℕ = g.row * (g.last + 1) in
      let whole : n - 0 ≡ scratch_wanted (monitor_under rule table) (packets_at recording) = omega (arith, scratch-is) in
      let long = length-take-le (n - 0) scratch (omega arith) in
      let settled : Settled edition (monitor_under rule table) recording budget (take (n - 0) scratch) room part_then room_then v =
      subst (λ (x : Rule). Settled edition (monitor_under x table) recording budget (take (n - 0) scratch) room part_then room_then v) rule-is s
      in
      subst
      (λ (k : ℕ). Answered (ruled_answer rule table recording) edition (monitor_under rule table) recording budget scratch room (part_then ++ drop k scratch) room_then (Ok v))
      (sym whole)
      (judged-whole (ruled_answer rule table recording) edition (monitor_under rule table) recording budget scratch room lent v (take (n - 0) scratch) part_then room_then (omega arith) settled)

-- what the one validation promises: without a rule, as the rule that forbids nothing

pub validates : (edition : Edition) (table recording : List ℕ) (budget : ℕ) (scratch room scratch_then room_then : List ℕ) (v : Validating)
    → Answered (ruled_answer no_rule table recording) edition (monitor_under no_rule table) recording budget scratch room scratch_then room_then v
    → Validates edition table recording budget scratch room scratch_then room_then v
validates edition table recording budget scratch room scratch_then room_then v a =
    let plain = as_without 0 (omega arith) table in
    let same : v ≡ validation edition table recording budget (length scratch) (length room) =
    a.answered ∙ plain.verdict edition recording budget (length scratch) (length room)
    in
    record {
      answered = same;
      numbers = ap verdict_values same;
      counts = ap verdict_counts same;
      cleared = a.cleared ∙ plain.scratch edition recording budget scratch room;
      written = a.written ∙ plain.room edition recording budget scratch room;
      late =
          subst (λ (x : Validating). RefusesLate edition table recording (length scratch) (verdict_values x)) (sym same)
          (refuses_late (recording_answer table recording) edition (monitor_at table) (packets_at recording) budget (length scratch) (length room));
      judged = λ lent.
          let (sound, early) = unrefused (recording_answer table recording) edition (monitor_at table) (packets_at recording) (length scratch) (length room) lent in
          subst (λ (x : Validating). IsOkAnd x (Judged edition (monitor_at table) (packets_at recording) budget))
          (sym (same ∙ valid (recording_answer table recording) edition (monitor_at table) recording budget scratch room lent))
          (sound-judged edition table recording sound early budget);
    }

-- .. and under one

pub validates_under : (rule : Rule) (edition : Edition) (table recording : List ℕ) (budget : ℕ) (scratch room scratch_then room_then : List ℕ) (v : Validating)
    → Answered (ruled_answer rule table recording) edition (monitor_under rule table) recording budget scratch room scratch_then room_then v
    → (x : ValidatingUnder) → x ≡ ruled v → ValidatesUnder rule edition table recording budget scratch room scratch_then room_then x
validates_under rule edition table recording budget scratch room scratch_then room_then v a x is =
    let given : Reading = ruled_answer rule table recording in
    let m : Monitor = monitor_under rule table in
    let answer : Validating = validation_under rule edition table recording budget (length scratch) (length room) in
    let same : x ≡ ruled answer = is ∙ ap ruled a.answered in
    let told : ruled_values x ≡ verdict_values answer = ap ruled_values same ∙ ruled-values answer in
    record {
      answered = same;
      numbers = told;
      counts = ap ruled_counts same ∙ ruled-counts answer;
      cleared = a.cleared;
      written = a.written;
      late =
          subst (RefusesLateUnder rule edition table recording (length scratch)) (sym told)
          (refuses_late given edition m (packets_at recording) budget (length scratch) (length room));
      judged = λ lent.
          let (sound, early) = unrefused given edition m (packets_at recording) (length scratch) (length room) lent in
          subst (λ (x : Validating). IsOkAnd x (JudgedUnder edition m (packets_at recording) budget)) (sym (valid given edition m recording budget scratch room lent))
          (sound_judged_under rule edition table recording sound early budget);
    }
