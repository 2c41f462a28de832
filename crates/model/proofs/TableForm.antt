-- What sound table bytes ensure: of their counts and records, and of the monitor that they describe.
use Prim.Native.Nat.{ℕ, zero, suc, ◌+◌, ◌*◌, ◌^◌, ◌<◌, ◌≤◌}
use native.Mathlib.Nat.{zero-add, add-zero}
use native.Mathlib.Decide.{ℕ_discrete}
use native.Mathlib.Omega.{arith}
use mathlib.Core.Path.{◌≡◌, refl, sym, ap, subst, ◌∙◌}
use mathlib.Core.List.{List, [], ◌∷◌}
use mathlib.Core.Bool.{Bool, true}
use Rattle.std.specs.Prelude.{Some, Ok}
use lib.ListN.{length, take, drop, length-take, length-drop}
use lib.Seq.{length-take-le}
use lib.Dec.{leb, ltb}
use Rattle.model.specs.Limits.{table_versions, state_limit, variable_limit, clock_limit, kind_limit, transition_limit, guard_limit, size_limit}
use Rattle.model.specs.Bytes.{byte_at, tab, joined}
use Rattle.model.specs.First.{unless, first_of, Reading}
use Rattle.model.specs.Frame.{framed}
use Rattle.model.specs.Guard.{up_to, guard_at, ends_at, guard_of}
use Rattle.model.specs.Kinds.{version_at, kind_at, kind_record}
use Rattle.model.specs.Rule.{no_rule}
use Rattle.model.specs.Monitor.{Transition}
use Rattle.model.specs.Size.{table_size, size}
use Rattle.model.specs.Reach.{states_answer}
use Rattle.model.specs.Table.{guard_in, transition_in, monitor_of, states_at, variables_at, clocks_at, kinds_at, transitions_at, table_counts, counts_of, kind_records, apart, guard_length_at, transition_fields, guard_record, transition_record, transition_records, transition_at, guard_place, device_column, table_parts, scan_with, table_scan, whole_answer, answer_with, table_answer, SoundTable, monitor_at}
use Rattle.model.specs.declared.Refusal.{Refusal}
use Rattle.model.specs.declared.Refusal.TheVariants.{TableFrame, TableVersion, TableCount, TableLength, TableField, TableGuard, TableSize}
use Rattle.model.proofs.Basics.{unless-sound, length-tab, get_elem_tab}
use Rattle.std.proofs.lemmas.Option.{slice_get_within}
use Rattle.model.specs.Sane.{Sane, SaneTransition}
use Rattle.model.specs.declared.Edition.TheVariants.{One}
use Rattle.model.proofs.Tests.{test, le_test, lt_test, eq_test, tests, Framed, framed_facts, passed_each}
use Rattle.model.proofs.KindForm.{SoundKind, sound-kind}
use Rattle.model.proofs.Places.{stands_part, length-padded, get_or-padded, get_or_column, length-joined, get_or-joined}
use Rattle.model.proofs.GuardForm.{closed_names, guard_names, guard-moved, moved-guard, ends_read}

-- the limits of the counts
pub record SoundCounts (b : List ℕ) : Type 0 where
  pub states-some : 1 ≤ states_at b
  pub states : states_at b ≤ state_limit
  pub variables : variables_at b ≤ variable_limit
  pub clocks : clocks_at b ≤ clock_limit
  pub kinds-some : 1 ≤ kinds_at b
  pub kinds : kinds_at b ≤ kind_limit
  pub transitions : transitions_at b ≤ transition_limit

abbrev pub count_tests : (states variables clocks kinds transitions : ℕ) → List (Bool × Refusal)
count_tests states variables clocks kinds transitions =
    (leb 1 states, TableCount 3)
    ∷ (leb states state_limit, TableCount 3)
    ∷ (leb variables variable_limit, TableCount 4)
    ∷ (leb clocks clock_limit, TableCount 5)
    ∷ (leb 1 kinds, TableCount 6)
    ∷ (leb kinds kind_limit, TableCount 6)
    ∷ (leb transitions transition_limit, TableCount 7)
    ∷ []

counts : (b : List ℕ) → table_counts b ≡ Ok tt → SoundCounts b
unfolding counts_of
counts b e =
    let l : List Reading = tests (count_tests (states_at b) (variables_at b) (clocks_at b) (kinds_at b) (transitions_at b)) in
    record {
      states-some = le_test _ _ (TableCount 3) (test l e 0);
      states = le_test _ _ (TableCount 3) (test l e 1);
      variables = le_test _ _ (TableCount 4) (test l e 2);
      clocks = le_test _ _ (TableCount 5) (test l e 3);
      kinds-some = le_test _ _ (TableCount 6) (test l e 4);
      kinds = le_test _ _ (TableCount 6) (test l e 5);
      transitions = le_test _ _ (TableCount 7) (test l e 6);
    }

-- the transition record at an offset
pub record SoundTransition (b : List ℕ) (at : ℕ) : Type 0 where
  pub source : byte_at b at < states_at b
  pub target : byte_at b (at + 1) < states_at b
  pub trigger : byte_at b (at + 2) < kinds_at b
  pub sets : byte_at b (at + 3) < 2 ^ variables_at b
  pub clears : byte_at b (at + 4) < 2 ^ variables_at b
  pub resets : byte_at b (at + 5) < 2 ^ clocks_at b
  pub disjoint : apart (variables_at b) (byte_at b (at + 3)) (byte_at b (at + 4)) ≡ true
  pub some : 1 ≤ guard_length_at b at
  pub few : guard_length_at b at ≤ guard_limit
  pub fits : at + 7 + guard_length_at b at ≤ length b
  pub guard : ends_at (guard_at guard_limit (variables_at b) (clocks_at b) b (at + 7) (at + 7 + guard_length_at b at)) (at + 7 + guard_length_at b at) ≡ true

abbrev pub field_tests : List ℕ → ℕ → List (Bool × Refusal)
field_tests b at =
    (ltb (byte_at b at) (states_at b), TableField at)
    ∷ (ltb (byte_at b (at + 1)) (states_at b), TableField at)
    ∷ (ltb (byte_at b (at + 2)) (kinds_at b), TableField at)
    ∷ (ltb (byte_at b (at + 3)) (2 ^ variables_at b), TableField at)
    ∷ (ltb (byte_at b (at + 4)) (2 ^ variables_at b), TableField at)
    ∷ (ltb (byte_at b (at + 5)) (2 ^ clocks_at b), TableField at)
    ∷ (apart (variables_at b) (byte_at b (at + 3)) (byte_at b (at + 4)), TableField at)
    ∷ []

abbrev pub guard_tests : List ℕ → ℕ → List (Bool × Refusal)
guard_tests b at =
    (leb 1 (guard_length_at b at), TableGuard at)
    ∷ (leb (guard_length_at b at) guard_limit, TableGuard at)
    ∷ (leb (at + 7 + guard_length_at b at) (length b), TableLength at)
    ∷ (ends_at (guard_at guard_limit (variables_at b) (clocks_at b) b (at + 7) (at + 7 + guard_length_at b at)) (at + 7 + guard_length_at b at), TableGuard at)
    ∷ []

pub sound-transition : (b : List ℕ) (at : ℕ) → transition_record b at ≡ Ok tt → SoundTransition b at
unfolding transition_record transition_fields guard_record
sound-transition b at e =
    let parsed : Bool = ends_at (guard_at guard_limit (variables_at b) (clocks_at b) b (at + 7) (at + 7 + guard_length_at b at)) (at + 7 + guard_length_at b at) in
    let separate : Bool = apart (variables_at b) (byte_at b (at + 3)) (byte_at b (at + 4)) in
    let l : List Reading =
    unless (leb (at + 7) (length b)) (TableLength at)
    ∷ transition_fields b at
    ∷ guard_record b at
    ∷ []
    in
    let guards : List Reading = tests (guard_tests b at) in
    let fields : List Reading = tests (field_tests b at) in
    let f : first_of fields ≡ Ok tt = test l e 1 in
    let g : first_of guards ≡ Ok tt = test l e 2 in
    record {
      source = lt_test _ _ (TableField at) (test fields f 0);
      target = lt_test _ _ (TableField at) (test fields f 1);
      trigger = lt_test _ _ (TableField at) (test fields f 2);
      sets = lt_test _ _ (TableField at) (test fields f 3);
      clears = lt_test _ _ (TableField at) (test fields f 4);
      resets = lt_test _ _ (TableField at) (test fields f 5);
      disjoint = unless-sound separate (TableField at) (test fields f 6);
      some = le_test _ _ (TableGuard at) (test guards g 0);
      few = le_test _ _ (TableGuard at) (test guards g 1);
      fits = le_test _ _ (TableLength at) (test guards g 2);
      guard = unless-sound parsed (TableGuard at) (test guards g 3);
    }

-- every transition record from number i on

transitions-sound :
    (n : ℕ) (b : List ℕ) (i j : ℕ) → transition_records n b (transition_at b i) ≡ Ok tt → i ≤ j → j < i + n → SoundTransition b (transition_at b j)
unfolding transition_records transition_at
transitions-sound zero b i j e p q = absurd (omega arith)
transitions-sound (suc n) b i j e p q =
    let l : List Reading = transition_record b (transition_at b i) ∷ transition_records n b (transition_at b (suc i)) ∷ [] in
    split (ℕ_discrete i j) (test l e 0) (λ r. transitions-sound n b (suc i) j (test l e 1) r (omega arith))
  where
    split : Dec (i ≡ j) → transition_record b (transition_at b i) ≡ Ok tt → (suc i ≤ j → SoundTransition b (transition_at b j)) → SoundTransition b (transition_at b j)
    split (yes s) here again = sound-transition b (transition_at b j) (ap (λ (x : ℕ). transition_record b (transition_at b x)) (sym s) ∙ here)
    split (no s) here again = again (omega arith)

transitions-end : (n : ℕ) (b : List ℕ) (i : ℕ) → transition_records n b (transition_at b i) ≡ Ok tt → transition_at b (i + n) ≡ length b
unfolding transition_records transition_at
transitions-end zero b i e = ap (λ (x : ℕ). transition_at b x) (add-zero i) ∙ eq_test (transition_at b i) (length b) (TableLength (transition_at b i)) e
transitions-end (suc n) b i e =
    let l : List Reading = transition_record b (transition_at b i) ∷ transition_records n b (transition_at b (suc i)) ∷ [] in
    let next : i + suc n ≡ suc i + n = omega arith in
    ap (λ (x : ℕ). transition_at b x) next ∙ transitions-end n b (suc i) (test l e 1)

-- all that a sound scan ensures of a table's bytes, its kinds having these devices
pub record TableFacts (devices b : List ℕ) : Type 0 where
  pub head : Framed One b 8 1 table_versions
  pub counts : SoundCounts b
  pub kind : (i : ℕ) → i < kinds_at b → SoundKind b (kind_at (version_at b) i) (byte_at devices i)
  pub transition : (j : ℕ) → j < transitions_at b → SoundTransition b (transition_at b j)
  pub end : transition_at b (transitions_at b) ≡ length b

abbrev scan_tests : (devices b : List ℕ) → List Reading
scan_tests devices b =
    framed One b 8 1 table_versions TableFrame TableVersion
    ∷ table_counts b
    ∷ kind_records devices b
    ∷ transition_records (transitions_at b) b (transition_at b 0)
    ∷ []

pub scan_facts : (devices b : List ℕ) → scan_with devices b ≡ Ok tt → TableFacts devices b
unfolding scan_with kind_records
scan_facts devices b s =
    let l : List Reading = scan_tests devices b in
    let kind : ℕ → Reading = λ i. kind_record b (kind_at (version_at b) i) (byte_at devices i) in
    record {
      head = framed_facts One b 8 1 table_versions TableFrame TableVersion (test l s 0);
      counts = counts b (test l s 1);
      kind = λ i h. sound-kind b (kind_at (version_at b) i) (byte_at devices i) (passed_each kind (kinds_at b) (test l s 2) i h);
      transition = λ j h. transitions-sound (transitions_at b) b 0 j (test l s 3) (omega arith) (omega arith);
      end = ap (λ (x : ℕ). transition_at b x) (sym (zero-add (transitions_at b))) ∙ transitions-end (transitions_at b) b 0 (test l s 3);
    }

pub scan_sound : (devices b : List ℕ) → answer_with devices b ≡ Ok tt → scan_with devices b ≡ Ok tt
unfolding answer_with
scan_sound devices b e = let l : List Reading = scan_with devices b ∷ whole_answer (monitor_at b) ∷ [] in test l e 0

pub table_facts : (b : List ℕ) → SoundTable b → TableFacts (device_column b) b
unfolding table_answer
table_facts b e = scan_facts (device_column b) b (scan_sound (device_column b) b e)

pub table_small : (b : List ℕ) → SoundTable b → table_size (monitor_at b) ≤ size_limit
unfolding table_answer answer_with table_scan whole_answer
table_small b e =
    let all : List Reading = table_scan b ∷ whole_answer (monitor_at b) ∷ [] in
    let whole : List Reading = unless (leb (table_size (monitor_at b)) size_limit) TableSize ∷ states_answer (monitor_at b) ∷ [] in
    le_test _ _ TableSize (test whole (test all e 1) 0)

-- a table's monitor has no rule, and so no larger N

pub plain_rule : (b : List ℕ) → (monitor_at b).rule ≡ no_rule
unfolding monitor_of
plain_rule b = refl

pub plain_size : (b : List ℕ) → size (monitor_at b) ≡ table_size (monitor_at b)
unfolding size monitor_of
plain_size b = omega arith

-- the parts, where the counts reach

guard_place-length : (b : List ℕ) (j : ℕ) → guard_length_at b (transition_at b j) ≤ guard_limit → length (guard_place b j) ≡ guard_limit
unfolding guard_place
guard_place-length b j h =
    let n : ℕ = guard_length_at b (transition_at b j) in
    length-padded guard_limit (take n (drop (transition_at b j + 7) b)) (omega (arith, length-take n (drop (transition_at b j + 7) b)))

module _ {devices : List ℕ} (b : List ℕ) (facts : TableFacts devices b) where
  pub places : (j : ℕ) → j < transitions_at b → length (guard_place b j) ≡ guard_limit
  places j h = guard_place-length b j (facts.transition j h).few

  pub places_length : length (joined (guard_place b) (transitions_at b)) ≡ guard_limit * transitions_at b
  places_length = length-joined (guard_place b) guard_limit (transitions_at b) places

  pub guard-place : (j : ℕ) → j < transitions_at b → (i : ℕ) → i < guard_limit → byte_at (table_parts b).guards (guard_limit * j + i) ≡ byte_at (guard_place b j) i
  unfolding table_parts
  guard-place j h i p =
      get_or-padded (guard_limit * transition_limit) (joined (guard_place b) (transitions_at b)) (guard_limit * j + i) (omega (arith, places_length))
      ∙ get_or-joined (guard_place b) guard_limit (transitions_at b) places j i h p

  pub guard_byte :
      (j : ℕ) → j < transitions_at b → (i : ℕ) → i < guard_length_at b (transition_at b j)
      → byte_at (table_parts b).guards (guard_limit * j + i) ≡ byte_at b (transition_at b j + 7 + i)
  unfolding guard_place
  guard_byte j h i p =
      let t : SoundTransition b (transition_at b j) = facts.transition j h in
      let few : guard_length_at b (transition_at b j) ≤ guard_limit = t.few in
      let fits : transition_at b j + 7 + guard_length_at b (transition_at b j) ≤ length b = t.fits in
      let n : ℕ = guard_length_at b (transition_at b j) in
      let g : List ℕ = take n (drop (transition_at b j + 7) b) in
      let e : length g ≡ n = length-take-le n (drop (transition_at b j + 7) b) (omega (arith, length-drop (transition_at b j + 7) b)) in
      guard-place j h i (omega arith) ∙ get_or-padded guard_limit g i (omega arith) ∙ sym (stands_part b (transition_at b j + 7) n i (omega arith))

  pub guard-again :
      (j : ℕ) → j < transitions_at b
      → guard_in (table_parts b) j
      ≡ guard_of (guard_at guard_limit (variables_at b) (clocks_at b) b (transition_at b j + 7) (transition_at b j + 7 + guard_length_at b (transition_at b j)))
  unfolding guard_in table_parts
  guard-again j h =
      let vs : ℕ = variables_at b in
      let cs : ℕ = clocks_at b in
      let at : ℕ = transition_at b j + 7 in
      let n : ℕ = guard_length_at b (transition_at b j) in
      let few : n ≤ guard_limit = (facts.transition j h).few in
      ap (λ (k : ℕ). guard_of (guard_at guard_limit vs cs (table_parts b).guards (guard_limit * j) (guard_limit * j + k))) (get_or_column transition_limit (λ i. byte_at b (transition_at b i + 6)) (transitions_at b) j h)
      ∙ ap guard_of (guard-moved vs cs b (table_parts b).guards at (guard_limit * j) n (λ i p. sym (guard_byte j h i p)) guard_limit guard_limit few few)
      ∙ moved-guard at (guard_limit * j) (guard_at guard_limit vs cs b at (at + n))

  -- the guard at its place in the bytes, as read
  pub guard-sound :
      (j : ℕ) → j < transitions_at b
      → guard_at guard_limit (variables_at b) (clocks_at b) b (transition_at b j + 7) (transition_at b j + 7 + guard_length_at b (transition_at b j))
      ≡ up_to (guard_in (table_parts b) j) (transition_at b j + 7 + guard_length_at b (transition_at b j))
  guard-sound j h =
      let at : ℕ = transition_at b j + 7 in
      let end : ℕ = at + guard_length_at b (transition_at b j) in
      rw (guard-again j h) (ends_read (guard_at guard_limit (variables_at b) (clocks_at b) b at end) end (facts.transition j h).guard)

  pub sane-transition : (j : ℕ) → j < transitions_at b → SaneTransition (monitor_at b) (transition_in (table_parts b) j)
  unfolding transition_in monitor_of table_parts
  sane-transition j h =
      let t : SoundTransition b (transition_at b j) = facts.transition j h in
      let at : ℕ = transition_at b j + 7 in
      let end : ℕ = at + guard_length_at b (transition_at b j) in
      record {
        target = rw (get_or_column transition_limit (λ i. byte_at b (transition_at b i + 1)) (transitions_at b) j h) t.target;
        trigger = rw (length-tab (λ k. byte_at (table_parts b).airtimes k) (kinds_at b), get_or_column transition_limit (λ i. byte_at b (transition_at b i + 2)) (transitions_at b) j h) t.trigger;
        closed = closed_names (monitor_at b) (guard_in (table_parts b) j) (guard_names (variables_at b) (clocks_at b) b end guard_limit at (guard_in (table_parts b) j) end (guard-sound j h));
      }

pub sane_table : (b : List ℕ) → SoundTable b → Sane (monitor_at b)
unfolding monitor_of table_parts
sane_table b s =
    let facts : TableFacts (device_column b) b = table_facts b s in
    let counts : SoundCounts b = facts.counts in
    let n : length (tab (transition_in (table_parts b)) (transitions_at b)) ≡ transitions_at b = length-tab (transition_in (table_parts b)) (transitions_at b) in
    record {
      states = counts.states-some;
      clocks = counts.clocks;
      few = rw n counts.transitions;
      transition = λ j t e.
          let h : j < transitions_at b = rw n at (slice_get_within (tab (transition_in (table_parts b)) (transitions_at b)) j t e) in
          let f : Some (transition_in (table_parts b) j) ≡ Some t = sym (get_elem_tab (transition_in (table_parts b)) (transitions_at b) j h) ∙ e in
          let same : transition_in (table_parts b) j ≡ t = cc in
          subst (λ (x : Transition). SaneTransition (monitor_at b) x) same (sane-transition b facts j h);
      window = omega arith;
    }
