-- A sound table and recording give the passes what they go by: the code's step is the definition's, and offsets find the triggers.
use Prim.Native.Nat.{ℕ, zero, suc, ◌+◌, ◌*◌, ◌<◌, ◌≤◌, min}
use native.Mathlib.Omega.{arith}
use mathlib.Core.Path.{◌≡◌, sym, ap, ap₂, subst, fun_ext, ◌∙◌}
use mathlib.Core.List.{List, [], ◌∷◌, ◌++◌}
use Rattle.std.specs.Prelude.{Option, Some, slice_get}
use Rattle.std.specs.Option.{option_map}
use Rattle.std.proofs.lemmas.Option.{same_Some, slice_get_within}
use lib.ListN.{length, get_or}
use Rattle.model.specs.Bytes.{byte_at, tab}
use Rattle.model.specs.Limits.{size_limit, guard_limit, transition_limit}
use Rattle.model.specs.Rule.{masks}
use Rattle.model.specs.Monitor.{Monitor, Transition, under}
use Rattle.model.specs.Size.{greatest, largest_airtime, cap, table_size, size}
use Rattle.model.specs.Kinds.{version_at, kind_at}
use Rattle.model.specs.Table.{SoundTable, monitor_at, monitor_of, table_parts, transition_in, transitions_at, transition_at, guard_length_at, kinds_at, kind_column, device_column}
use Rattle.model.specs.Recording.{packets_at}
use Rattle.model.specs.Ruled.{SoundUnder}
use Rattle.model.specs.Situation.{step_by, move_of, number, situation_of, capped, recorded_at, step_number, first_by, first_number}
use Rattle.model.specs.declared.Rule.{Rule}
use Rattle.model.specs.declared.Situation.{Situation}
use Rattle.model.proofs.Basics.{get_elem_tab, get_or-tab, length-tab}
use Rattle.model.proofs.Places.{get_or_column, get_or-padded}
use Rattle.model.proofs.TableForm.{table_facts, table_small, TableFacts}
use Rattle.model.proofs.RecordingForm.{sound_table}
use Rattle.model.proofs.RuledForm.{RuleFacts, facts_under, recording_sound, sane-under, sane_recording_under}
use Rattle.rule.specs.Within.{within}
use Rattle.rule.proofs.Laws.{within-sound}
use Rattle.monitor.specs.From.{monitor_from, offsets_of, transition_from, transition_count}
use Rattle.monitor.proofs.Described.{monitor_from_lem}
use Rattle.situation.specs.declared.Shape.{Shape}
use Rattle.situation.specs.Numbering.{Fits, number_by, situation_by, capped_by}
use Rattle.situation.specs.Ruled.{ruled_from}
use Rattle.situation.proofs.Numbered.{same_number, same_situation, same-capped}
use Rattle.situation.proofs.Shaped.{table_shape}
use Rattle.steps.specs.Stepping.{arrive_from, step_at}
use Rattle.measures.specs.declared.Measures.{Measures}
use Rattle.measures.specs.Measured.{Measured}
use Rattle.measures.specs.Setting.{monitor_by, Setting, Triggers}
use Rattle.measures.specs.Working.{Preparing}
use Rattle.instants.proofs.TableSources.{sourced-under}

-- the longest airtime of a sound table is 15

greatest-more : (l : List ℕ) (x b : ℕ) → greatest l ≤ b → x ≤ b → greatest (l ++ (x ∷ [])) ≤ b
unfolding greatest
greatest-more [] x b h g = omega arith
greatest-more (a ∷ l) x b h g = let r = greatest-more l x b (omega arith) g in omega arith

greatest_le : (f : ℕ → ℕ) (b n : ℕ) → ((i : ℕ) → i < n → f i ≤ b) → greatest (tab f n) ≤ b
unfolding tab greatest
greatest_le f b zero h = omega arith
greatest_le f b (suc n) h = greatest-more (tab f n) (f n) b (greatest_le f b n (λ i l. h i (omega arith))) (h n (omega arith))

module _ (table : List ℕ) (sound : SoundTable table) where
  facts : TableFacts (device_column table) table
  facts = table_facts table sound

  airtimes-short : largest_airtime (monitor_at table) < 256
  unfolding monitor_of table_parts
  airtimes-short =
      let h = greatest_le (λ k. byte_at (kind_column table 1) k) 15 (kinds_at table)
      (λ k l. subst (λ (x : ℕ). x ≤ 15) (sym (get_or_column 32 (λ i. byte_at table (kind_at (version_at table) i + 1)) (kinds_at table) k l)) (facts.kind k l).airtime) in
      omega arith

  counted : transition_count table ≡ length (monitor_at table).transitions
  unfolding monitor_of table_parts
  counted = omega (arith, facts.counts.transitions, length-tab (transition_in (table_parts table)) (transitions_at table))

  states-few : (monitor_at table).states ≤ 16
  unfolding monitor_of table_parts
  states-few = facts.counts.states

  guards-short : (j : ℕ) → j < transition_count table → guard_length_at table (get_or (offsets_of table) j 0) ≤ guard_limit
  unfolding offsets_of
  guards-short j h =
      let n : length (tab (transition_at table) (transition_count table)) ≡ transition_count table = length-tab (transition_at table) (transition_count table) in
      let at : get_or (offsets_of table) j 0 ≡ transition_at table j =
      get_or-padded transition_limit (tab (transition_at table) (transition_count table)) j (omega (arith, n)) ∙ get_or-tab (transition_at table) 0 (transition_count table) j h
      in
      subst (λ (x : ℕ). guard_length_at table x ≤ guard_limit) (sym at) (facts.transition j (omega arith)).few

  pub triggers : Triggers table (offsets_of table)
  unfolding monitor_from transition_from
  triggers = record { trigger = λ j t e. find j t (subst (λ (m : Monitor). slice_get m.transitions j ≡ Some t) (sym (monitor_from_lem table sound)) e) }
    where
      find : (j : ℕ) (t : Transition) → slice_get (monitor_from table (offsets_of table)).transitions j ≡ Some t → byte_at table (get_or (offsets_of table) j 0 + 2) ≡ t.trigger
      find j t e =
          let within : j < transitions_at table =
          subst (λ (n : ℕ). j < n) (length-tab (λ i. transition_from table (get_or (offsets_of table) i 0)) (transitions_at table))
          (slice_get_within (tab (λ i. transition_from table (get_or (offsets_of table) i 0)) (transitions_at table)) j t e)
          in
          let there = get_elem_tab (λ i. transition_from table (get_or (offsets_of table) i 0)) (transitions_at table) j within in
          ap (λ (x : Transition). x.trigger) (same_Some (transition_from table (get_or (offsets_of table) j 0)) t (sym there ∙ e))

module _ (table recording : List ℕ) (g : Measures) (sound : SoundUnder g.shape.rule table recording) (measured : Measured (table_parts table) g.shape.rule recording g) where
  abbrev rule : Rule
  rule = g.shape.rule

  whole_table : SoundTable table
  whole_table = sound_table table recording (recording_sound rule table recording sound)

  ruled : RuleFacts (monitor_by g table)
  ruled = facts_under rule table recording sound

  fits : Fits g.shape (monitor_by g table)
  fits = subst (λ (h : Shape). Fits h (monitor_by g table)) (sym measured.shape) (table_shape rule ruled.some ruled.window table whole_table)

  short : largest_airtime (monitor_by g table) < 256
  short = airtimes-short table whole_table

  -- the rule as the code goes by it is the rule
  within-is : within rule ≡ rule
  within-is = within-sound rule ruled.some ruled.window

  pub whole-size : g.size ≡ size (monitor_by g table)
  unfolding size table_size cap
  whole-size =
      let small = table_small table whole_table in
      measured.size ∙ ap₂ (λ (n k : ℕ). n * k) (by (table_size (monitor_at table)) small) (ap masks within-is)
    where
      by : (n : ℕ) → n ≤ size_limit → min n (size_limit + 1) ≡ n
      by n h = omega arith

  same-situations : (n : ℕ) → n < size (monitor_by g table) → situation_by g.shape n ≡ situation_of (monitor_by g table) n
  same-situations = same_situation fits (sane-under rule table recording sound) short

  -- the code's step from a number is the definition's
  same_step : (heard : Option ℕ) (n k : ℕ) → n < size (monitor_by g table)
      → step_at table (offsets_of table) g.shape heard n k
      ≡ option_map (number (monitor_by g table)) (step_by (monitor_by g table) (capped (monitor_by g table)) heard (situation_of (monitor_by g table) n) (move_of k))
  unfolding arrive_from
  same_step heard n k inside =
      let h : Shape = g.shape in
      let m : Monitor = monitor_by g table in
      let monitor : ruled_from h table (offsets_of table) ≡ m = ap₂ under within-is (monitor_from_lem table whole_table) in
      let writes : capped_by h ≡ capped m = fun_ext (same-capped fits) in
      let numbers : number_by h ≡ number m = fun_ext (same_number fits) in
      ap (λ (f : Situation → ℕ). option_map f (step_by (ruled_from h table (offsets_of table)) (capped_by h) heard (situation_by h n) (move_of k))) numbers
      ∙ ap (λ (x : Monitor). option_map (number m) (step_by x (capped_by h) heard (situation_by h n) (move_of k))) monitor
      ∙ ap (λ (w : List ℕ → List ℕ). option_map (number m) (step_by m w heard (situation_by h n) (move_of k))) writes
      ∙ ap (λ (x : Situation). option_map (number m) (step_by m (capped m) heard x (move_of k))) (same-situations n inside)

  -- the number of the first situation, by the shape
  first-number : number_by g.shape (first_by (capped_by g.shape)) ≡ first_number (monitor_by g table)
  first-number =
      same_number fits (first_by (capped_by g.shape))
      ∙ ap (λ (c : List ℕ). number (monitor_by g table) (record { state = 0; variables = 0; clocks = c; air = 0; window = 0 })) (same-capped fits (1 ∷ 1 ∷ []))

  pub setting : Setting table (offsets_of table) recording g
  unfolding step_number
  setting =
      record {
        sane = sane-under rule table recording sound;
        sound = sane_recording_under rule table recording sound;
        whole = whole-size;
        wide = omega (arith, measured.row);
        narrow = omega (arith, measured.row, whole-size, ruled.small);
        end = measured.last;
        start = measured.first ∙ first-number;
        described = monitor_from_lem table whole_table;
        counted = counted table whole_table;
        situations = λ n inside. same-situations n (subst (λ (x : ℕ). n < x) whole-size inside);
        stepping = λ t n k inside. same_step (recorded_at (packets_at recording) t) n k (subst (λ (x : ℕ). n < x) whole-size inside);
      }

  -- what an instant's sets are worked out with
  pub preparing : Preparing table (offsets_of table) g
  preparing =
      record {
        ready =
            record {
              sane = sane-under rule table recording sound;
              sourced = sourced-under rule table recording sound;
              fits = fits;
              described = ap₂ under within-is (monitor_from_lem table whole_table);
              counted = counted table whole_table;
              whole = whole-size;
              wide = omega (arith, measured.words);
              narrow = omega (arith, whole-size, ruled.small);
              few = omega (arith, fits.states, states-few table whole_table);
            };
        clocks = measured.clocks;
        short = guards-short table whole_table;
        few = omega (arith, measured.words, whole-size, ruled.small);
      }
