-- Of a sound table, the monitor read straight from its bytes is the monitor that the table describes; of any, the airtimes are its airtimes.
use Prim.Native.Nat.{ℕ, ◌+◌, ◌<◌, ◌≤◌, min}
use native.Mathlib.Omega.{arith}
use mathlib.Core.Path.{◌≡◌, sym, ap, ◌∙◌}
use mathlib.Core.List.{List}
use lib.ListN.{get_or}
use lib.Dec.{eqb}
use Rattle.model.specs.Limits.{kind_limit, transition_limit}
use Rattle.model.specs.Bytes.{byte_at, tab, padded}
use Rattle.model.specs.Monitor.{airtime}
use Rattle.model.specs.Kinds.{version_at, kind_at, device_at}
use Rattle.model.specs.Rule.{no_rule}
use Rattle.model.specs.Table.{guard_in, transition_in, monitor_of, kinds_at, transitions_at, transition_at, table_parts, SoundTable, monitor_at}
use Rattle.model.proofs.Places.{get_or_column, tab-same}
use Rattle.model.proofs.TableForm.{TableFacts, table_facts, guard-again}
use Rattle.monitor.specs.From.{guard_from, transition_from, monitor_from, offsets_of}

-- the columns of the kinds, of any table
module _ (b : List ℕ) where
  column_of : (f : ℕ → ℕ) (k : ℕ) → k < kinds_at b → f k ≡ byte_at (padded kind_limit (tab f (kinds_at b))) k
  column_of f k h = sym (get_or_column kind_limit f (kinds_at b) k h)

  same_column : (f : ℕ → ℕ) → tab f (kinds_at b) ≡ tab (λ k. byte_at (padded kind_limit (tab f (kinds_at b))) k) (kinds_at b)
  same_column f = tab-same f (λ k. byte_at (padded kind_limit (tab f (kinds_at b))) k) (kinds_at b) (column_of f)

  pub airtime-from : (offsets : List ℕ) (k : ℕ) → airtime (monitor_from b offsets) k ≡ airtime (monitor_at b) k
  unfolding monitor_from monitor_of table_parts
  airtime-from offsets k = ap (λ (l : List ℕ). get_or l k 0) (same_column (λ i. byte_at b (kind_at (version_at b) i + 1)))

module _ {devices : List ℕ} (b : List ℕ) (facts : TableFacts devices b) where
  few : transitions_at b ≤ transition_limit
  few = facts.counts.transitions

  offset : (j : ℕ) → j < transitions_at b → get_or (offsets_of b) j 0 ≡ transition_at b j
  unfolding offsets_of
  offset j h = get_or_column transition_limit (transition_at b) (min (transitions_at b) transition_limit) j (omega (arith, few))

  column : (field j : ℕ) → j < transitions_at b
      → byte_at b (transition_at b j + field) ≡ byte_at (padded transition_limit (tab (λ i. byte_at b (transition_at b i + field)) (transitions_at b))) j
  column field j h = sym (get_or_column transition_limit (λ i. byte_at b (transition_at b i + field)) (transitions_at b) j h)

  same : (j : ℕ) → j < transitions_at b → transition_from b (transition_at b j) ≡ transition_in (table_parts b) j
  unfolding transition_from transition_in table_parts guard_from
  same j h =
      let source : byte_at b (transition_at b j) ≡ byte_at (padded transition_limit (tab (λ i. byte_at b (transition_at b i + 0)) (transitions_at b))) j =
      ap (byte_at b) (omega arith) ∙ column 0 j h in
      let guard : guard_from b (transition_at b j) ≡ guard_in (table_parts b) j = sym (guard-again b facts j h) in
      λ i.
      record {
        source = source i;
        target = column 1 j h i;
        trigger = column 2 j h i;
        sets = column 3 j h i;
        clears = column 4 j h i;
        resets = column 5 j h i;
        guard = guard i;
      }

  described : monitor_from b (offsets_of b) ≡ monitor_at b
  unfolding monitor_from monitor_of table_parts
  described =
      let inbound = tab-same (λ k. eqb (byte_at b (kind_at (version_at b) k)) 1) (λ k. eqb (byte_at (table_parts b).directions k) 1) (kinds_at b)
      (λ k h. ap (λ (x : ℕ). eqb x 1) (ap (byte_at b) (omega arith) ∙ column_of b (λ i. byte_at b (kind_at (version_at b) i + 0)) k h)) in
      let transitions = tab-same (λ j. transition_from b (get_or (offsets_of b) j 0)) (transition_in (table_parts b)) (transitions_at b)
      (λ j h. ap (transition_from b) (offset j h) ∙ same j h) in
      λ i.
      record {
        states = byte_at b 3;
        variables = byte_at b 4;
        clocks = byte_at b 5;
        inbound = inbound i;
        airtimes = same_column b (λ k. byte_at b (kind_at (version_at b) k + 1)) i;
        devices = same_column b (λ k. device_at b (kind_at (version_at b) k)) i;
        transitions = transitions i;
        rule = no_rule;
      }

pub monitor_from_lem : (b : List ℕ) → SoundTable b → monitor_from b (offsets_of b) ≡ monitor_at b
monitor_from_lem b s = described b (table_facts b s)
