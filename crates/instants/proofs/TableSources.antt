-- The transitions of a sound table start in its states.
use Prim.Native.Nat.{ℕ, ◌+◌, ◌<◌}
use native.Mathlib.Nat.{add-zero}
use mathlib.Core.Path.{◌≡◌, sym, subst, ◌∙◌}
use mathlib.Core.List.{List}
use Rattle.std.specs.Prelude.{Some}
use lib.ListN.{length}
use Rattle.model.specs.Limits.{transition_limit}
use Rattle.model.specs.Bytes.{byte_at, tab}
use Rattle.model.specs.Monitor.{Transition}
use Rattle.model.specs.Table.{transition_in, monitor_of, transitions_at, transition_at, device_column, table_parts, SoundTable, monitor_at}
use Rattle.model.specs.Ruled.{monitor_under, SoundUnder}
use Rattle.model.specs.declared.Rule.{Rule}
use Rattle.model.proofs.Basics.{length-tab, get_elem_tab}
use Rattle.std.proofs.lemmas.Option.{slice_get_within}
use Rattle.model.proofs.Places.{get_or_column}
use Rattle.model.proofs.TableForm.{TableFacts, table_facts}
use Rattle.model.proofs.RecordingForm.{sound_table}
use Rattle.model.proofs.RuledForm.{recording_sound}
use Rattle.instants.specs.Sourced.{Sourced}

source-below : (b : List ℕ) → TableFacts (device_column b) b → (j : ℕ) → j < transitions_at b → (transition_in (table_parts b) j).source < (monitor_at b).states
unfolding transition_in monitor_of table_parts
source-below b facts j h = rw (get_or_column transition_limit (λ i. byte_at b (transition_at b i + 0)) (transitions_at b) j h, add-zero) (facts.transition j h).source

pub sourced_table : (b : List ℕ) → SoundTable b → Sourced (monitor_at b)
unfolding monitor_of table_parts
sourced_table b s j t e =
    let n : length (tab (transition_in (table_parts b)) (transitions_at b)) ≡ transitions_at b = length-tab (transition_in (table_parts b)) (transitions_at b) in
    let h : j < transitions_at b = rw n at (slice_get_within (tab (transition_in (table_parts b)) (transitions_at b)) j t e) in
    let f : Some (transition_in (table_parts b) j) ≡ Some t = sym (get_elem_tab (transition_in (table_parts b)) (transitions_at b) j h) ∙ e in
    let same : transition_in (table_parts b) j ≡ t = cc in
    subst (λ (x : Transition). x.source < (monitor_at b).states) same (source-below b (table_facts b s) j h)

-- .. under any rule
pub sourced-under : (rule : Rule) (table recording : List ℕ) → SoundUnder rule table recording → Sourced (monitor_under rule table)
sourced-under rule table recording sound = sourced_table table (sound_table table recording (recording_sound rule table recording sound))
