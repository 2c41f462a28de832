-- Demand 2: "What we write reads back to the same parts". "Parts are what the counts and guard lengths cover: whatever place there is beyond them is 0 after reading,
-- ignored in writing, and not compared in demand 2."
use Rattle.std.specs.Prelude.{ℕ, ◌+◌, ◌*◌, ◌<◌, ◌≤◌, ◌≡◌, List}
use Rattle.model.specs.Limits.{guard_limit}
use Rattle.model.specs.Bytes.{byte_at}
use Rattle.model.specs.declared.TableParts.{TableParts}
use Rattle.model.specs.declared.RecordingParts.{RecordingParts}
use Rattle.model.specs.declared.WitnessParts.{WitnessParts}

-- two columns agree on their first n places
abbrev pub Agree : ℕ → List ℕ → List ℕ → Type 0
Agree n a c = (i : ℕ) → i < n → byte_at a i ≡ byte_at c i

-- a column is 0 from place n on
abbrev pub Zero : ℕ → List ℕ → Type 0
Zero n c = (i : ℕ) → n ≤ i → byte_at c i ≡ 0

-- two tables' parts agree where counts and guard lengths reach
pub record SameTable (t u : TableParts) : Type 0 where
  pub version : t.version ≡ u.version
  pub states : t.states ≡ u.states
  pub variables : t.variables ≡ u.variables
  pub clocks : t.clocks ≡ u.clocks
  pub kinds : t.kinds ≡ u.kinds
  pub transitions : t.transitions ≡ u.transitions
  pub directions : Agree u.kinds t.directions u.directions
  pub airtimes : Agree u.kinds t.airtimes u.airtimes
  pub devices : Agree u.kinds t.devices u.devices
  pub sources : Agree u.transitions t.sources u.sources
  pub targets : Agree u.transitions t.targets u.targets
  pub triggers : Agree u.transitions t.triggers u.triggers
  pub sets : Agree u.transitions t.sets u.sets
  pub clears : Agree u.transitions t.clears u.clears
  pub resets : Agree u.transitions t.resets u.resets
  pub lengths : Agree u.transitions t.lengths u.lengths
  pub guards : (j : ℕ) → j < u.transitions → (i : ℕ) → i < byte_at u.lengths j → byte_at t.guards (guard_limit * j + i) ≡ byte_at u.guards (guard_limit * j + i)

-- a table's parts are 0 beyond its counts and guard lengths
pub record TableZero (t : TableParts) : Type 0 where
  pub directions : Zero t.kinds t.directions
  pub airtimes : Zero t.kinds t.airtimes
  pub devices : Zero t.kinds t.devices
  pub sources : Zero t.transitions t.sources
  pub targets : Zero t.transitions t.targets
  pub triggers : Zero t.transitions t.triggers
  pub sets : Zero t.transitions t.sets
  pub clears : Zero t.transitions t.clears
  pub resets : Zero t.transitions t.resets
  pub lengths : Zero t.transitions t.lengths
  pub guards : (j : ℕ) → j < t.transitions → (i : ℕ) → byte_at t.lengths j ≤ i → i < guard_limit → byte_at t.guards (guard_limit * j + i) ≡ 0
  pub no_guards : Zero (guard_limit * t.transitions) t.guards

pub record SameRecording (r s : RecordingParts) : Type 0 where
  pub count : r.count ≡ s.count
  pub times : Agree s.count r.times s.times
  pub kinds : Agree s.count r.kinds s.kinds

pub record RecordingZero (r : RecordingParts) : Type 0 where
  pub times : Zero r.count r.times
  pub kinds : Zero r.count r.kinds

pub record SameWitness (w v : WitnessParts) : Type 0 where
  pub count : w.count ≡ v.count
  pub marks : Agree v.count w.marks v.marks
  pub times : Agree v.count w.times v.times
  pub kinds : Agree v.count w.kinds v.kinds
  pub transitions : Agree v.count w.transitions v.transitions

pub record WitnessZero (w : WitnessParts) : Type 0 where
  pub marks : Zero w.count w.marks
  pub times : Zero w.count w.times
  pub kinds : Zero w.count w.kinds
  pub transitions : Zero w.count w.transitions
