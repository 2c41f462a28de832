-- What a sound table ensures of its monitor, 25 of the rule, and a sound recording of its packets.
use Rattle.std.specs.Prelude.{ℕ, ◌<◌, ◌≤◌, ◌≡◌, List, length, Some, slice_get}
use Rattle.model.specs.Limits.{clock_limit, transition_limit, row_limit, time_limit}
use Rattle.model.specs.Guard.{Guard, always, at_most, at_least, variable, negation, conjunction}
use Rattle.model.specs.Monitor.{Monitor, Transition}
use Rattle.model.specs.Trace.{Packet, PacketTrace}
use Rattle.model.specs.Recording.{end_of}

-- a guard names no absent clock or variable
abbrev pub Closed : Monitor → Guard → Type 0
Closed m always = Unit {0}
Closed m (at_most c t) = c < m.clocks
Closed m (at_least c t) = c < m.clocks
Closed m (variable x) = x < m.variables
Closed m (negation g) = Closed m g
Closed m (conjunction g h) = Closed m g × Closed m h

pub record SaneTransition (m : Monitor) (t : Transition) : Type 0 where
  pub target : t.target < m.states
  pub trigger : t.trigger < length m.airtimes
  pub closed : Closed m t.guard

pub record Sane (m : Monitor) : Type 0 where
  pub states : 0 < m.states
  pub clocks : m.clocks ≤ clock_limit
  pub few : length m.transitions ≤ transition_limit
  pub transition : (j : ℕ) (t : Transition) → slice_get m.transitions j ≡ Some t → SaneTransition m t
  pub window : 1 ≤ m.rule.window

pub record SaneRecording (m : Monitor) (recording : List Packet) : Type 0 where
  pub trace : PacketTrace m recording
  pub few : length recording ≤ row_limit
  pub last : end_of recording ≤ time_limit
