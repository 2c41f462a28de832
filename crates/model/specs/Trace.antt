-- Packet traces (Definition 1), the traces that the monitor satisfies (Definition 2), mutation traces (Definition 4), and what was on the air (document 02, R-3).
use Rattle.std.specs.Prelude.{ℕ, ◌-◌, ◌≤◌, ◌<◌, ◌≡◌, ◌↔◌, ◌⊎◌, Bool, true, false, not, ◌&&◌, ◌||◌, eqb, Some}
use mathlib.Core.List.{List, [], ◌∷◌, Memᴰ}
use Rattle.model.specs.Rule.{KeepsRule}
use Rattle.model.specs.Monitor.{Monitor, Config, start, wait, fires, to_unit, airtime, is_guess}

pub record Packet : Type 0 where
  pub time : ℕ
  pub kind : ℕ

-- "each next time minus the one before is greater than the airtime of the packet before". "The last packet has no such condition"
abbrev pub Spaced : Monitor → Packet → List Packet → Type 0
Spaced m p [] = Unit {0}
Spaced m p (q ∷ r) = (airtime m p.kind < q.time - p.time) × Spaced m q r

-- Definition 1: "a list of (time, kind) with times from 1 up"
abbrev pub PacketTrace : Monitor → List Packet → Type 0
PacketTrace m [] = Unit {0}
PacketTrace m (p ∷ r) = (1 ≤ p.time) × Spaced m p r

-- some choice of transitions carries the monitor, which is at c at the tick now, along all of a trace: "there are no final states, and several transitions may fit"
abbrev pub Carries : Monitor → ℕ → Config → List Packet → Type 0
Carries m now c [] = Unit {0}
Carries m now c (p ∷ r) =
    (j : ℕ) × (d : Config) × (fires m j p.kind (wait (p.time - now) c) ≡ Some d) × Carries m p.time d r

-- "The monitor satisfies a trace if some choice of transitions carries it along all of it"
abbrev pub Satisfies : Monitor → List Packet → Type 0
Satisfies m tr = Carries m 0 start tr

-- Definition 4: for all (t, p) ∈ Tr \ Tr', p.dest = the unit
abbrev pub Mutation : Monitor → List Packet → List Packet → Type 0
Mutation m recording tr = (p : Packet) → Memᴰ p recording → (Memᴰ p tr → ⊥) → to_unit m p.kind ≡ true

-- "The sniffer heard a removed packet, so the channel was taken": the entries of the recording and of the trace together are those of one packet trace. "Two
-- entries of the same time and kind are the same entry"
pub record Together (m : Monitor) (recording tr : List Packet) : Type 0 where
  pub all : List Packet
  pub spaced : PacketTrace m all
  pub entries : (p : Packet) → Memᴰ p all ↔ (Memᴰ p recording ⊎ Memᴰ p tr)

-- some packet trace, of any length and at any positive times, is a mutation of the recording, is a packet trace together with it, and satisfies the monitor
pub record Possible (m : Monitor) (recording : List Packet) : Type 0 where
  pub trace : List Packet
  pub spaced : PacketTrace m trace
  pub mutation : Mutation m recording trace
  pub together : Together m recording trace
  pub satisfied : Satisfies m trace

-- "Two entries of the same time and kind are the same entry"
unfoldable pub is_recorded : List Packet → Packet → Bool
is_recorded [] p = false
is_recorded (q ∷ qs) p = (eqb q.time p.time && eqb q.kind p.kind) || is_recorded qs p

-- of each entry of a mutation trace, is it a guess (document 02, R-7)? An entry is added exactly if it is not recorded
unfoldable pub guesses_in : Monitor → (recording trace : List Packet) → List Bool
guesses_in m recording [] = []
guesses_in m recording (p ∷ ps) = (not (is_recorded recording p) && is_guess m p.kind) ∷ guesses_in m recording ps

-- "demands 2 and 3 speak of mutation traces that keep the rule"
pub record PossibleUnder (m : Monitor) (recording : List Packet) : Type 0 where
  pub possible : Possible m recording
  pub keeps : KeepsRule m.rule (guesses_in m recording possible.trace)
