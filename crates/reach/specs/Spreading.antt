-- A set of states before and after transitions are tried.
use Rattle.std.specs.Prelude.{ℕ, ◌≡◌, ◌⊎◌, Bool, true, false, length}
use mathlib.Core.List.{List, Memᴰ}
use Rattle.model.specs.Monitor.{Monitor, Transition}
use Rattle.model.specs.Reach.{Reached}
use Rattle.bits.specs.Member.{mem}

-- a place for every number that fits a byte
abbrev pub state_bytes : ℕ
state_bytes = 32

-- one transition: its target is there if its source was, and nothing else comes. fresh: it is new
pub record Tried (source target : ℕ) (before after : List ℕ) (fresh : Bool) : Type 0 where
  pub size : length after ≡ length before
  pub kept : (s : ℕ) → mem before s ≡ true → mem after s ≡ true
  pub there : mem before source ≡ true → mem after target ≡ true
  pub only : (s : ℕ) → mem after s ≡ true → (mem before s ≡ true) ⊎ ((mem before source ≡ true) × (s ≡ target))
  pub still : fresh ≡ false → after ≡ before

-- every state in the set is reached
abbrev pub AllReached : Monitor → List ℕ → Type 0
AllReached m set = (s : ℕ) → mem set s ≡ true → Reached m s

-- some of the monitor's transitions in turn. grown: a state is new
pub record Spread (m : Monitor) (ts : List Transition) (before after : List ℕ) (grown : Bool) : Type 0 where
  pub size : length after ≡ length before
  pub kept : (s : ℕ) → mem before s ≡ true → mem after s ≡ true
  pub there : (t : Transition) → Memᴰ t ts → mem before t.source ≡ true → mem after t.target ≡ true
  pub only : AllReached m before → AllReached m after
  pub still : grown ≡ false → after ≡ before
