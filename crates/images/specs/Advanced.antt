-- What an instant makes of a set of situations' numbers, where a table is sound.
use Rattle.std.specs.Prelude.{ℕ, ◌*◌, ◌<◌, ◌≤◌, ◌≡◌, List, false, ◌&&◌, length, Option}
use Rattle.model.specs.Monitor.{Monitor}
use Rattle.words.specs.Words.{mem}
use Rattle.situation.specs.declared.Shape.{Shape}
use Rattle.instants.specs.Forward.{forward}
use Rattle.instants.specs.Backward.{backward}
use Rattle.firings.specs.Ready.{Ready, Marked, Guarded}

-- what an instant goes by
pub record Given (m : Monitor) (table offsets : List ℕ) (h : Shape) (size n : ℕ) (marks planes : List ℕ) : Type 0 where
  pub ready : Ready m table offsets h size n
  pub marked : Marked m n marks
  pub long : 4 * n ≤ length marks
  pub guarded : Guarded m planes

-- a set has n words, and nothing from N on
pub record Within (size n : ℕ) (s : List ℕ) : Type 0 where
  pub words : length s ≡ n
  pub past : (i : ℕ) → size ≤ i → mem s i ≡ false

-- forward
abbrev pub AdvancedTo : Monitor → Option ℕ → (n : ℕ) → (before after : List ℕ) → Type 0
AdvancedTo m recorded n before after = (i : ℕ) → i < 64 * n → mem after i ≡ forward m recorded (mem before) i

-- back, of the numbers of a row
abbrev pub RetreatedTo : Monitor → Option ℕ → (n : ℕ) → (next before after : List ℕ) → Type 0
RetreatedTo m recorded n next before after = (i : ℕ) → i < 64 * n → mem after i ≡ (mem before i && backward m recorded (mem next) i)
