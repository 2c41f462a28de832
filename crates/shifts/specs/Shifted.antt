-- A set moved by k: what is moved stays out where cut has it, and what keep has stays in.
use Rattle.std.specs.Prelude.{ℕ, ◌+◌, ◌-◌, ◌/◌, ◌<◌, ◌≤◌, ◌≡◌, List, Bool, true, not, ◌&&◌, ◌||◌, leb}
use Rattle.words.specs.Words.{mem, up}

-- A way to move: to i comes, moved by k, what stands at `place k i`, if such a place is there.
pub record Moves : Type 0 where
  pub there : ℕ → ℕ → Bool
  pub place : ℕ → ℕ → ℕ

abbrev pub moved : Moves → ℕ → (ℕ → Bool) → ℕ → Bool
moved m k p i = m.there k i && p (m.place k i)

abbrev pub upward : Moves
upward = record { there = leb; place = λ k i. i - k }

abbrev pub downward : Moves
downward = record { there = λ k i. true; place = λ k i. i + k }

-- Word w is one of n words, and what comes to it, moved by k, is from these alone.
pub record IsInner (m : Moves) (n k w : ℕ) : Type 0 where
  pub within : w < n
  pub comes : (by : ℕ) → by ≤ k / 64 + 1 → (m.there by w ≡ true) × (m.place by w < n)

abbrev pub cut_and_kept : (ℕ → Bool) → List ℕ → List ℕ → List ℕ → ℕ → Bool
cut_and_kept p src keep cut i = (p i && not (mem cut i)) || (mem src i && mem keep i)

unfoldable pub shifted : List ℕ → ℕ → List ℕ → List ℕ → ℕ → Bool
shifted src k keep cut = cut_and_kept (up k (mem src)) src keep cut

unfoldable pub shifted_down : List ℕ → ℕ → List ℕ → List ℕ → ℕ → Bool
shifted_down src k keep cut = cut_and_kept (moved downward k (mem src)) src keep cut
