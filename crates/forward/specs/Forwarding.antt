-- The forward pass: the sets of possible situations, instant by instant, each in its row of the scratch.
use Rattle.std.specs.Prelude.{ℕ, ◌+◌, ◌*◌, ◌<◌, ◌≤◌, ◌≡◌, List, false, length}
use Rattle.model.specs.Monitor.{Monitor}
use Rattle.model.specs.Recording.{packets_at}
use Rattle.model.specs.Layers.{count}
use Rattle.model.specs.Validation.{possible_after, pairs_at, preferred, verdict}
use Rattle.model.specs.declared.Readiness.TheVariants.{NotYet, NoMore}
use Rattle.model.specs.declared.Verdict.TheVariants.{Accepted, Rejected, Exhausted}
use Rattle.bits.specs.Member.{mem}
use Rattle.situation.specs.Rows.{Cursor, passed_by}
use Rattle.images.specs.Buffers.{Sized}
use Rattle.memo.specs.Known.{Known}
use Rattle.measures.specs.Setting.{monitor_by, Setting, LayersUpTo}
use Rattle.measures.specs.Working.{Holds}
use Rattle.measures.specs.declared.Measures.{Measures}
use Rattle.forward.specs.declared.Outcome.{Outcome}
use Rattle.forward.specs.declared.Outcome.TheVariants.{Passed, Emptied, Spent}

-- the rows of the instants 0 to t are filled; i rows are recorded before instant t + 1
pub record Filled (m : Monitor) (recording scratch : List ℕ) (row t i : ℕ) : Type 0 where
  pub layers : LayersUpTo m recording scratch row t
  pub cursor : Cursor recording i (t + 1)

-- what one instant starts from
pub record Turn (table offsets recording scratch : List ℕ) (g : Measures) (t i : ℕ) : Type 0 where
  pub setting : Setting table offsets recording g
  pub long : g.row * (g.last + 1) ≤ length scratch
  pub more : t < g.last
  pub filled : Filled (monitor_by g table) recording scratch g.row t i

-- what it ends with: the next row is filled, and the work is how many situations it has
pub record Turned (m : Monitor) (recording scratch : List ℕ) (row t i work : ℕ) : Type 0 where
  pub filled : Filled m recording scratch row (t + 1) (passed_by recording i (t + 1))
  pub counted : work ≡ count (possible_after m (packets_at recording) (t + 1))

-- what goes from instant to instant beside the scratch: n words hold the set of instant t, the others have their lengths, and what the memo tells is so
pub record Carrying (m : Monitor) (recording : List ℕ) (n t : ℕ) (cur sets one two memo : List ℕ) : Type 0 where
  pub holds : Holds n cur (possible_after m (packets_at recording) t)
  pub sized : Sized n sets one two
  pub known : Known m n memo

-- what is known where none is left after instant t + 1: the rows of the instants 0 to t are filled, and i rows are recorded before instant t + 1
pub record Emptying (table offsets recording scratch : List ℕ) (g : Measures) (t i : ℕ) : Type 0 where
  pub setting : Setting table offsets recording g
  pub more : t < g.last
  pub layers : LayersUpTo (monitor_by g table) recording scratch g.row t
  pub cursor : Cursor recording i (t + 1)

-- the pass as it then ends
abbrev pub emptied_at : Monitor → (recording : List ℕ) → (cost t : ℕ) → Outcome
emptied_at m recording cost t =
    Emptied cost (t + 1) (pairs_at m (packets_at recording) NotYet (t + 1)) (pairs_at m (packets_at recording) NoMore (t + 1))

-- what the pass starts from
pub record Forwarding (table offsets recording scratch : List ℕ) (g : Measures) : Type 0 where
  pub setting : Setting table offsets recording g
  pub long : g.row * (g.last + 1) ≤ length scratch
  pub empty : (k : ℕ) → mem scratch k ≡ false

-- what it ends with, where a situation is left after the last instant
pub record Through (m : Monitor) (recording scratch : List ℕ) (budget row last cost : ℕ) : Type 0 where
  pub accepted : verdict m (packets_at recording) budget ≡ Accepted cost (length (preferred m (packets_at recording)))
  pub layers : LayersUpTo m recording scratch row last
  pub left : 0 < count (possible_after m (packets_at recording) last)

-- .. and in any case
abbrev pub Ended : Monitor → (recording scratch : List ℕ) → (budget row last : ℕ) → Outcome → Type 0
Ended m recording scratch budget row last (Passed cost) = Through m recording scratch budget row last cost
Ended m recording scratch budget row last (Emptied cost instant early late) =
    verdict m (packets_at recording) budget ≡ Rejected cost instant early late
Ended m recording scratch budget row last (Spent instant) = verdict m (packets_at recording) budget ≡ Exhausted budget instant
