-- The customer's demands 2 and 3, in the paper's words.
use Rattle.std.specs.Prelude.{ℕ, ◌+◌, ◌*◌, ◌-◌, ◌<◌, ◌≤◌, ◌≡◌, ◌↔◌, Bool, true, cond, length, take, eqb, Option, Some}
use mathlib.Core.List.{List, [], ◌∷◌, Memᴰ}
use Rattle.model.specs.Rule.{KeepsRule}
use Rattle.model.specs.Monitor.{Monitor, Config, start, wait, fires, to_unit}
use Rattle.model.specs.Trace.{Packet, PacketTrace, Possible, PossibleUnder}
use Rattle.model.specs.Size.{size}
use Rattle.model.specs.Situation.{Move, capped, first_by, step_by, InRange, number, situation_of}
use Rattle.model.specs.Recording.{end_of}
use Rattle.model.specs.Witness.{Row, added, removed, is_removed}
use Rattle.model.specs.Rules.{guessed}
use Rattle.model.specs.Order.{Preferred}
use Rattle.model.specs.Layers.{count}
use Rattle.model.specs.Validation.{cost_of, total_of, possible_after, preferred}
use Rattle.model.specs.CountedPairs.{Pair, Counted}
use Rattle.model.specs.declared.Edition.{Edition}
use Rattle.model.specs.declared.Readiness.TheVariants.{NotYet, NoMore}
use Rattle.model.specs.declared.Situation.{Situation}
use Rattle.model.specs.declared.Verdict.{Verdict}
use Rattle.model.specs.declared.Verdict.TheVariants.{Accepted, Rejected, Exhausted}

-- Demand 2

abbrev pub packet_of : Row → Packet
packet_of r = record { time = r.time; kind = r.kind }

-- the kept and removed rows, as packets
unfoldable pub heard : List Row → List Packet
heard [] = []
heard (r ∷ rs) = cond (eqb r.mark added) (heard rs) (packet_of r ∷ heard rs)

-- the kept and added rows
unfoldable pub sent_rows : List Row → List Row
sent_rows [] = []
sent_rows (r ∷ rs) = cond (is_removed r) (sent_rows rs) (r ∷ sent_rows rs)

unfoldable pub packets : List Row → List Packet
packets [] = []
packets (r ∷ rs) = packet_of r ∷ packets rs

-- the transitions that the rows name carry the monitor, which is at c at the tick now, along them
abbrev pub CarriedBy : Monitor → ℕ → Config → List Row → Type 0
CarriedBy m now c [] = Unit {0}
CarriedBy m now c (r ∷ rs) =
    (d : Config) × (fires m r.transition r.kind (wait (r.time - now) c) ≡ Some d) × CarriedBy m r.time d rs

-- "its rows account for the whole recording, every removed row was to the unit", all rows, kept, removed and added together, are a packet trace (R-3), "and the
-- named transitions carry the monitor along" the kept and added ones
pub record Explains (m : Monitor) (recording : List Packet) (rows : List Row) : Type 0 where
  pub accounts : heard rows ≡ recording
  pub inbound : (r : Row) → Memᴰ r rows → r.mark ≡ removed → to_unit m r.kind ≡ true
  pub spaced : PacketTrace m (packets rows)
  pub carried : CarriedBy m 0 start (sent_rows rows)

-- of each kept or added row, is it a guess (document 02, R-7)?
unfoldable pub guesses : Monitor → List Row → List Bool
guesses m [] = []
guesses m (r ∷ rs) = guessed m r ∷ guesses m rs

-- under the monitor's rule, besides, the kept and added rows keep it
pub record ExplainsUnder (m : Monitor) (recording : List Packet) (rows : List Row) : Type 0 where
  pub explains : Explains m recording rows
  pub keeps : KeepsRule m.rule (guesses m (sent_rows rows))

-- "a witness row that first breaks it": the kept and added rows before row i keep the rule, and with row i they do not
pub record FirstBreaks (m : Monitor) (rows : List Row) (i : ℕ) : Type 0 where
  pub before : KeepsRule m.rule (guesses m (sent_rows (take i rows)))
  pub here : KeepsRule m.rule (guesses m (sent_rows (take (i + 1) rows))) → ⊥

-- Demand 3

abbrev pub IsAccepted : Verdict → Type 0
IsAccepted (Accepted cost rows) = Unit {0}
IsAccepted (Rejected cost instant not_yet no_more) = ⊥
IsAccepted (Exhausted budget instant) = ⊥

abbrev pub IsRejected : Verdict → Type 0
IsRejected (Accepted cost rows) = ⊥
IsRejected (Rejected cost instant not_yet no_more) = Unit {0}
IsRejected (Exhausted budget instant) = ⊥

abbrev pub IsExhausted : Verdict → Type 0
IsExhausted (Accepted cost rows) = ⊥
IsExhausted (Rejected cost instant not_yet no_more) = ⊥
IsExhausted (Exhausted budget instant) = Unit {0}

-- "instant with none left": the first after whose moves no situation is left
pub record FirstEmpty (m : Monitor) (recording : List Packet) (instant : ℕ) : Type 0 where
  pub within : instant ≤ end_of recording
  pub empty : count (possible_after m recording instant) ≡ 0
  pub before : (t : ℕ) → t < instant → 0 < count (possible_after m recording t)

-- "first instant whose running total passes it"
pub record FirstPast (m : Monitor) (recording : List Packet) (budget instant : ℕ) : Type 0 where
  pub within : instant ≤ end_of recording
  pub past : budget < total_of m recording instant
  pub before : (t : ℕ) → t < instant → total_of m recording t ≤ budget

-- the values of a verdict, and the two counts of a rejection
abbrev pub ValuesOf : Monitor → List Packet → ℕ → Verdict → Type 0
ValuesOf m recording budget (Accepted cost rows) = (cost ≡ cost_of m recording) × (rows ≡ length (preferred m recording))
ValuesOf m recording budget (Rejected cost instant not_yet no_more) =
    (cost ≡ cost_of m recording) × FirstEmpty m recording instant × Counted (Pair m recording instant NotYet) not_yet × Counted (Pair m recording instant NoMore) no_more
ValuesOf m recording budget (Exhausted limit instant) = (limit ≡ budget) × FirstPast m recording budget instant

-- "The work of an instant is the number of distinct situations": a situation of the table and its number, which is below N, determine each other, and each
-- possible situation is one of the table. So counting numbers counts situations
pub record Numbered (m : Monitor) : Type 0 where
  pub below : (s : Situation) → InRange m s → number m s < size m
  pub back : (s : Situation) → InRange m s → situation_of m (number m s) ≡ s
  pub forth : (n : ℕ) → n < size m → (number m (situation_of m n) ≡ n) × InRange m (situation_of m n)
  pub first : InRange m (first_by (capped m))
  pub step : (recorded : Option ℕ) (a : Move) (s x : Situation) → InRange m s → step_by m (capped m) recorded s a ≡ Some x → InRange m x

-- "exhausted exactly when the cost is above the budget; within budget accepted exactly when some mutation trace of any length, at any positive times, satisfies the
-- monitor, else rejected; [..] the preferred witness is permitted, has no row after the last recorded time, and comes before every other such one. A budget of T
-- times N always suffices". Explainable: that there is such a mutation trace
pub record JudgedBy (explainable : Type 0) (edition : Edition) (m : Monitor) (recording : List Packet) (budget : ℕ) (v : Verdict) : Type 0 where
  pub exhausted : IsExhausted v ↔ (budget < cost_of m recording)
  pub accepted : cost_of m recording ≤ budget → IsAccepted v ↔ explainable
  pub rejected : cost_of m recording ≤ budget → IsRejected v ↔ (explainable → ⊥)
  pub valued : ValuesOf m recording budget v
  pub witnessed : IsAccepted v → Preferred edition m recording (preferred m recording)
  pub short : length (preferred m recording) ≤ end_of recording
  pub bounded : cost_of m recording ≤ end_of recording * size m
  pub distinct : Numbered m

abbrev pub Judged : Edition → Monitor → List Packet → (budget : ℕ) → Verdict → Type 0
Judged edition m recording = JudgedBy (Possible m recording) edition m recording

-- under the monitor's rule, of mutation traces that keep it
abbrev pub JudgedUnder : Edition → Monitor → List Packet → (budget : ℕ) → Verdict → Type 0
JudgedUnder edition m recording = JudgedBy (PossibleUnder m recording) edition m recording
