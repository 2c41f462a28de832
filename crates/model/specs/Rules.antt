-- The witness, of either edition, against a table and a recording: the rules for its rows, the checker's answer, and which witnesses are permitted.
use Rattle.std.specs.Prelude.{ℕ, suc, ◌+◌, ◌-◌, ◌≤◌, ◌≡◌, List, [], ◌∷◌, Bool, true, false, cond, not, ◌&&◌, length, leb, eqb, Option, Some, None, Ok, Err}
use Rattle.std.specs.Option.{option_map}
use Rattle.model.specs.Edition.{most_rows}
use Rattle.model.specs.First.{first_of, Reading, Checking}
use Rattle.model.specs.Rule.{Rule, window_behind}
use Rattle.model.specs.Monitor.{Monitor, Config, start, wait, fires, to_unit, airtime, is_guess, within_rule}
use Rattle.model.specs.Trace.{Packet}
use Rattle.model.specs.Table.{monitor_at}
use Rattle.model.specs.Recording.{recording_answer, packets_at}
use Rattle.model.specs.Ruled.{monitor_under, ruled_answer}
use Rattle.model.specs.Witness.{Row, kept, added, is_removed, in_place, rows_at, bad_row, witness_frame}
use Rattle.model.specs.declared.Edition.{Edition}

-- what the rows so far have come to
pub record Progress : Type 0 where
  -- the last row
  pub before : Option Row
  -- the recorded rows that are not accounted for, their times rising
  pub left : List Packet
  -- when the monitor last fired, and where it was then
  pub now : ℕ
  pub config : Config
  -- the first time at which the air is free
  pub free : ℕ
  -- which of the last l-1 kept or added rows are guesses, as in a situation
  pub window : ℕ

abbrev pub begin : List Packet → Progress
begin recording = record { before = None; left = recording; now = 0; config = start; free = 0; window = 0 }

-- "no recorded row of an earlier time is still unaccounted for"
abbrev pub none_before : List Packet → ℕ → Bool
none_before [] t = true
none_before (p ∷ ps) t = leb t p.time

-- "a kept or removed row equals the next unaccounted one"
abbrev pub is_next : List Packet → Row → Bool
is_next [] r = false
is_next (p ∷ ps) r = eqb p.time r.time && eqb p.kind r.kind

-- "an added row does not have the time of an unaccounted one"
abbrev pub none_at : List Packet → ℕ → Bool
none_at [] t = true
none_at (p ∷ ps) t = not (eqb p.time t)

abbrev pub others : List Packet → List Packet
others [] = []
others (p ∷ ps) = ps

-- behind a row, which takes the air for its airtime
abbrev pub behind_row : Monitor → Row → List Packet → (now window : ℕ) → Config → Progress
behind_row m r left now window config =
    record { before = Some r; left = left; now = now; config = config; free = r.time + airtime m r.kind + 1; window = window }

-- the row is a guess: an added row from the rule's device
abbrev pub guessed : Monitor → Row → Bool
guessed m r = eqb r.mark added && is_guess m r.kind

-- of a kept or added row, "its transition has its kind and fires", and with it the rule is kept (R-7)
unfoldable pub sends : Monitor → Progress → Row → List Packet → Option Progress
sends m p r left =
    option_map (behind_row m r left r.time (window_behind m.rule p.window (guessed m r)))
    (within_rule m p.window (guessed m r) (fires m r.transition r.kind (wait (r.time - p.now) p.config)))

-- "a removed row is to the unit". The monitor stays where it was, and so does the window
unfoldable pub removes : Monitor → Progress → Row → Option Progress
removes m p r =
    cond (is_next p.left r && to_unit m r.kind) (Some (behind_row m r (others p.left) p.now p.window p.config)) None

unfoldable pub keeps : Monitor → Progress → Row → Option Progress
keeps m p r = cond (is_next p.left r) (sends m p r (others p.left)) None

unfoldable pub adds : Monitor → Progress → Row → Option Progress
adds m p r = cond (none_at p.left r.time) (sends m p r p.left) None

-- the next row: its form; it "finds the air free", a removed row too (R-3); and the rule for its mark. None where a rule is broken
unfoldable pub account : Edition → Monitor → Progress → Row → Option Progress
account edition m p r =
    cond (in_place edition p.before r && none_before p.left r.time && leb p.free r.time)
    (cond (eqb r.mark kept) (keeps m p r) (cond (is_removed r) (removes m p r) (adds m p r)))
    None

-- "first witness row that breaks a rule above; none does, but recorded rows are unaccounted for at the end": the row's number; the row count
unfoldable pub broken : Edition → Monitor → Progress → ℕ → List Row → Option ℕ
broken edition m p i [] = elim p.left [ [] ↦ None | q ∷ qs ↦ Some i ]
broken edition m p i (r ∷ rs) = elim (account edition m p r) [ None ↦ Some i | Some q ↦ broken edition m q (suc i) rs ]

-- "A witness is permitted if, against the table and the recording, none of 40 to 43 applies"
pub record Permits (edition : Edition) (m : Monitor) (recording : List Packet) (rows : List Row) : Type 0 where
  pub fits : length rows ≤ most_rows edition
  pub unbroken : broken edition m (begin recording) 0 rows ≡ None

-- the checker's answer: 40 to 43 behind the numbers that come first

unfoldable pub changes : List Row → ℕ
changes [] = 0
changes (r ∷ rs) = cond (eqb r.mark kept) 0 1 + changes rs

-- given: the answer on table and recording, and on the rule where there is one; m: the monitor that is judged
unfoldable pub check_refusal : (given : Reading) → Edition → Monitor → (recording witness : List ℕ) → Reading
check_refusal given edition m recording witness =
    first_of
    (given
    ∷ witness_frame edition witness
    ∷ bad_row (broken edition m (begin (packets_at recording)) 0 (rows_at edition witness))
    ∷ [])

-- "on acceptance answers 0 with the number of removed and added rows, and the number of rows"
abbrev pub checked : Reading → List Row → Checking
checked (Ok _) rows = Ok (record { changed = changes rows; rows = length rows })
checked (Err r) rows = Err r

-- table, recording, then 40 to 43
unfoldable pub check_answer : Edition → (table recording witness : List ℕ) → Checking
check_answer edition table recording witness =
    checked (check_refusal (recording_answer table recording) edition (monitor_at table) recording witness) (rows_at edition witness)

-- under a rule (R-7): table, recording, 25, 26, then 40 to 43
unfoldable pub check_answer_under : Rule → Edition → (table recording witness : List ℕ) → Checking
check_answer_under rule edition table recording witness =
    checked (check_refusal (ruled_answer rule table recording) edition (monitor_under rule table) recording witness) (rows_at edition witness)
