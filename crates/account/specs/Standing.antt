-- What the code's small state stands for among the model's rows and progress.
use Rattle.std.specs.Prelude.{ℕ, ◌<◌, ◌≤◌, ◌≡◌, List, length, get_or, drop, Option, Some, None, IfSome}
use Rattle.std.specs.Option.{option_map}
use Rattle.model.specs.Trace.{Packet}
use Rattle.model.specs.Monitor.{Monitor}
use Rattle.model.specs.Witness.{Row, bad_row}
use Rattle.model.specs.Rules.{Progress, begin, broken, checked}
use Rattle.model.specs.declared.Edition.{Edition}
use Rattle.model.specs.First.{Checking}
use Rattle.witness.specs.declared.Entry.{Entry}
use Rattle.witness.specs.Rows.{before_of}
use Rattle.row_tests.specs.Under.{ruled_from}
use Rattle.account.specs.declared.Against.{Against}
use Rattle.account.specs.declared.Standing.{Standing}

-- the monitor that rows are tested against
abbrev pub judged : Against → Monitor
judged a = ruled_from a.rule a.table.now a.offsets.now

-- the recorded packets from the next one on are not accounted for
abbrev pub progress_of : List Packet → Standing → Progress
progress_of recording s =
    record {
      before = before_of s.before;
      left = drop s.next recording;
      now = s.now;
      config = s.config;
      free = s.free;
      window = s.window;
    }

-- the time of the row before, 0 where there is none
abbrev pub last_of : Option Entry → ℕ
last_of None = 0
last_of (Some e) = e.time

-- the clocks read at most the ticks until the monitor last fired, which was no later than the row before
pub record Bounded (s : Standing) : Type 0 where
  pub fired : s.now ≤ last_of s.before
  pub clocks : length s.config.clocks ≡ 2
  pub first : get_or s.config.clocks 0 0 ≤ s.now
  pub second : get_or s.config.clocks 1 0 ≤ s.now

-- a row that is in place behind a state in its bounds
pub record Ready (s : Standing) (e : Entry) : Type 0 where
  pub bounded : Bounded s
  pub behind : last_of s.before < e.time

-- a step is the model's, and leaves the state in its bounds
pub record Stepped (recording : List Packet) (next : Option Progress) (s : Option Standing) : Type 0 where
  pub is : option_map (progress_of recording) s ≡ next
  pub bounded : IfSome s Bounded

-- the answer by the rows alone
unfoldable pub checked_rows : Edition → Monitor → List Packet → List Row → Checking
checked_rows edition m recording rows = checked (bad_row (broken edition m (begin recording) 0 rows)) rows
