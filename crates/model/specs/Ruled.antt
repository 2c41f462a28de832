-- A table and a recording under a rule (document 02, R-7): the monitor that is judged, and the numbers 25 and 26.
use Rattle.std.specs.Prelude.{ℕ, ◌≡◌, List, [], ◌∷◌, leb, Ok}
use Rattle.model.specs.Limits.{device_limit, window_limit, size_limit}
use Rattle.model.specs.First.{unless, first_of, Reading}
use Rattle.model.specs.Rule.{Rule}
use Rattle.model.specs.Monitor.{Monitor, under}
use Rattle.model.specs.Size.{size}
use Rattle.model.specs.Table.{monitor_at}
use Rattle.model.specs.Recording.{recording_answer}
use Rattle.model.specs.declared.Refusal.TheVariants.{RuleRange, RuleSize}

-- the monitor that a table describes, judged under a rule
abbrev pub monitor_under : Rule → List ℕ → Monitor
monitor_under rule table = under rule (monitor_at table)

-- "Number 25: d above 15, or l or k out of range; 26: N times 2 to the power l-1 above 65,536"
unfoldable pub rule_answer : Monitor → Reading
rule_answer m =
    first_of
    (unless (leb m.rule.device device_limit) RuleRange
    ∷ unless (leb 1 m.rule.window) RuleRange
    ∷ unless (leb m.rule.window window_limit) RuleRange
    ∷ unless (leb m.rule.most m.rule.window) RuleRange
    ∷ unless (leb (size m) size_limit) RuleSize
    ∷ [])

-- the table's numbers and the recording's, and "right after 24" the rule's
unfoldable pub ruled_answer : Rule → (table recording : List ℕ) → Reading
ruled_answer rule table recording = first_of (recording_answer table recording ∷ rule_answer (monitor_under rule table) ∷ [])

-- none of the numbers from 10 to 26 applies
abbrev pub SoundUnder : Rule → (table recording : List ℕ) → Type 0
SoundUnder rule table recording = ruled_answer rule table recording ≡ Ok tt
