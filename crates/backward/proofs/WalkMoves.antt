-- The kind of an added row, and what a step's move has; its rows do not go by the rule.
use Rattle.std.proofs.Common.{ℕ, ◌+◌, ◌≡◌, ◌∙◌, List, get_or, refl, Option}
use Rattle.std.specs.Prelude.{Some, None, slice_get}
use Rattle.model.specs.Bytes.{byte_at}
use Rattle.model.specs.Monitor.{Monitor, under}
use Rattle.model.specs.declared.Rule.{Rule}
use Rattle.model.specs.Trace.{Packet}
use Rattle.model.specs.Table.{monitor_at}
use Rattle.model.specs.Situation.{Move, keep, rest, add, move_of, step_by, step_number, recorded_at, trigger_of, number, capped, situation_of}
use Rattle.model.specs.Validation.{HasRows, rows_by}
use Rattle.model.proofs.Options.{map-eq-some_iff}
use Rattle.model.proofs.MoveRows.{fits-step}
use Rattle.measures.specs.Setting.{Triggers}

-- rows do not go by the rule

pub rows_plain : (rule : Rule) (m : Monitor) (o : Option ℕ) (t : ℕ) (a : Move) → rows_by (under rule m) o t a ≡ rows_by m o t a
unfolding rows_by
rows_plain rule m o t (keep j) = refl
rows_plain rule m o t rest = refl
rows_plain rule m o t (add j) = refl

pub has_plain : (rule : Rule) (m : Monitor) (o : Option ℕ) (a : Move) → HasRows (under rule m) o a → HasRows m o a
has_plain rule m None (keep j) h = h
has_plain rule m (Some k) (keep j) h = h
has_plain rule m o rest h = tt
has_plain rule m None (add j) h = h
has_plain rule m (Some k) (add j) h = h

-- the kind of an added row

pub trigger_byte : (table offsets : List ℕ) → Triggers table offsets → (j a : ℕ) → trigger_of (monitor_at table) j ≡ Some a → byte_at table (get_or offsets j 0 + 2) ≡ a
trigger_byte table offsets found j a e =
    let (t, p, q) = (map-eq-some_iff (λ t. t.trigger) (slice_get (monitor_at table).transitions j)).0 e in
    found.trigger j t p ∙ q

pub fits-number : (m : Monitor) (recording : List Packet) (t n k x : ℕ) → step_number m recording t n k ≡ Some x → HasRows m (recorded_at recording t) (move_of k)
unfolding step_number
fits-number m recording t n k x e =
    let (y, p, q) = (map-eq-some_iff (number m) (step_by m (capped m) (recorded_at recording t) (situation_of m n) (move_of k))).0 e in
    fits-step m (capped m) (recorded_at recording t) (situation_of m n) (move_of k) y p
