-- The moves of one instant, forward or back.
use Rattle.std.specs.Prelude.{ℕ, List, Bool, cond, ◌||◌}
use Rattle.model.specs.Monitor.{Monitor}
use Rattle.monitor.specs.From.{transition_count}
use Rattle.situation.specs.Ruled.{ruled_from}
use Rattle.firings.specs.Fired.{fired}
use Rattle.firings.specs.Rested.{rested, rested_back}
use Rattle.firings.specs.declared.Plan.{Plan}

-- what resting leaves
unfoldable pub rests_by : Plan → Monitor → (size : ℕ) → (src : List ℕ) → ℕ → Bool
rests_by p m size src = cond p.back (rested_back p m p.heard size src) (rested p m p.heard size src)

-- .. and what the transitions give
unfoldable pub moved : Plan → (table offsets : List ℕ) → (size : ℕ) → (planes src : List ℕ) → ℕ → Bool
moved p table offsets size planes src i =
    rests_by p (ruled_from p.shape table offsets) size src i || fired p table offsets src planes (transition_count table) i
