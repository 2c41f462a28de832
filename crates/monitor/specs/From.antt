-- The monitor of a table's bytes, given where the transition records start. Of a sound table it is the monitor that the table describes.
use Rattle.std.specs.Prelude.{ℕ, ◌+◌, min, List, [], cond, ◌&&◌, get_or, eqb, Option, Some, None}
use Rattle.model.specs.Limits.{transition_limit, guard_limit}
use Rattle.model.specs.Bytes.{byte_at, tab, padded}
use Rattle.model.specs.Guard.{Guard, guard_at, guard_of}
use Rattle.model.specs.Readiness.{readiness}
use Rattle.model.specs.Rule.{no_rule}
use Rattle.model.specs.Monitor.{Monitor, Transition, after}
use Rattle.model.specs.declared.Readiness.{Readiness}
use Rattle.model.specs.Kinds.{version_at, kind_at, device_at}
use Rattle.model.specs.Table.{states_at, variables_at, clocks_at, kinds_at, transitions_at, guard_length_at, transition_at}
use Rattle.model.specs.declared.Config.{Config}

-- the transitions that a table counts, at most as many as a sound one has
abbrev pub transition_count : List ℕ → ℕ
transition_count table = min (transitions_at table) transition_limit

-- the guard, and the transition, whose record starts at an offset

unfoldable pub guard_from : List ℕ → ℕ → Guard
guard_from b at = guard_of (guard_at guard_limit (variables_at b) (clocks_at b) b (at + 7) (at + 7 + guard_length_at b at))

unfoldable pub transition_from : List ℕ → ℕ → Transition
transition_from b at =
    record {
      source = byte_at b at;
      target = byte_at b (at + 1);
      trigger = byte_at b (at + 2);
      sets = byte_at b (at + 3);
      clears = byte_at b (at + 4);
      resets = byte_at b (at + 5);
      guard = guard_from b at;
    }

unfoldable pub monitor_from : List ℕ → List ℕ → Monitor
monitor_from b offsets =
    record {
      states = states_at b;
      variables = variables_at b;
      clocks = clocks_at b;
      inbound = tab (λ k. eqb (byte_at b (kind_at (version_at b) k)) 1) (kinds_at b);
      airtimes = tab (λ k. byte_at b (kind_at (version_at b) k + 1)) (kinds_at b);
      devices = tab (λ k. device_at b (kind_at (version_at b) k)) (kinds_at b);
      transitions = tab (λ j. transition_from b (get_or offsets j 0)) (transitions_at b);
      rule = no_rule;
    }

-- where the transition records start: as many as the table counts, at most the limit, and zeros behind them
unfoldable pub offsets_of : List ℕ → List ℕ
offsets_of b = padded transition_limit (tab (transition_at b) (transition_count b))

-- what the transition whose record starts at an offset answers to a packet of kind k
abbrev pub tried_from : List ℕ → ℕ → ℕ → Config → Option Readiness
tried_from b at k c =
    let t = transition_from b at in
    cond (eqb t.source c.state && eqb t.trigger k) (Some (readiness t.guard c.variables c.clocks)) None

-- the configuration after the transition whose record starts at an offset
abbrev pub after_from : List ℕ → ℕ → Config → Config
after_from b at c = after (monitor_from b []) (transition_from b at) c
