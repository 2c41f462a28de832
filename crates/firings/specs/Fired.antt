-- What transitions put where, fired on whole planes of situations' numbers: from the planes of a set to those of others, or back.
use Rattle.std.specs.Prelude.{ℕ, ◌+◌, ◌*◌, ◌%◌, List, Bool, cond, ◌&&◌, get_or}
use Rattle.model.specs.Rule.{window_behind, allows}
use Rattle.model.specs.Monitor.{Monitor, Transition, changed, airtime}
use Rattle.words.specs.Words.{bit, up, below, meet, any_below}
use Rattle.monitor.specs.From.{transition_from}
use Rattle.situation.specs.Ruled.{ruled_from}
use Rattle.instants.specs.Firing.{fits, guessed}
use Rattle.firings.specs.declared.Plan.{Plan}

-- where the plane of variables, a state and a window starts
unfoldable pub place_by : Plan → (v state w : ℕ) → ℕ
place_by p v state w = p.plane * (v + p.shape.masks * (state + p.shape.states * w))

-- the planes before and after a firing; the latter in the set for what the transition resets
unfoldable pub here_by : Plan → Transition → (w v : ℕ) → ℕ
here_by p t w v = place_by p v t.source w

unfoldable pub there_by : Plan → Monitor → (guess : Bool) → Transition → (w v : ℕ) → ℕ
there_by p m guess t w v =
    p.gap * (t.resets % 4)
    + (place_by p (changed m.variables v t.sets t.clears) t.target (window_behind m.rule w guess) + p.free * airtime m t.trigger)

-- so many numbers go over, those of them that the guard has
unfoldable pub carried : Plan → (src planes : List ℕ) → (here there guard length : ℕ) → ℕ → Bool
carried p src planes here there guard length =
    cond p.back (up here (below length (meet src there planes guard))) (up there (below length (meet src here planes guard)))

-- the plane of each of the first n variables goes over to that of the variables after
unfoldable pub carried_each : Plan → (src planes : List ℕ) → (variables sets clears here there guard n : ℕ) → ℕ → Bool
carried_each p src planes variables sets clears here there guard n i =
    any_below (λ v. carried p src planes (here + p.plane * v) (there + p.plane * changed variables v sets clears) (guard + p.plane * v) p.plane i) n

-- one transition from one window, over the variables; guard: where its guard's planes start
unfoldable pub fired_from : Plan → Monitor → (src planes : List ℕ) → (guess : Bool) → Transition → (guard w : ℕ) → ℕ → Bool
fired_from p m src planes guess t guard w i =
    any_below (λ v. carried p src planes (here_by p t w v) (there_by p m guess t w v) (guard + p.plane * v) p.plane i) p.shape.masks

-- a transition is worth firing: its source is live, and it fits what is recorded
unfoldable pub fires_now : Plan → Transition → Bool
fires_now p t = bit p.live t.source && fits p.heard t

-- one transition from the first n windows, where the rule allows it
unfoldable pub fired_by : Plan → Monitor → (src planes : List ℕ) → (guess : Bool) → Transition → (guard n : ℕ) → ℕ → Bool
fired_by p m src planes guess t guard n i = any_below (λ w. allows m.rule w guess && fired_from p m src planes guess t guard w i) n

abbrev pub transition_by : (table offsets : List ℕ) → ℕ → Transition
transition_by table offsets j = transition_from table (get_or offsets j 0)

-- transition j
unfoldable pub fired_one : Plan → (table offsets src planes : List ℕ) → (j : ℕ) → ℕ → Bool
fired_one p table offsets src planes j i =
    let m = ruled_from p.shape table offsets in
    let t = transition_by table offsets j in
    fires_now p t && fired_by p m src planes (guessed m p.heard t) t (p.apart * j) p.shape.windows i

-- the first n transitions
unfoldable pub fired : Plan → (table offsets src planes : List ℕ) → (n : ℕ) → ℕ → Bool
fired p table offsets src planes n i = any_below (λ j. fired_one p table offsets src planes j i) n
