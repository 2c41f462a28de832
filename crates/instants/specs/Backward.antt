-- An instant backward: the situations' numbers from which some move and then one tick lead into a set.
use Rattle.std.specs.Prelude.{ℕ, ◌+◌, ◌-◌, ◌*◌, ◌/◌, ◌%◌, Bool, cond, ◌&&◌, ◌||◌, ltb, eqb, Option, Some, None}
use Rattle.model.specs.Monitor.{Monitor, to_unit, airtime}
use Rattle.words.specs.Words.{up, below}
use Rattle.instants.specs.Digit.{raised, zeroed}
use Rattle.instants.specs.Grid.{firsts, seconds, plane, free}
use Rattle.instants.specs.Firing.{guessed, source_at, target_at, holds_at, some_firing}

-- the number once both clocks have ticked
abbrev pub ticked : Monitor → ℕ → ℕ
ticked m x = raised (firsts m) (seconds m) (raised 1 (firsts m) x)

-- the number once clocks are reset
abbrev pub first_reset : Monitor → (r x : ℕ) → ℕ
first_reset m r x = cond (eqb (r % 2) 1) (zeroed 1 (firsts m) x) x

abbrev pub second_reset : Monitor → (r x : ℕ) → ℕ
second_reset m r x = cond (eqb (r / 2 % 2) 1) (zeroed (firsts m) (seconds m) x) x

abbrev pub reset_by : Monitor → (r x : ℕ) → ℕ
reset_by m r x = second_reset m r (first_reset m r x)

-- nothing is sent, or a recorded row is removed
unfoldable pub rests_back : Monitor → Option ℕ → (ℕ → Bool) → ℕ → Bool
rests_back m None s x = s (cond (ltb x (free m)) x (x - free m))
rests_back m (Some k) s x = to_unit m k && (ltb x (free m) && s (x + free m * airtime m k))

unfoldable pub sends_back : Monitor → Option ℕ → (ℕ → Bool) → ℕ → Bool
sends_back m recorded s x =
    some_firing m recorded
    (λ t w v. up (source_at m t w v) (below (plane m) (λ p. s (reset_by m (t.resets % 4) (target_at m (guessed m recorded t) t w v + p)) && holds_at m t v p)) x)

unfoldable pub backward : Monitor → Option ℕ → (ℕ → Bool) → ℕ → Bool
backward m recorded s x = rests_back m recorded (λ y. s (ticked m y)) x || sends_back m recorded (λ y. s (ticked m y)) x
