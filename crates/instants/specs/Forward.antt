-- An instant forward: what the moves and then one tick make of a set of situations' numbers.
use Rattle.std.specs.Prelude.{ℕ, ◌+◌, ◌*◌, ◌%◌, Bool, ◌&&◌, ◌||◌, ltb, eqb, Option, Some, None}
use Rattle.model.specs.Monitor.{Monitor, to_unit, airtime}
use Rattle.words.specs.Words.{up, below}
use Rattle.instants.specs.Digit.{raised_set, zeroed_set}
use Rattle.instants.specs.Grid.{firsts, seconds, plane, free}
use Rattle.instants.specs.Firing.{guessed, source_at, target_at, holds_at, some_firing}

-- nothing is sent: one tick less of taken air; a recorded row is removed: it takes the air
unfoldable pub rests : Monitor → Option ℕ → (ℕ → Bool) → ℕ → Bool
rests m None s x = s (x + free m) || (ltb x (free m) && s x)
rests m (Some k) s x = to_unit m k && up (free m * airtime m k) (below (free m) s) x

-- what firings give, before clocks are reset, of the transitions that reset r
unfoldable pub sends : Monitor → Option ℕ → (r : ℕ) → (ℕ → Bool) → ℕ → Bool
sends m recorded r s x =
    some_firing m recorded
    (λ t w v.
    eqb (t.resets % 4) r
    && up (target_at m (guessed m recorded t) t w v) (below (plane m) (λ p. s (source_at m t w v + p) && holds_at m t v p)) x)

abbrev pub zeroed_first : Monitor → (ℕ → Bool) → ℕ → Bool
zeroed_first m s = zeroed_set 1 (firsts m) s

abbrev pub zeroed_second : Monitor → (ℕ → Bool) → ℕ → Bool
zeroed_second m s = zeroed_set (firsts m) (seconds m) s

-- all moves: resets 1 is of the first clock, 2 of the second, 3 of both
unfoldable pub moves : Monitor → Option ℕ → (ℕ → Bool) → ℕ → Bool
moves m recorded s x =
    ((rests m recorded s x || sends m recorded 0 s x)
    || zeroed_first m (λ y. sends m recorded 1 s y || zeroed_second m (sends m recorded 3 s) y) x)
    || zeroed_second m (sends m recorded 2 s) x

-- .. and the tick of both clocks
unfoldable pub forward : Monitor → Option ℕ → (ℕ → Bool) → ℕ → Bool
forward m recorded s = raised_set (firsts m) (seconds m) (raised_set 1 (firsts m) (moves m recorded s))
