-- What resting puts where: ranges of numbers that go over as they are.
use Rattle.std.specs.Prelude.{ℕ, ◌-◌, ◌*◌, List, Bool, ◌&&◌, ◌||◌, Option, Some, None}
use Rattle.model.specs.Monitor.{Monitor, to_unit, airtime}
use Rattle.words.specs.Words.{up, below, meet}
use Rattle.firings.specs.declared.Plan.{Plan}

-- so many numbers from s on, to d on
unfoldable pub ranged : List ℕ → (d s length : ℕ) → ℕ → Bool
ranged src d s length = up d (below length (meet src s src s))

-- forward: one tick less of taken air; where a row is recorded, the air that it takes
unfoldable pub rested : Plan → Monitor → Option ℕ → (size : ℕ) → List ℕ → ℕ → Bool
rested p m None size src i = ranged src 0 p.free (size - p.free) i || ranged src 0 0 p.free i
rested p m (Some k) size src i = to_unit m k && ranged src (p.free * airtime m k) 0 p.free i

-- and back
unfoldable pub rested_back : Plan → Monitor → Option ℕ → (size : ℕ) → List ℕ → ℕ → Bool
rested_back p m None size src i = ranged src 0 0 p.free i || ranged src p.free 0 (size - p.free) i
rested_back p m (Some k) size src i = to_unit m k && ranged src 0 (p.free * airtime m k) p.free i
