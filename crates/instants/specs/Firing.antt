-- One transition fired from a window and variables: a plane of numbers goes to another plane, where the guard holds.
use Rattle.std.specs.Prelude.{ℕ, ◌+◌, ◌*◌, Bool, true, false, ◌&&◌, length, eqb, Option, Some, None, slice_get}
use Rattle.model.specs.Guard.{holds}
use Rattle.model.specs.Rule.{masks, window_behind, allows}
use Rattle.model.specs.Monitor.{Monitor, Transition, changed, airtime, is_guess}
use Rattle.words.specs.Words.{any_below}
use Rattle.instants.specs.Grid.{plane_at, assignments, free, clocks_at}

-- where something is recorded, only transitions on its kind fire, and it is no guess; where nothing is, each transition adds a row of its own kind

abbrev pub fits : Option ℕ → Transition → Bool
fits None t = true
fits (Some k) t = eqb t.trigger k

abbrev pub guessed : Monitor → Option ℕ → Transition → Bool
guessed m None t = is_guess m t.trigger
guessed m (Some k) t = false

-- the planes before and after
unfoldable pub source_at : Monitor → Transition → (w v : ℕ) → ℕ
source_at m t w v = plane_at m v t.source w

unfoldable pub target_at : Monitor → (guess : Bool) → Transition → (w v : ℕ) → ℕ
target_at m guess t w v =
    plane_at m (changed m.variables v t.sets t.clears) t.target (window_behind m.rule w guess) + free m * airtime m t.trigger

-- the guard at a place of the plane
abbrev pub holds_at : Monitor → Transition → (v p : ℕ) → Bool
holds_at m t v p = holds t.guard v (clocks_at m p)

-- a test of one transition, false if there is none
abbrev pub of_transition : (Transition → Bool) → Option Transition → Bool
of_transition f None = false
of_transition f (Some t) = f t

-- some firing passes a test of window, transition and variables: of the windows, of the transitions that fit what is recorded and that the rule allows, and of
-- the variables
unfoldable pub some_firing : Monitor → Option ℕ → (Transition → (w v : ℕ) → Bool) → Bool
some_firing m recorded f =
    any_below
    (λ w.
    any_below
    (λ j.
    of_transition (λ t. (fits recorded t && allows m.rule w (guessed m recorded t)) && any_below (λ v. f t w v) (assignments m))
    (slice_get m.transitions j))
    (length m.transitions))
    (masks m.rule)
