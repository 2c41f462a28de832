-- Which choices of clocks are reset by the transitions that are worth firing.
use Rattle.std.specs.Prelude.{ℕ, ◌%◌, List, Bool, ◌&&◌, eqb}
use Rattle.words.specs.Words.{any_below}
use Rattle.firings.specs.declared.Plan.{Plan}
use Rattle.firings.specs.Fired.{fires_now, transition_by}

-- transition j is worth firing and resets r
unfoldable pub uses_in : Plan → (table offsets : List ℕ) → (r j : ℕ) → Bool
uses_in p table offsets r j = fires_now p (transition_by table offsets j) && eqb ((transition_by table offsets j).resets % 4) r

-- one of the first n is
unfoldable pub used_by : Plan → (table offsets : List ℕ) → (n r : ℕ) → Bool
used_by p table offsets n r = any_below (uses_in p table offsets r) n
