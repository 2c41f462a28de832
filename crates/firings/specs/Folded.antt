-- Several sets in one buffer, each n words long, one for each choice of clocks that are reset; and one of them with a clock made 0, or spread over its values.
use Rattle.std.specs.Prelude.{ℕ, ◌+◌, ◌*◌, List, Bool, ◌&&◌, ◌||◌}
use Rattle.words.specs.Words.{mem, up, below, any_below}

-- set r of a buffer
unfoldable pub set_at : List ℕ → (n r : ℕ) → ℕ → Bool
set_at s n r i = mem s (64 * n * r + i)

-- the union over a digit of weight w with r values, at its lowest
unfoldable pub folded_by : (w r n : ℕ) → (low : List ℕ) → (ℕ → Bool) → ℕ → Bool
folded_by w r n low s i = any_below (λ d. below (64 * n) s (i + w * d)) r && mem low i

-- what is at the lowest, over all values
unfoldable pub spread_by : (w r n : ℕ) → (low : List ℕ) → (ℕ → Bool) → ℕ → Bool
spread_by w r n low s i = any_below (λ d. up (w * d) (below (64 * n) (λ y. s y && mem low y)) i) r

-- the first set, once all resets are made: 1 is of the first clock, 2 of the second, 3 of both
unfoldable pub reset_sets : (first second n : ℕ) → (low_first low_second buffer : List ℕ) → ℕ → Bool
reset_sets first second n low_first low_second b i =
    (set_at b n 0 i || folded_by 1 first n low_first (λ y. set_at b n 1 y || folded_by first second n low_second (set_at b n 3) y) i)
    || folded_by first second n low_second (set_at b n 2) i
