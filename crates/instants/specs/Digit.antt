-- One digit of a number: of weight w, with r values. Where the digit is a clock, a tick raises it and a reset makes it 0.
use Rattle.std.specs.Prelude.{ℕ, ◌+◌, ◌-◌, ◌*◌, ◌/◌, ◌%◌, Bool, cond, not, ◌&&◌, ◌||◌, eqb}
use Rattle.words.specs.Words.{any_below}

abbrev pub digit : (w r x : ℕ) → ℕ
digit w r x = x / w % r

abbrev pub is_lowest : (w r x : ℕ) → Bool
is_lowest w r x = eqb (digit w r x) 0

abbrev pub is_highest : (w r x : ℕ) → Bool
is_highest w r x = eqb (digit w r x + 1) r

-- the number with the digit one higher, where it is not the highest
unfoldable pub raised : (w r x : ℕ) → ℕ
raised w r x = cond (is_highest w r x) x (x + w)

-- the number with the digit 0
unfoldable pub zeroed : (w r x : ℕ) → ℕ
zeroed w r x = x - w * digit w r x

-- what raising the digit makes of a set: each number one place up but from the highest place, and those at the highest place stay
unfoldable pub raised_set : (w r : ℕ) → (ℕ → Bool) → ℕ → Bool
raised_set w r s x = (not (is_lowest w r x) && s (x - w)) || (is_highest w r x && s x)

-- what making the digit 0 makes of a set: the union over the digit's values, at the lowest
unfoldable pub zeroed_set : (w r : ℕ) → (ℕ → Bool) → ℕ → Bool
zeroed_set w r s x = is_lowest w r x && any_below (λ d. s (x + w * d)) r
