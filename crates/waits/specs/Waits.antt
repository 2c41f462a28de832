-- Sets of waits as words of 64.
use Rattle.std.specs.Prelude.{ℕ, zero, suc, ◌+◌, ◌-◌, ◌*◌, List, [], ◌∷◌, get_or, map, bit_and, Bool, cond, ◌==◌}
use Rattle.std.specs.List.{list_all}

-- the number whose bit j says whether j passes, for the numbers below n
unfoldable pub bits_of : ℕ → (ℕ → Bool) → ℕ
bits_of zero p = 0
bits_of (suc n) p = cond (p 0) 1 0 + 2 * bits_of n (λ j. p (suc j))

-- the 64 waits that follow from
abbrev pub word_of : (ℕ → Bool) → ℕ → ℕ
word_of p from = bits_of 64 (λ j. p (suc (from + j)))

-- the words of the waits from 1 to 256 that pass
abbrev pub waits_of : (ℕ → Bool) → List ℕ
waits_of p = map (word_of p) (0 ∷ 64 ∷ 128 ∷ 192 ∷ [])

abbrev pub others : List ℕ → List ℕ
others w = map (λ word. 18446744073709551615 - word) w

abbrev pub common : List ℕ → List ℕ → List ℕ
common a b = map (λ i. bit_and (get_or a i 0) (get_or b i 0)) (0 ∷ 1 ∷ 2 ∷ 3 ∷ [])

abbrev pub is_none : List ℕ → Bool
is_none w = list_all (λ word. word == 0) w
