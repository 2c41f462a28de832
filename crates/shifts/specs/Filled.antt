-- Sets that are made word by word.
use Rattle.std.specs.Prelude.{ℕ, ◌+◌, ◌*◌, ◌<◌, ◌≤◌, Bool}
use Rattle.words.specs.Words.{Bits}

-- x is word w of p
abbrev pub IsWord : (ℕ → Bool) → ℕ → ℕ → Type 0
IsWord p w x = Bits 64 (λ j. p (64 * w + j)) x

-- what a function gives from v on and before e are words of p
abbrev pub GivesWords : (ℕ → ℕ → Type 0) → (ℕ → Bool) → ℕ → ℕ → Type 0
GivesWords gives p v e = (w x : ℕ) → v ≤ w → w < e → gives w x → IsWord p w x
