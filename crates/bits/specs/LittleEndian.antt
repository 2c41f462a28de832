-- Bytes as one number, the first byte lowest.
use Rattle.std.specs.Prelude.{ℕ, ◌+◌, ◌*◌, List, [], ◌∷◌}

unfoldable pub little_endian : List ℕ → ℕ
little_endian [] = 0
little_endian (b ∷ s) = b + 256 * little_endian s
