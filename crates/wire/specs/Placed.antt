-- What a room holds after bytes are written into it from a place on.
use Rattle.std.specs.Prelude.{ℕ, ◌+◌, List, ◌++◌, cond, length, take, drop, leb}

-- the bytes from place at on and the rest as it was; all as it was where they do not fit
unfoldable pub placed : List ℕ → ℕ → List ℕ → List ℕ
placed bytes at room = cond (leb (at + length bytes) (length room)) (take at room ++ bytes ++ drop (at + length bytes) room) room
