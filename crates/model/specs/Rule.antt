-- A measured loss rate: the rule NumMissing of document 003 (document 02, R-7). A guess is an added row from the rule's device.
use Rattle.std.specs.Prelude.{ℕ, zero, suc, ◌+◌, ◌-◌, ◌*◌, ◌/◌, ◌%◌, ◌^◌, ◌<◌, ◌≤◌, List, Bool, cond, length, take, drop, leb}
use Rattle.model.specs.Layers.{count}
pub use Rattle.model.specs.declared.Rule.{Rule}

-- "for a device d, in any l consecutive kept or added rows at most k"
abbrev pub rule_of : (device window most : ℕ) → Rule
rule_of device window most = record { device = device; window = window; most = most }

-- the rule that forbids nothing: each window is one row, and that may be a guess
abbrev pub no_rule : Rule
no_rule = rule_of 0 1 1

-- "in any l consecutive kept or added rows at most k are added rows from d; a trace shorter than l is one window". The list tells of each kept or added row, in
-- their order, whether it is a guess
pub record KeepsRule (rule : Rule) (guesses : List Bool) : Type 0 where
  pub windows : (i : ℕ) → i + rule.window ≤ length guesses → count (take rule.window (drop i guesses)) ≤ rule.most
  pub short : length guesses < rule.window → count guesses ≤ rule.most

-- the same row by row, by "which of the last l-1 rows were such guesses": a mask, whose lowest bit is the last row (`row-by-row`, in `proofs/RuleLaws`)

abbrev pub as_bit : Bool → ℕ
as_bit guess = cond guess 1 0

-- 2 to the power l-1: so many masks there are
abbrev pub masks : Rule → ℕ
masks rule = 2 ^ (rule.window - 1)

-- the mask once one more row is kept or added
unfoldable pub window_behind : Rule → (window : ℕ) → (guess : Bool) → ℕ
window_behind rule window guess = (as_bit guess + 2 * window) % masks rule

-- how many of the lowest n bits are set
unfoldable pub set_bits : ℕ → ℕ → ℕ
set_bits zero window = 0
set_bits (suc n) window = window % 2 + set_bits n (window / 2)

-- of a row and the l-1 rows before it at most k are guesses
unfoldable pub allows : Rule → (window : ℕ) → (guess : Bool) → Bool
allows rule window guess = leb (as_bit guess + set_bits (rule.window - 1) window) rule.most
