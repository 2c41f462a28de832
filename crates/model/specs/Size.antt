-- M, A, N and S of document 01.
use Rattle.std.specs.Prelude.{ℕ, ◌+◌, ◌*◌, ◌/◌, ◌^◌, max, List, [], ◌∷◌, cond, ltb}
use Rattle.model.specs.Guard.{largest}
use Rattle.model.specs.Rule.{masks}
use Rattle.model.specs.Monitor.{Monitor, Transition}

unfoldable pub largest_in : ℕ → List Transition → ℕ
largest_in i [] = 0
largest_in i (t ∷ ts) = max (largest i t.guard) (largest_in i ts)

-- "M of a clock is the largest T compared with it in any guard, 0 if none"
abbrev pub largest_bound : Monitor → ℕ → ℕ
largest_bound m i = largest_in i m.transitions

unfoldable pub greatest : List ℕ → ℕ
greatest [] = 0
greatest (a ∷ l) = max a (greatest l)

-- "A is the largest airtime of any kind"
abbrev pub largest_airtime : Monitor → ℕ
largest_airtime m = greatest m.airtimes

-- the largest value at which clock i is written: M + 1, and 0 for a clock that the table does not have
unfoldable pub cap : Monitor → ℕ → ℕ
cap m i = cond (ltb i m.clocks) (largest_bound m i + 1) 0

-- "N is states times 2 to the number of variables, times M+2 for each clock, times A+1"
unfoldable pub table_size : Monitor → ℕ
table_size m = m.states * (2 ^ m.variables * ((cap m 0 + 1) * ((cap m 1 + 1) * (largest_airtime m + 1))))

-- "N times 2 to the power l-1", "the larger N" (R-7); where l is 1 it is the table's
unfoldable pub size : Monitor → ℕ
size m = table_size m * masks m.rule

-- "S being N/8 rounded up": the bytes of a set of situations
abbrev pub set_bytes : ℕ → ℕ
set_bytes n = (n + 7) / 8
