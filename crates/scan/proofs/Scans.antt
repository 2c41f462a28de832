-- Counts that are within their limits, and a turn of the loop over the transition records.
use Prim.Native.Nat.{ℕ, suc, ◌+◌, ◌-◌, ◌≤◌, ◌<◌}
use native.Mathlib.Omega.{arith}
use mathlib.Core.Path.{◌≡◌}
use mathlib.Core.List.{List}
use lib.Dec.{eqb}
use lib.ListN.{length}
use Rattle.std.specs.Prelude.{Ok}
use Rattle.model.specs.Limits.{kind_limit, transition_limit}
use Rattle.model.specs.First.{unless, and_then, Reading}
use Rattle.model.specs.Table.{counts_of, transition_record, transition_records, guard_length_at}
use Rattle.model.specs.declared.Refusal.TheVariants.{TableCount, TableLength}
use Rattle.model.proofs.Tests.{test, le_test, tests, then_sound}
use Rattle.model.proofs.TableForm.{count_tests}

pub counts_bound : (s v c k t : ℕ) → counts_of s v c k t ≡ Ok tt → (k ≤ kind_limit) × (t ≤ transition_limit)
unfolding counts_of
counts_bound s v c k t h =
    let l : List Reading = tests (count_tests s v c k t) in
    (le_test _ _ (TableCount 6) (test l h 5), le_test _ _ (TableCount 7) (test l h 6))

-- at turn i of n
pub left : (n i : ℕ) → i < n → n - i ≡ suc (n - (i + 1))
left n i h = omega arith

pub transitions_turn : (b : List ℕ) (n i at : ℕ) → i < n
    → transition_records (n - i) b at ≡ and_then (transition_record b at) (transition_records (n - (i + 1)) b (at + 7 + guard_length_at b at))
unfolding transition_records
transitions_turn b n i at h = rw (left n i h, then_sound (transition_records (n - (i + 1)) b (at + 7 + guard_length_at b at)))

pub transitions_end : (b : List ℕ) (n i at : ℕ) → n ≤ i → transition_records (n - i) b at ≡ unless (eqb at (length b)) (TableLength at)
unfolding transition_records
transitions_end b n i at h = let none : n - i ≡ 0 = omega arith in rw none
