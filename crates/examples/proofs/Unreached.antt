-- R-8 by computation: tables with a state that nothing leads to, and tables in which each state is reached.
use Prim.Native.Nat.{ℕ, zero, suc, ◌+◌}
use mathlib.Core.Path.{◌≡◌, refl}
use mathlib.Core.List.{List, [], ◌∷◌, ◌++◌, map}
use lib.ListN.{length, set}
use Rattle.model.specs.Bytes.{word_bytes}
use Rattle.model.specs.Numbers.{Values, values, reading_values}
use Rattle.model.specs.Table.{table_answer}
use Rattle.model.specs.declared.Edition.TheVariants.{One}
use Rattle.examples.proofs.Examples.{run_of, run, refused, table, p5}

-- the small monitor with a fourth state, as a vendor's table had one
pub vendor : List ℕ
unfolding table
vendor = set table 3 4

-- Transition records on kind 0 that set, clear and reset nothing

unfoldable pub link : ℕ → ℕ → List ℕ
link source target = source ∷ target ∷ 0 ∷ 0 ∷ 0 ∷ 0 ∷ 1 ∷ 0 ∷ []

-- a guard that never holds: not true
never : ℕ → ℕ → List ℕ
never source target = source ∷ target ∷ 0 ∷ 0 ∷ 0 ∷ 0 ∷ 2 ∷ 4 ∷ 0 ∷ []

-- from state 0 to itself, while clock 0 is at most T
unfoldable pub clocked : ℕ → List ℕ
clocked T = 0 ∷ 0 ∷ 0 ∷ 0 ∷ 0 ∷ 0 ∷ 3 ∷ 1 ∷ 0 ∷ T ∷ []

-- n - 1 to n, .. 1 to 2, 0 to 1
unfoldable pub falling : ℕ → List ℕ
unfolding link
falling zero = []
falling (suc n) = link n (suc n) ++ falling n

-- a table of so many states, variables and clocks, one kind, and these transition records
unfoldable pub linked : (states variables clocks count : ℕ) → (records : List ℕ) → List ℕ
linked states variables clocks count records = word_bytes (8 + length records) ++ (1 ∷ states ∷ variables ∷ clocks ∷ 1 ∷ count ∷ 0 ∷ 0 ∷ records)

-- One state and no transition, two; a chain whose links stand in falling order, whole, without the link to its last state, and with the one to state 8 from 8 itself;
-- a cycle to which nothing leads; a state behind a guard that never holds; N 65,536, and N above it, where 16 comes first
pub cases : List (List ℕ × Values)
unfolding link never clocked falling linked
cases =
    (linked 1 0 0 0 [], values 0 0 0)
    ∷ (linked 2 0 0 0 [], values 17 1 0)
    ∷ (linked 16 0 0 15 (falling 15), values 0 0 0)
    ∷ (linked 16 0 0 14 (falling 14), values 17 15 0)
    ∷ (linked 16 0 0 15 (set (falling 15) 56 8), values 17 8 0)
    ∷ (linked 3 0 0 2 (link 1 2 ++ link 2 1), values 17 1 0)
    ∷ (linked 2 0 0 1 (never 0 1), values 0 0 0)
    ∷ (linked 16 4 1 1 (clocked 254), values 17 1 0)
    ∷ (linked 16 4 1 1 (clocked 255), values 16 0 0)
    ∷ []

pub record Answered : Type 0 where
  pub judged : run One vendor p5 10000 ≡ refused (values 17 3 0)
  pub read : map (λ c. reading_values (table_answer c.0)) cases ≡ map (λ c. c.1) cases

pub unreached : Answered
unfolding run_of refused vendor table p5 cases
unreached = record { judged = refl; read = refl }
