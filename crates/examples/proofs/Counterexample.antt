-- Document 003 says that trying kept rows first gives the most kept rows. It does not: here the preferred witness keeps one row, and another permitted one keeps two.
use Prim.Native.Nat.{ℕ, ◌+◌, ◌<◌}
use native.Mathlib.Omega.{arith}
use mathlib.Core.Path.{◌≡◌, refl}
use mathlib.Core.List.{List, [], ◌∷◌}
use mathlib.Core.Bool.{cond}
use lib.Dec.{eqb}
use Rattle.model.specs.Recording.{packets_at}
use Rattle.model.specs.Table.{monitor_at}
use Rattle.model.specs.Witness.{Row, kept, removed, no_transition, in_form}
use Rattle.model.specs.Rules.{sends, removes, keeps, adds, account, broken, Permits}
use Rattle.model.specs.Validation.{preferred}
use Rattle.model.specs.declared.Edition.{Edition}
use Rattle.model.specs.declared.Edition.TheVariants.{One, Two}
use Rattle.examples.proofs.Examples.{run_of}

-- two states, two kinds to the unit. Kind 0 leads from state 0 to state 1, from where nothing leads; kind 1 stays in state 0
pub table : List ℕ
table =
    0 ∷ 26 ∷ 1 ∷ 2 ∷ 0 ∷ 0 ∷ 2 ∷ 2
    ∷ 1 ∷ 0
    ∷ 1 ∷ 0
    ∷ 0 ∷ 1 ∷ 0 ∷ 0 ∷ 0 ∷ 0 ∷ 1 ∷ 0
    ∷ 0 ∷ 0 ∷ 1 ∷ 0 ∷ 0 ∷ 0 ∷ 1 ∷ 0
    ∷ []

-- kind 0 at 1, kind 1 at 2 and at 3
pub recording : List ℕ
recording = 0 ∷ 12 ∷ 1 ∷ 0 ∷ 3 ∷ 0 ∷ 1 ∷ 0 ∷ 0 ∷ 2 ∷ 1 ∷ 0 ∷ 3 ∷ 1 ∷ []

row : (mark time kind transition : ℕ) → Row
row m t k j = record { mark = m; time = t; kind = k; transition = j }

pub keeps_first : List Row
unfolding row
keeps_first = row kept 1 0 0 ∷ row removed 2 1 no_transition ∷ row removed 3 1 no_transition ∷ []

pub keeps_most : List Row
unfolding row
keeps_most = row removed 1 0 no_transition ∷ row kept 2 1 1 ∷ row kept 3 1 1 ∷ []

pub kept_rows : List Row → ℕ
kept_rows [] = 0
kept_rows (r ∷ rs) = cond (eqb r.mark kept) 1 0 + kept_rows rs

pub record NotTheMost : Type 0 where
  pub first : preferred (monitor_at table) (packets_at recording) ≡ keeps_first
  pub other : (edition : Edition) → Permits edition (monitor_at table) (packets_at recording) keeps_most
  pub fewer : kept_rows keeps_first < kept_rows keeps_most

pub not_the_most : NotTheMost
unfolding table recording keeps_first keeps_most kept_rows run_of row sends removes keeps adds account broken in_form
not_the_most =
    record {
      first = refl;
      other = permitted;
      fewer = omega arith;
    }
  where
    permitted : (edition : Edition) → Permits edition (monitor_at table) (packets_at recording) keeps_most
    permitted One = record { fits = omega arith; unbroken = refl }
    permitted Two = record { fits = omega arith; unbroken = refl }
