-- What a scan of rows from the first one on finds.
use Prim.Native.Nat.{ℕ, zero, suc, ◌+◌, ◌-◌, ◌<◌, ◌≤◌}
use native.Mathlib.Omega.{arith}
use native.Mathlib.Numerals.{add-one}
use mathlib.Core.Path.{◌≡◌, sym, ap, ◌∙◌}
use mathlib.Core.List.{List, [], ◌∷◌, ◌++◌, append-nil}
use mathlib.Core.Bool.{Bool, true, false}
use Rattle.std.specs.Prelude.{Option, Some, None, Ok, Err}
use lib.Seq.{append_snoc}
use Rattle.model.specs.Bytes.{tab}
use Rattle.model.specs.Witness.{Row, in_place, misformed, bad_row}
use Rattle.model.specs.declared.Edition.{Edition}
use Rattle.model.specs.declared.Refusal.TheVariants.{WitnessRow}
use Rattle.witness.specs.Rows.{row_of, before_of}
use Rattle.witness.specs.declared.Entry.{Entry}

-- m rows from row i on
unfoldable pub rows_from : (ℕ → Row) → ℕ → ℕ → List Row
rows_from f zero i = []
rows_from f (suc m) i = f i ∷ rows_from f m (suc i)

module _ (f : ℕ → Row) where
  behind : (m k : ℕ) → tab f k ++ rows_from f m k ≡ tab f (k + m)
  unfolding tab rows_from
  behind zero k = let e : k ≡ k + 0 = omega arith in append-nil (tab f k) ∙ ap (tab f) e
  behind (suc m) k =
      let e : suc k + m ≡ k + suc m = omega arith in
      sym (append_snoc (tab f k) (f k) (rows_from f m (suc k))) ∙ behind m (suc k) ∙ ap (tab f) e

  rows_all : (n : ℕ) → tab f n ≡ rows_from f (n - 0) 0
  unfolding tab
  rows_all n = let e : n ≡ 0 + (n - 0) = omega arith in ap (tab f) e ∙ sym (behind (n - 0) 0)

  rows_next : (n i : ℕ) → i < n → rows_from f (n - i) i ≡ f i ∷ rows_from f (n - (i + 1)) (i + 1)
  unfolding rows_from
  rows_next n i h =
      let e : n - i ≡ suc (n - (i + 1)) = omega arith in
      let s : i + 1 ≡ suc i = omega arith in
      rw (e, s)

  rows_none : (n i : ℕ) → n ≤ i → rows_from f (n - i) i ≡ []
  unfolding rows_from
  rows_none n i h = let e : n - i ≡ 0 = omega arith in rw e

-- the first of rows that breaks the form

module _ (edition : Edition) (before : Option Row) (i : ℕ) (r : Row) (rs : List Row) where
  row-holds : in_place edition before r ≡ true → misformed edition before i (r ∷ rs) ≡ misformed edition (Some r) (suc i) rs
  unfolding misformed
  row-holds e = rw (e, misformed)

  row_breaks : in_place edition before r ≡ false → misformed edition before i (r ∷ rs) ≡ Some i
  unfolding misformed
  row_breaks e = rw (e, misformed)

module _ (edition : Edition) (f : ℕ → Row) (n : ℕ) where
  -- what a scan that has come to row i, behind the row before it, still finds
  unfoldable pub scan_at : Option Entry → ℕ → Option ℕ
  scan_at before i = misformed edition (before_of before) i (rows_from f (n - i) i)

  pub scan_all : misformed edition None 0 (tab f n) ≡ scan_at None 0
  unfolding scan_at
  scan_all = ap (misformed edition None 0) (rows_all f n)

  module _ (found : Option ℕ) (before : Option Entry) (i : ℕ) (so : found ≡ scan_at before i) where
    pub scan_ends : n ≤ i → Ok tt ≡ bad_row found
    unfolding scan_at misformed
    scan_ends h = let none : scan_at before i ≡ None = rw (rows_none f n i h) in ap bad_row (sym (so ∙ none))

    module _ (e : Entry) (is : row_of e ≡ f i) (more : i < n) (holds : Bool) (tested : holds ≡ in_place edition (before_of before) (row_of e)) where
      scan_row : found ≡ misformed edition (before_of before) i (row_of e ∷ rows_from f (n - (i + 1)) (i + 1))
      unfolding scan_at
      scan_row = so ∙ ap (misformed edition (before_of before) i) (rows_next f n i more ∙ ap (λ (r : Row). r ∷ rows_from f (n - (i + 1)) (i + 1)) (sym is))

      pub scan_stops : holds ≡ false → Err (WitnessRow i) ≡ bad_row found
      scan_stops h = ap bad_row (sym (scan_row ∙ row_breaks _ _ _ _ _ (sym tested ∙ h)))

      pub scan_next : holds ≡ true → found ≡ scan_at (Some e) (i + 1)
      unfolding scan_at
      scan_next h =
          scan_row
          ∙ row-holds _ _ _ _ _ (sym tested ∙ h)
          ∙ ap (λ (k : ℕ). misformed edition (Some (row_of e)) k (rows_from f (n - (i + 1)) (i + 1))) (sym (add-one i))
