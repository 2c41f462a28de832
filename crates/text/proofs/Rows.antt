-- The lines of rows: one more row, and how long a line is.
use Prim.Native.Nat.{ℕ, suc, ◌*◌, ◌≤◌}
use native.Mathlib.Omega.{arith}
use mathlib.Core.Path.{◌≡◌, refl, sym, ap, ◌∙◌}
use mathlib.Core.List.{List, [], ◌∷◌, ◌++◌, append_assoc, append-nil}
use mathlib.Core.Bool.{Bool, true, false, cond}
use lib.ListN.{length, length-append}
use lib.Dec.{eqb}
use Rattle.model.specs.Bytes.{tab}
use Rattle.model.specs.Witness.{Row, kept, removed}
use Rattle.model.specs.Desk.{kept_word, removed_word, added_word, mark_word, row_line, row_lines}
use Rattle.text.proofs.Digits.{line_of-length}

lines_snoc : (l : List Row) (r : Row) → row_lines (l ++ (r ∷ [])) ≡ row_lines l ++ row_line r
unfolding row_lines
lines_snoc [] r = append-nil (row_line r)
lines_snoc (x ∷ l) r = ap (λ (t : List ℕ). row_line x ++ t) (lines_snoc l r) ∙ sym (append_assoc (row_line x) (row_lines l) (row_line r))

pub lines_none : (f : ℕ → Row) → row_lines (tab f 0) ≡ []
unfolding tab row_lines
lines_none f = refl

pub lines_tab : (f : ℕ → Row) (n : ℕ) → row_lines (tab f (suc n)) ≡ row_lines (tab f n) ++ row_line (f n)
unfolding tab
lines_tab f n = lines_snoc (tab f n) (f n)

pub mark-length : (mark : ℕ) → length (mark_word mark) ≤ 7
mark-length mark = by (eqb mark kept) (eqb mark removed)
  where
    by : (k r : Bool) → length (cond k kept_word (cond r removed_word added_word)) ≤ 7
    by true r = omega arith
    by false true = omega arith
    by false false = omega arith

pub row-length : (r : Row) → length (row_line r) ≤ 71
row-length r = omega (arith, line_of-length (mark_word r.mark) (r.time ∷ r.kind ∷ r.transition ∷ []), mark-length r.mark)

pub rows-length : (rows : List Row) → length (row_lines rows) ≤ 71 * length rows
unfolding row_lines
rows-length [] = omega arith
rows-length (r ∷ rows) = omega (arith, length-append (row_line r) (row_lines rows), row-length r, rows-length rows)
