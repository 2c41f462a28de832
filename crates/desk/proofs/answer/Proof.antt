use Prim.Native.Nat.{ℕ}
use mathlib.Core.Path.{sym}
use lib.ListN.{length-replicate}
use borrow.Author.Rules.{rules}
use Rattle.desk.proofs.Own.{own_lines}
use Rattle.desk.proofs.answer.Statement.{statement}
use Rattle.desk.proofs.answer.Tie as tie

-- by a law: a search writes the array out
slice-aggregate-lines : tie.Need-slice_bounds-lines-end
slice-aggregate-lines c = sym (length-replicate {A = ℕ} _ 0)

slice-aggregate-lines-2 : tie.Need-slice_bounds-lines-end-2
slice-aggregate-lines-2 c = sym (length-replicate {A = ℕ} _ 0)

lines-requires : tie.Need-lines-requires
lines-requires c κs = search rules

same_length : tie.Need-shape_of-text
same_length c = search rules

returns : tie.Need-returns
returns c = own_lines _ _ _ _ _ _ _ _ (length-replicate {A = ℕ} 65536 0) (length-replicate {A = ℕ} 23045 0) c.before.before.before.before.lines.ensures

pub answer_spec : {M : Type 1} → statement M
answer_spec =
    tie.close
    (tie.spec slice-aggregate-lines slice-aggregate-lines-2 lines-requires same_length returns)
