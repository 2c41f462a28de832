use Rattle.std.proofs.Common.{◌≡◌, ℕ, None}
use Rattle.model.specs.Bytes.{tab}
use Rattle.model.specs.Witness.{Row, misformed}
use Rattle.witness.specs.Rows.{GivesRows}
use Rattle.witness.proofs.Laws.{scan_at}
use Rattle.witness.proofs.rows_answer.Given as goal

abbrev pub invariant-loop-i : goal.invariant-loop-i
invariant-loop-i g l =
    (rows : ℕ → Row) → GivesRows (goal.F-post g l.row) l.count rows → misformed l.edition None 0 (tab rows l.count) ≡ scan_at l.edition rows l.count l.before l.i
