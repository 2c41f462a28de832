use Rattle.std.proofs.Common.{◌≡◌, ℕ}
use Rattle.model.specs.Room.{over}
use Rattle.model.specs.Witness.{Row}
use Rattle.witness.specs.Rows.{GivesRows}
use Rattle.witness.proofs.Encoded.{bytes_to}
use Rattle.witness.proofs.write_rows.Given as goal

abbrev pub invariant-loop-i : goal.invariant-loop-i
invariant-loop-i g l =
    (rows : ℕ → Row) → GivesRows (goal.F-post g l.row) l.count rows → l.room ≡ over (bytes_to l.fn.edition rows l.count l.i) l.fn.room
