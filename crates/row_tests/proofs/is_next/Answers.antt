use Rattle.std.proofs.Common.{arith}
use Rattle.model.proofs.Places.{word_within}
use Rattle.witness.specs.Rows.{row_of}
use Rattle.row_tests.proofs.Left.{is_next_first}
use Rattle.row_tests.proofs.is_next.Goals as goal

pub returns-then-eq : goal.returns-then-eq
returns-then-eq c =
    let next = is_next_first c.args.recording.now c.args.next (row_of c.args.e) (cc) in
    (grind (arith, next), λ q. omega (arith, next.1, word_within c.args.recording.now 3 (λ i. omega (arith, c.type_inv.recording i))))
