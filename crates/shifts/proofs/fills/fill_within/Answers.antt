use Rattle.std.proofs.Common.{arith}
use Rattle.shifts.proofs.fills.fill_within.Goals as goal

pub returns : goal.returns
returns g c = λ p slow fast.
    let first = c.fill.ensures p (λ w x from to h. slow w x from (omega arith) h) (record { all = λ i l. absurd (omega arith) }) in
    let second = c.fill-2.ensures p (λ w x from to h. fast w x (omega arith) (omega arith) h) first in
    let third = c.fill-3.ensures p (λ w x from to h. slow w x (omega arith) to h) second in
    record { size = omega arith; all = λ i l. third.all i (omega arith) }
