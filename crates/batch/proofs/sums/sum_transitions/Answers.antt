use Rattle.batch.proofs.Summing.{sum_behind}
use Rattle.batch.proofs.sums.sum_transitions.Goals as goal

pub returns : goal.returns
returns c =
    let two = sum_behind _ _ _ _ _ c.bytes.ensures c.bytes-2.ensures in
    let three = sum_behind _ _ _ _ _ two c.bytes-3.ensures in
    let four = sum_behind _ _ _ _ _ three c.bytes-4.ensures in
    let five = sum_behind _ _ _ _ _ four c.bytes-5.ensures in
    let six = sum_behind _ _ _ _ _ five c.bytes-6.ensures in
    let seven = sum_behind _ _ _ _ _ six c.bytes-7.ensures in
    sum_behind _ _ _ _ _ seven c.bytes-8.ensures
