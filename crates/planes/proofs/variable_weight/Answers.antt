use Rattle.planes.proofs.Digits.{one_shifted, variable_near}
use Rattle.planes.proofs.variable_weight.Goals as goal

pub overflow_mul-result-2 : goal.overflow_mul-result-2
overflow_mul-result-2 c =
    let a = c.args in
    record { fits = rw (one_shifted a.x c.requires.0) (variable_near a.first a.second a.x 0 c.requires.1 c.requires.0) }
