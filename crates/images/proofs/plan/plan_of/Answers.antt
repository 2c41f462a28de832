use native.Mathlib.Omega.{arith}
use Rattle.images.proofs.LiveLaws.{all_near}
use Rattle.images.proofs.plan.plan_of.Goals as goal

pub overflow_mul-free-2 : goal.overflow_mul-free-2
overflow_mul-free-2 c =
    let h = c.args.h in
    omega (arith, all_near h (omega arith) (omega arith) (omega arith) h.states h.windows (omega arith) (omega arith))
