use native.Mathlib.Omega.{arith}
use Rattle.images.specs.Living.{in_window}
use Rattle.images.proofs.LiveLaws.{numbers_near, place_near}
use Rattle.images.proofs.live.in_window.Goals as goal

pub overflow_mul-numbers-3 : goal.overflow_mul-numbers-3
overflow_mul-numbers-3 c = omega (arith, place_near c.args.h (omega arith) (omega arith) (omega arith) (omega arith) c.args.state c.args.w (omega arith) (omega arith))

pub returns : goal.returns
unfolding in_window
returns c =
    let h = c.args.h in
    c.any_in.ensures
    (omega (arith, place_near h (omega arith) (omega arith) (omega arith) (omega arith) c.args.state c.args.w (omega arith) (omega arith)))
    (omega (arith, numbers_near h (omega arith) (omega arith) (omega arith)))
