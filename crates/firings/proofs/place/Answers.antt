use native.Mathlib.Omega.{arith}
use Rattle.firings.specs.Fired.{place_by}
use Rattle.firings.proofs.Bounds.{masks_fit, place_fits}
use Rattle.firings.proofs.place.Goals as goal

pub overflow_mul-result-2 : goal.overflow_mul-result-2
overflow_mul-result-2 c =
    let p = c.args.p in
    omega (arith, masks_fit p.shape.masks p.shape.states c.args.state c.args.w (omega arith) (omega arith) (omega arith) (omega arith))

pub returns : goal.returns
unfolding place_by
returns c =
    let p = c.args.p in
    omega (arith, place_fits p.shape.masks p.shape.states c.args.state c.args.w (omega arith) (omega arith) (omega arith) (omega arith) p.plane (omega arith))
