use native.Mathlib.Omega.{arith}
use mathlib.Core.Path.{◌≡◌}
use mathlib.Core.Bool.{true, false}
use Rattle.std.proofs.Common.{rules}
use Rattle.std.proofs.lemmas.Iterator.{cases_from_any, YieldsList-from_range}
use Rattle.images.specs.Living.{in_window}
use Rattle.images.proofs.LiveLaws.{live_is}
use Rattle.images.proofs.live.is_live.Goals as goal

pub returns : goal.returns
returns c =
    let a = c.args in
    live_is a.h a.s.now a.state c.any.result
    (cases_from_any _ _ _ (λ w. in_window a.h a.s.now a.state w ≡ true) (λ w. in_window a.h a.s.now a.state w ≡ false) c.any.ensures.ran
    (YieldsList-from_range 0 a.h.windows a.h.windows (cc) (omega arith)) (λ x q k. search rules) (λ x q k. search rules))
