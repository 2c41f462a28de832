use mathlib.Core.Path.{sym, ◌∙◌}
use Rattle.firings.proofs.Planes.{one_rests, one_fires}
use Rattle.firings.proofs.fire_one.Goals as goal

pub returns-then-fires_now : goal.returns-then-fires_now
returns-then-fires_now c =
    one_fires _ _ _ _ _ _ _ (c.from-at.ensures ∙ c.short.ensures.0) _ _ _ (sym c.fires_now.ensures ∙ c.if-fires_now.true) (c.is_guess-guess.ensures c.args.offsets.now)
    (c.fire_windows.ensures c.args.offsets.now)

pub returns-else-fires_now : goal.returns-else-fires_now
returns-else-fires_now c = one_rests _ _ _ _ _ _ _ (c.from-at.ensures ∙ c.short.ensures.0) _ (sym c.fires_now.ensures ∙ c.if-fires_now.false)
