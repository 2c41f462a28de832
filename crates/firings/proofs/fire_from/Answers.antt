use Rattle.monitor.specs.From.{transition_from, monitor_from}
use Rattle.firings.proofs.Planes.{each_row, each_fired}
use Rattle.firings.proofs.fire_from.Goals as goal

pub returns-then-keeps : goal.returns-then-keeps
unfolding transition_from monitor_from
returns-then-keeps c =
    λ offsets.
    each_fired _ _ _ _ _ _ _ _ _ _ _ _ _ _ _ _ _ _ c.byte.ensures.0
    c.place-here.ensures.0 (c.requires.3 offsets) c.window_behind-window.ensures (cc (c.place.ensures.0, c.byte-2.ensures.0)) c.byte-count.ensures.0 c.byte-sets.ensures.0 c.byte-clears.ensures.0
    (each_row _ _ _ _ _ _ _ _ _ _ _ _ (λ v. c.keeps.ensures v c.if-keeps.true) c.carry.ensures)

pub returns-else-keeps : goal.returns-else-keeps
unfolding transition_from monitor_from
returns-else-keeps c =
    λ offsets.
    each_fired _ _ _ _ _ _ _ _ _ _ _ _ _ _ _ _ _ _ c.byte.ensures.0
    c.place-here.ensures.0 (c.requires.3 offsets) c.window_behind-window.ensures (cc (c.place.ensures.0, c.byte-2.ensures.0)) c.byte-count.ensures.0 c.byte-sets.ensures.0 c.byte-clears.ensures.0
    c.carry_each.ensures
