use Rattle.std.proofs.Common.{◌+◌, ◌^◌, ◌∙◌}
use Rattle.model.specs.Size.{cap, table_size, largest_airtime}
use Rattle.model.specs.Table.{monitor_of}
use Rattle.sizes.proofs.Sizes.{product_least}
use Rattle.sizes.proofs.table_size.Goals as goal

pub returns : goal.returns
unfolding table_size monitor_of
returns c =
    let t = c.args.t in
    let m = monitor_of t in
    product_least t.states (2 ^ t.variables) (cap m 0 + 1) (cap m 1 + 1) (largest_airtime m + 1) 65537
    c.power.result c.times.result c.times-clocks.result c.times-2.result c.times-3.result
    (c.times.ensures.0 ∙ rw (c.clock_values-2.ensures.0, c.largest_airtime.ensures.0))
    (c.times-clocks.ensures.0 ∙ rw c.clock_values.ensures.0)
    c.power.ensures.0
    c.times-2.ensures.0
    (c.times-3.ensures.0 ∙ rw c.from.ensures)
