use Rattle.std.proofs.Common.{◌≡◌, ◌*◌, ap, arith, ◌∙◌}
use Rattle.model.specs.Limits.{guard_limit, transition_limit}
use Rattle.model.specs.Bytes.{joined, padded}
use Rattle.model.specs.Table.{transitions_at, guard_place}
use Rattle.tables.proofs.Tables.{next_at, guard_inside, guard_turn}
use Rattle.tables.proofs.guard_places.Goals as goal

pub slice_bounds-place-end : goal.slice_bounds-place-end
slice_bounds-place-end c =
    omega (arith, (guard_inside c.args.b.now c.requires c.loop-i.i c.loop-i.at c.byte.result (omega arith) c.loop-i.invariant.starts c.byte.ensures.0).1)

pub loop-i-preserved : goal.loop-i-preserved
loop-i-preserved c =
    let l = c.loop-i in
    record {
      low = omega arith;
      starts = next_at c.args.b.now l.at l.i c.byte.result l.invariant.starts c.byte.ensures.0;
      fills = c.place.ensures ∙ guard_turn c.args.b.now c.requires l.i l.at c.byte.result (omega arith) l.invariant.starts c.byte.ensures.0 l.guards l.invariant.fills;
    }

pub returns : goal.returns
returns c =
    let all : c.loop-i.i ≡ transitions_at c.args.b.now = omega arith in
    c.loop-i.invariant.fills ∙ ap (λ n. padded (guard_limit * transition_limit) (joined (guard_place c.args.b.now) n)) all
