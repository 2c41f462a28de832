-- `forward::instant` meets its contract: the set is advanced, stored in the next row, and counted there.
use native.Mathlib.Omega.{arith}
use mathlib.Core.Path.{◌∙◌}
use borrow.Author.Rules.{rules}
use Rattle.measures.proofs.Rows.{row-stored}
use Rattle.forward.proofs.ForwardRows.{count-few, within, next_fits, begin-fits, end_fits, holds_next, turned}
use Rattle.forward.proofs.instant.Statement.{statement}
use Rattle.forward.proofs.instant.Tie as tie

-- the places before a place

abbrev entry : tie.After-advance → tie.Start
entry c = c.before.before.before.before.before.before.before.before.before.before.before.before.before.before.before.before.before.before.before

abbrev advanced : tie.After-struct_known-1 → tie.After-advance
advanced c = c.before.before.before.before.before.before.before.before.before.before.before

add-heard-at : tie.Need-overflow_add-t
add-heard-at c = search rules

heard-at-requires : tie.Need-heard_at-heard-requires
heard-at-requires c κs = search rules

advance-requires : tie.Need-advance-requires
advance-requires c κs = search rules

add-from : tie.Need-overflow_add-from
add-from c = search rules

mul-from : tie.Need-overflow_mul-from
mul-from c = let given = (entry (advanced c)).requires in begin-fits given.0 given.1

add-to : tie.Need-overflow_add-to
add-to c = let given = (entry (advanced c.before)).requires in end_fits given.0 given.1

sub-store : tie.Need-slice_bounds-store-count
sub-store c = search rules

part-store-start : tie.Need-slice_bounds-store-start
part-store-start c = search rules

part-store-end : tie.Need-slice_bounds-store-end
part-store-end c = let given = (entry (advanced c.before)).requires in omega (arith, next_fits given.0 given.1)

store-requires : tie.Need-store-requires
store-requires c κs = search rules

sub-count : tie.Need-slice_bounds-count-count
sub-count c = search rules

part-count-start : tie.Need-slice_bounds-count-start
part-count-start c = search rules

part-count-end : tie.Need-slice_bounds-count-end
part-count-end c =
    let stored = c.before.before in
    let given = (entry (advanced stored.before.before.before)).requires in
    let fits = next_fits given.0 given.1 in
    omega (arith, fits, (row-stored _ _ _ fits stored.store.ensures).long)

count-requires : tie.Need-count-requires
count-requires c κs = search rules

same_length : tie.Need-shape_of-scratch
same_length c = search rules

same-length-2 : tie.Need-shape_of-cur
same-length-2 c = search rules

same-length-3 : tie.Need-shape_of-sets
same-length-3 c = search rules

same-length-4 : tie.Need-shape_of-one
same-length-4 c = search rules

same-length-5 : tie.Need-shape_of-two
same-length-5 c = search rules

same-length-6 : tie.Need-shape_of-memo
same-length-6 c = search rules

returns : tie.Need-returns
returns c =
    let stored = c.before.before.before.before in
    let after = advanced stored.before.before.before in
    let (roomy, more) = (entry after).requires in
    let kept = after.advance.ensures in
    let row = row-stored _ _ _ (next_fits roomy more) stored.store.ensures in (
      row.long,
      kept.0,
      kept.1,
      kept.2,
      kept.3,
      kept.4,
      count-few _ _ _ roomy.narrow c.count.ensures,
      λ turn given carry.
          let ready = given.ready in
          let (moved, known) = kept.5 _ _ given (within ready _ _ carry.holds) carry.sized carry.known in
          let holds = holds_next turn ready carry.holds after.before.before.before.before.before.before.before.heard_at-heard.ensures kept.0 moved in (
            turned turn ready holds row c.count.ensures,
            record {
              holds = holds;
              sized = record { few = carry.sized.few; four = kept.1 ∙ carry.sized.four; first = kept.2 ∙ carry.sized.first; second = kept.3 ∙ carry.sized.second };
              known = known;
            },
          ),
    )

pub instant_spec : {M : Type 1} → statement M
instant_spec =
    tie.close
    (tie.spec
    add-heard-at
    heard-at-requires
    advance-requires
    add-from
    mul-from
    add-to
    sub-store
    part-store-start
    part-store-end
    store-requires
    sub-count
    part-count-start
    part-count-end
    count-requires
    same_length
    same-length-2
    same-length-3
    same-length-4
    same-length-5
    same-length-6
    returns)
