-- `forward::forward` meets its contract: a sound table and recording have room; and then the first situation, and the rest.
use mathlib.Core.Path.{refl, sym, ◌∙◌}
use mathlib.Core.Bool.{false≢true}
use borrow.Author.Rules.{rules}
use Rattle.measures.proofs.Roominess.{first_fits, roomy-kept, roomy_by}
use Rattle.forward.proofs.forward.Statement.{statement}
use Rattle.forward.proofs.forward.Tie as tie

-- the places before a place

abbrev started : tie.After-slice_known-9-1 → tie.After-start
started c = c.before.before.before.before.before.before.before.before

is-roomy-requires : tie.Need-is_roomy-requires
is-roomy-requires c κs = search rules

returns : tie.Need-returns-then-not-is_roomy
returns c = (refl, refl, refl, refl, refl, refl, λ given working sized long. absurd (false≢true (sym (c.if-not-is_roomy.true) ∙ c.before.is_roomy.ensures.1 (roomy_by given.setting given.long))))

start-requires : tie.Need-start-requires
start-requires c κs = first_fits (c.before.before.before.is_roomy.ensures.0 (c.before.before.if-not-is_roomy.false))

forget-requires : tie.Need-forget-requires
forget-requires c κs = search rules

fill-requires : tie.Need-fill-requires
fill-requires c κs =
    let after = started c.before.before.before.before.before.before in
    let left = after.before.before.before in
    roomy-kept (left.before.is_roomy.ensures.0 (left.if-not-is_roomy.false)) after.start.ensures.0

same_length : tie.Need-shape_of-scratch
same_length c = search rules

same-length-2 : tie.Need-shape_of-cur
same-length-2 c = search rules

same-length-3 : tie.Need-shape_of-sets
same-length-3 c = search rules

same-length-4 : tie.Need-shape_of-one
same-length-4 c = search rules

same-length-5 : tie.Need-shape_of-two
same-length-5 c = search rules

same-length-6 : tie.Need-shape_of-memo
same-length-6 c = search rules

returns-2 : tie.Need-returns
returns-2 c =
    let filled = c.before.before.before.before.before.before.before.before.before.before.before.before in
    let forgot = filled.before.before.before.before.before.before.before.before.before in
    let after = started filled.before.before.before.before.before.before.before in
    let first = after.start.ensures in
    let done = filled.fill.ensures in
    let (same, known) = forgot.forget.ensures in (
      done.0 ∙ first.0,
      done.1 ∙ first.1,
      done.2,
      done.3,
      done.4,
      done.5 ∙ same,
      λ given working sized long.
          let (rows, holds) = first.2 _ _ _ given long in
          done.6 given.setting rows working (record { holds = holds; sized = sized; known = (known _ _).0 }),
    )

pub forward_spec : {M : Type 1} → statement M
forward_spec =
    tie.close
    (tie.spec
    is-roomy-requires
    returns
    start-requires
    forget-requires
    fill-requires
    same_length
    same-length-2
    same-length-3
    same-length-4
    same-length-5
    same-length-6
    returns-2)
