use Prim.Native.Nat.{◌+◌, ◌*◌}
use native.Mathlib.Omega.{arith}
use mathlib.Core.Path.{◌∙◌, ap}
use mathlib.Core.Bool.{Bool, ◌||◌}
use borrow.Author.Rules.{rules}
use Rattle.words.specs.Words.{up, below}
use Rattle.instants.specs.Digit.{is_highest}
use Rattle.images.proofs.marks.mark_clock.Statement.{statement}
use Rattle.images.proofs.marks.mark_clock.Tie as tie

mark-lowest-requires : tie.Need-mark_lowest-requires
mark-lowest-requires c κs = search rules

add-mark-highest : tie.Need-overflow_add-r
add-mark-highest c = search rules

mark-highest-requires : tie.Need-mark_highest-requires
mark-highest-requires c κs = search rules

same_length : tie.Need-shape_of-marks
same_length c = search rules

same-length-2 : tie.Need-shape_of-one
same-length-2 c = search rules

same-length-3 : tie.Need-shape_of-two
same-length-3 c = search rules

returns : tie.Need-returns
returns c =
    let high = c.before.before.before.before.before.before in
    let low = high.before.before.before.before.before.before.before.before.before.before in
    let a = low.before.before.before.before.before.before.before.args in
    let x = low.mark_lowest.ensures.0 in
    let y = high.mark_highest.ensures.0 in (
      λ i l. y.all i (omega (arith, x.size)) ∙ ap (λ (b : Bool). b || up (64 * a.n * (a.r + 1)) (below (64 * a.n) (is_highest a.clock.weight a.clock.values)) i) (x.all i l),
      y.size ∙ x.size,
      high.mark_highest.ensures.1 ∙ low.mark_lowest.ensures.1,
      high.mark_highest.ensures.2 ∙ low.mark_lowest.ensures.2,
    )

pub mark_clock_spec : {M : Type 1} → statement M
mark_clock_spec =
    tie.close
    (tie.spec
    mark-lowest-requires
    add-mark-highest
    mark-highest-requires
    same_length
    same-length-2
    same-length-3
    returns)
