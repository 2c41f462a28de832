-- `judge::pass` meets its contract: forward, and what that comes to. Assumes nothing.
use Prim.Native.Nat.{ℕ, ◌+◌, ◌*◌, ◌≤◌}
use mathlib.Core.Path.{sym, subst, ◌∙◌}
use borrow.Author.Rules.{rules}
use Rattle.engine.proofs.JudgeLaws.{forwarding, ending, concluded_from}
use Rattle.engine.proofs.judge.pass.Statement.{statement}
use Rattle.engine.proofs.judge.pass.Tie as tie

forward-requires : tie.Need-forward-outcome-requires
forward-requires c κs =
    search rules

conclude-requires : tie.Need-conclude-requires
conclude-requires c κs =
    let lent = c.before.before.before.before.before.before.before.before in
    let forwarded = lent.before.before.before.before.before.before.before.before.before.before.before.before in
    let start = forwarded.before.before.before.before.before.before.before.before.before.before.before.before.before.before.before.before.before.before.before.before in
    let (judging, found, zero, given, sized, cur, row) = start.requires in
    let kept = forwarded.forward-outcome.ensures in (
      ending _ _ _ _ _ _ judging _ _ _ _ found (kept.6 (forwarding _ _ _ _ _ _ judging _ _ found zero) given sized cur),
      subst (λ (n : ℕ). start.args.g.row * (start.args.g.last + 1) ≤ n) (sym kept.0) judging.long,
      given,
      record {
        few = sized.few;
        four = kept.2 ∙ sized.four;
        first = kept.3 ∙ sized.first;
        second = kept.4 ∙ sized.second;
      },
      kept.1 ∙ cur,
      row,
    )

same_length : tie.Need-shape_of-scratch
same_length c = search rules

same-length-2 : tie.Need-shape_of-room
same-length-2 c = search rules

same-length-3 : tie.Need-shape_of-cur
same-length-3 c = search rules

same-length-4 : tie.Need-shape_of-row
same-length-4 c = search rules

same-length-5 : tie.Need-shape_of-sets
same-length-5 c = search rules

same-length-6 : tie.Need-shape_of-one
same-length-6 c = search rules

same-length-7 : tie.Need-shape_of-two
same-length-7 c = search rules

same-length-8 : tie.Need-shape_of-memo
same-length-8 c = search rules

returns : tie.Need-returns
returns c =
    let concluded = c.before.before.before.before.before.before.before.before.before.before.before.before.before.before.before.before in
    let forwarded = concluded.before.before.before.before.before.before.before.before.before.before.before.before.before.before.before.before.before.before.before.before.before in
    concluded_from _ _ _ _ _ _ _ _ _ _ forwarded.forward-outcome.ensures.0 concluded.conclude.ensures

pub pass_spec : {M : Type 1} → statement M
pass_spec =
    tie.close
    (tie.spec
    forward-requires
    conclude-requires
    same_length
    same-length-2
    same-length-3
    same-length-4
    same-length-5
    same-length-6
    same-length-7
    same-length-8
    returns)
