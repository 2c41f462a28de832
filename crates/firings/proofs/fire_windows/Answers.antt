use native.Mathlib.Omega.{arith}
use mathlib.Core.Path.{◌≡◌, sym, subst, ◌∙◌}
use mathlib.Core.List.{List}
use Prim.Native.Nat.{ℕ, ◌+◌}
use Rattle.words.specs.Words.{Joined}
use Rattle.monitor.specs.From.{transition_from}
use Rattle.situation.specs.Ruled.{ruled_from}
use Rattle.firings.specs.Fired.{fired_by}
use Rattle.firings.proofs.Planes.{windows_none, windows-more, windows-over}
use Rattle.firings.proofs.fire_windows.Goals as goal
use Rattle.firings.proofs.fire_windows.Goals.{then-allows, else-allows}

pub loop-w-init : goal.loop-w-init
loop-w-init c = λ offsets. windows_none _ _ _ _ _ _ _ _

pub loop-w-preserved : goal.loop-w-preserved
loop-w-preserved c =
    let r = c.args.r.now in
    let P : List ℕ → Type 0 =
    λ d.
    (offsets : List ℕ)
    → Joined (fired_by r.plan (ruled_from r.plan.shape r.table.now offsets) r.src.now r.planes.now c.args.guess (transition_from r.table.now c.args.at) c.args.guard (c.loop-w.w + 1)) c.args.dst.now d in
    elim c.if-allows.branch [
      | then-allows q ↦ subst P (sym q.dst-is)
          (λ offsets. windows-more _ _ _ _ _ _ _ _ _ _ _ (sym c.allows.ensures ∙ q.if-allows.true) (c.loop-w.invariant offsets) (q.fire_from.ensures offsets))
      | else-allows q ↦ subst P (sym q.dst-is) (λ offsets. windows-over _ _ _ _ _ _ _ _ _ _ (sym c.allows.ensures ∙ q.if-allows.false) (c.loop-w.invariant offsets))
    ]

pub returns : goal.returns
returns c =
    let r = c.args.r.now in
    let done : c.loop-w.w ≡ r.plan.shape.windows = omega arith in
    λ offsets.
    subst (λ (n : ℕ). Joined (fired_by r.plan (ruled_from r.plan.shape r.table.now offsets) r.src.now r.planes.now c.args.guess (transition_from r.table.now c.args.at) c.args.guard n) c.args.dst.now c.loop-w.dst) done
    (c.loop-w.invariant offsets)
