use Prim.Native.Nat.{ℕ}
use native.Mathlib.Omega.{arith}
use mathlib.Core.Path.{sym, ap, ◌∙◌}
use mathlib.Core.Bool.{Bool}
use Rattle.words.specs.Words.{bit}
use Rattle.firings.proofs.UsedLaws.{bit-more}
use Rattle.images.specs.Living.{is_live}
use Rattle.images.proofs.LiveLaws.{mask_none, mask_over, mask_more}
use Rattle.images.proofs.live.live_states.Goals as goal
use Rattle.images.proofs.live.live_states.Goals.{then-is_live, else-is_live}

pub loop-state-init : goal.loop-state-init
loop-state-init c = mask_none (is_live c.args.h c.args.s.now)

pub loop-state-preserved : goal.loop-state-preserved
loop-state-preserved c =
    let f : ℕ → Bool = is_live c.args.h c.args.s.now in
    let state = c.loop-state.state in
    let live = c.loop-state.live in
    λ q.
    elim c.if-is_live.branch [
      | then-is_live w ↦ ap (λ (x : ℕ). bit x q) w.live-is
          ∙ bit-more live state q (omega arith)
          ∙ mask_more f state q (bit live q) (c.loop-state.invariant q) (sym c.is_live.ensures ∙ w.if-is_live.true)
      | else-is_live w ↦ ap (λ (x : ℕ). bit x q) w.live-is
          ∙ mask_over f state q (bit live q) (c.loop-state.invariant q) (sym c.is_live.ensures ∙ w.if-is_live.false)
    ]
