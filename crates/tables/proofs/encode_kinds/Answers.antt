use Rattle.std.proofs.Common.{◌≡◌, ℕ, List, take, sym, ap, ap₂, arith, ◌∙◌}
use Rattle.model.specs.Room.{over}
use Rattle.model.specs.Kinds.{kind_at, kind_fields, kind_bytes}
use Rattle.wire.specs.Placed.{placed}
use Rattle.frame.proofs.Written.{joined_none, placed_row}
use Rattle.tables.proofs.Encoded.{kinds-long, kind-room}
use Rattle.tables.proofs.encode_kinds.Goals as goal

pub loop-i-init : goal.loop-i-init
loop-i-init c = λ head room h k e. e ∙ ap (λ (l : List ℕ). over l room) (sym (joined_none head (kind_bytes c.args.t)))

pub loop-i-preserved : goal.loop-i-preserved
unfolding kind_bytes
loop-i-preserved c = λ head room h k e.
    let t = c.args.t in
    let l = c.loop-i in
    let record_is : take c.kind_width-width.result (kind_fields t l.i) ≡ kind_bytes t l.i = ap (λ (n : ℕ). take n (kind_fields t l.i)) c.kind_width-width.ensures in
    c.place.ensures
    ∙ ap₂ (λ (r : List ℕ) (at : ℕ). placed r at l.out) record_is c.kind_at.ensures
    ∙ ap (placed (kind_bytes t l.i) (kind_at t.version l.i)) (l.invariant head room h k e)
    ∙ placed_row head (kind_bytes t) room l.i (kind_at t.version l.i) (kinds-long t head l.i h) (omega (arith, kind-room t l.i (omega arith)))
