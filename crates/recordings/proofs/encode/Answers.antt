use Rattle.std.proofs.Common.{◌≡◌, ℕ, ◌+◌, ◌*◌, List, [], ◌++◌, refl, sym, ap, arith, ◌∙◌}
use Rattle.model.specs.Bytes.{joined}
use Rattle.model.specs.Frame.{rows_frame}
use Rattle.model.specs.Recording.{recorded_bytes}
use Rattle.model.specs.Room.{over}
use Rattle.model.specs.declared.Edition.TheVariants.{One}
use Rattle.wire.specs.Placed.{placed}
use Rattle.wire.proofs.Room.{placed-behind}
use Rattle.frame.proofs.Written.{joined_none, placed_row}
use Rattle.recordings.proofs.Recordings.{long-rows, bytes_are}
use Rattle.recordings.proofs.encode.Goals as goal

pub loop-i-init : goal.loop-i-init
loop-i-init c =
    let r = c.args.r.now in
    let head = rows_frame One 3 r.count in
    c.put_frame.ensures
    ∙ placed-behind [] head c.args.out.now 0 refl (omega arith)
    ∙ ap (λ (l : List ℕ). over l c.args.out.now) (sym (joined_none head (recorded_bytes r.times r.kinds)))

pub loop-i-preserved : goal.loop-i-preserved
loop-i-preserved c =
    let r = c.args.r.now in
    let i = c.loop-i.i in
    let head = rows_frame One 3 r.count in
    let row = recorded_bytes r.times r.kinds in
    (rw c.to_be_bytes.ensures at c.place.ensures)
    ∙ ap (placed (row i) (5 + 3 * i)) c.loop-i.invariant
    ∙ placed_row head row c.args.out.now i (5 + 3 * i) (long-rows r.count r.times r.kinds i) (omega arith)

pub returns : goal.returns
returns c =
    let r = c.args.r.now in
    let all : c.loop-i.i ≡ r.count = omega arith in
    c.loop-i.invariant ∙ ap (λ n. over (rows_frame One 3 r.count ++ joined (recorded_bytes r.times r.kinds) n) c.args.out.now) all ∙ ap (λ (l : List ℕ). over l c.args.out.now) (bytes_are r)
