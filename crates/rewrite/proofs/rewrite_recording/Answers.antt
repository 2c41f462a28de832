use Rattle.std.proofs.Common.{arith}
use Rattle.std.proofs.lemmas.Result.{err_from_is_err_and}
use Rattle.model.specs.Recording.{recording_answer, recording_parts, read_recording, write_recording}
use Rattle.rewrite.specs.Rewriting.{rewrite_recording}
use Rattle.rewrite.proofs.Again.{recording_same, read-refused, read-rewritten}
use Rattle.rewrite.proofs.rewrite_recording.Goals as goal

pub returns-in_err-parts : goal.returns-in_err-parts
unfolding rewrite_recording read_recording
returns-in_err-parts c =
    let table = c.args.table.now in
    let b = c.args.b.now in
    let room = c.args.room.now in
    let same = recording_same table b room (λ i. omega (arith, c.type_inv.b i)) in
    let p = err_from_is_err_and c.from_residual.result c.from_residual.ensures.1 in
    rw (p.1, p.2) (read-refused (recording_answer table b) (recording_parts b) b room (λ r. write_recording table r room) same _ c.in_err-parts.ensures.value)

pub returns : goal.returns
unfolding rewrite_recording read_recording
returns c =
    let table = c.args.table.now in
    let b = c.args.b.now in
    let room = c.args.room.now in
    let same = recording_same table b room (λ i. omega (arith, c.type_inv.b i)) in
    read-rewritten (recording_answer table b) (recording_parts b) b room (λ r. write_recording table r room) same _ c.in_ok-parts.ensures.value _ _ c.write_recording.ensures
