use Rattle.std.proofs.Common.{refl}
use Rattle.std.proofs.lemmas.Result.{err_from_is_err_and}
use Rattle.columns.proofs.Columns.{all-below}
use Rattle.model.specs.Recording.{read_recording}
use Rattle.read_back.proofs.Kept.{recording_kept, read_back, not_written}
use Rattle.read_back.proofs.recording_back.Goals as goal

pub returns-in_err-n : goal.returns-in_err-n
returns-in_err-n c =
    let p = err_from_is_err_and c.from_residual.result c.from_residual.ensures.1 in
    rw (p.1, p.2) (not_written _ _ _ c.write_recording.ensures (read_recording c.args.table.now) _ _ _ c.in_err-n.was refl)

pub returns : goal.returns
returns c =
    let times = c.well_formed.1.0.1.1.1.0 in
    read_back _ _ _ c.write_recording.ensures (read_recording c.args.table.now) _ _ _ c.in_ok-n.was c.read_recording.ensures.value
    (recording_kept c.args.table.now c.args.r c.args.room.now _ (λ i h. all-below c.args.r.times times.0 times.1.1 i) _)
