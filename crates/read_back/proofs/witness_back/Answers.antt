use Rattle.std.proofs.Common.{refl}
use Rattle.std.proofs.lemmas.Result.{err_from_is_err_and}
use Rattle.columns.proofs.Columns.{all-below}
use Rattle.model.specs.Witness.{read_witness}
use Rattle.read_back.proofs.Kept.{witness_kept, read_back, not_written}
use Rattle.read_back.proofs.witness_back.Goals as goal

pub returns-in_err-n : goal.returns-in_err-n
returns-in_err-n c =
    let p = err_from_is_err_and c.from_residual.result c.from_residual.ensures.1 in
    rw (p.1, p.2) (not_written _ _ _ c.write_witness.ensures (read_witness c.args.edition) _ _ _ c.in_err-n.was refl)

pub returns : goal.returns
returns c =
    let times = c.well_formed.1.0.1.1.1.1.0 in
    read_back _ _ _ c.write_witness.ensures (read_witness c.args.edition) _ _ _ c.in_ok-n.was c.read_witness.ensures.value
    (witness_kept c.args.edition c.args.w c.args.room.now _ (λ i h. all-below c.args.w.times times.0 times.1.1 i) _)
