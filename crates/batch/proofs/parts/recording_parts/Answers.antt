use Rattle.std.proofs.Common.{ap, ◌*◌}
use Rattle.model.specs.Limits.{row_limit}
use Rattle.batch.specs.Parts.{recording_given}
use Rattle.batch.proofs.Filling.{same-filled}
use Rattle.batch.proofs.parts.recording_parts.Goals as goal

pub returns : goal.returns
unfolding recording_given
returns c =
    let filler = c.byte-filler.ensures.0 in
    let rows = c.word-rows.ensures.0 in
    λ i. record {
      count = c.word.ensures.0 i;
      times = same-filled _ row_limit _ _ _ _ _ c.words_over.ensures rows (ap (λ n. 257 * n) filler) i;
      kinds = same-filled _ row_limit _ _ _ _ _ c.bytes_over.ensures rows filler i;
    }
