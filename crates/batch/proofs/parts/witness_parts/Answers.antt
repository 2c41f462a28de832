use Rattle.std.proofs.Common.{ap, ◌*◌}
use Rattle.model.specs.Limits.{witness_places}
use Rattle.batch.specs.Parts.{witness_given}
use Rattle.batch.proofs.Filling.{same-filled}
use Rattle.batch.proofs.parts.witness_parts.Goals as goal

pub returns : goal.returns
unfolding witness_given
returns c =
    let filler = c.byte-filler.ensures.0 in
    let rows = c.word-rows.ensures.0 in
    λ i. record {
      count = c.long.ensures.0 i;
      marks = same-filled _ witness_places _ _ _ _ _ c.bytes_over.ensures rows filler i;
      times = same-filled _ witness_places _ _ _ _ _ c.words_over.ensures rows (ap (λ n. 257 * n) filler) i;
      kinds = same-filled _ witness_places _ _ _ _ _ c.bytes_over-2.ensures rows filler i;
      transitions = same-filled _ witness_places _ _ _ _ _ c.bytes_over-3.ensures rows filler i;
    }
