use Rattle.std.proofs.Common.{ap, ◌*◌}
use Rattle.model.specs.Limits.{kind_limit, transition_limit, guard_limit}
use Rattle.batch.specs.Parts.{table_given}
use Rattle.batch.proofs.Filling.{same-filled}
use Rattle.batch.proofs.parts.table_parts.Goals as goal

pub returns : goal.returns
unfolding table_given
returns c =
    let filler = c.byte-filler.ensures.0 in
    let kinds = c.byte-kinds.ensures.0 in
    let transitions = c.byte-transitions.ensures.0 in
    λ i. record {
      version = c.byte.ensures.0 i;
      states = c.byte-2.ensures.0 i;
      variables = c.byte-3.ensures.0 i;
      clocks = c.byte-4.ensures.0 i;
      kinds = c.byte-5.ensures.0 i;
      transitions = c.byte-6.ensures.0 i;
      directions = same-filled _ kind_limit _ _ _ _ _ c.bytes_over.ensures kinds filler i;
      airtimes = same-filled _ kind_limit _ _ _ _ _ c.bytes_over-2.ensures kinds filler i;
      devices = same-filled _ kind_limit _ _ _ _ _ c.bytes_over-3.ensures kinds filler i;
      sources = same-filled _ transition_limit _ _ _ _ _ c.bytes_over-4.ensures transitions filler i;
      targets = same-filled _ transition_limit _ _ _ _ _ c.bytes_over-5.ensures transitions filler i;
      triggers = same-filled _ transition_limit _ _ _ _ _ c.bytes_over-6.ensures transitions filler i;
      sets = same-filled _ transition_limit _ _ _ _ _ c.bytes_over-7.ensures transitions filler i;
      clears = same-filled _ transition_limit _ _ _ _ _ c.bytes_over-8.ensures transitions filler i;
      resets = same-filled _ transition_limit _ _ _ _ _ c.bytes_over-9.ensures transitions filler i;
      lengths = same-filled _ transition_limit _ _ _ _ _ c.bytes_over-10.ensures transitions filler i;
      guards = same-filled _ (guard_limit * transition_limit) _ _ _ _ _ c.bytes_over-11.ensures (ap (λ n. guard_limit * n) transitions) filler i;
    }
