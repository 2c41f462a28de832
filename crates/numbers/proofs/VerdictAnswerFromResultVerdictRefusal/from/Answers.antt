use Rattle.std.proofs.Common.{rules, ap, ◌∙◌, ◌≡◌}
use Rattle.model.specs.Numbers.{ruled_values, ruled_counts}
use Rattle.model.specs.Validation.{ruled}
use Rattle.numbers.proofs.Ruling.{same_values, same_counts}
use Rattle.numbers.proofs.VerdictAnswerFromResultVerdictRefusal.from.Goals as goal

pub returns : goal.returns
returns c =
    let is : c.map.result ≡ ruled c.args.verdict = search rules in
    (c.into.ensures.0 ∙ ap ruled_values is ∙ same_values c.args.verdict, c.into.ensures.1 ∙ ap ruled_counts is ∙ same_counts c.args.verdict)
