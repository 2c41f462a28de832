-- A verdict and what it is called under a rule have the same numbers.
use mathlib.Core.Path.{◌≡◌, refl}
use Rattle.std.specs.Prelude.{Ok, Err}
use Rattle.model.specs.First.{Validating}
use Rattle.model.specs.Numbers.{verdict_values, ruled_values, verdict_counts, ruled_counts}
use Rattle.model.specs.Validation.{ruled}
use Rattle.model.specs.declared.Verdict.TheVariants.{Accepted, Rejected, Exhausted}

pub same_values : (v : Validating) → ruled_values (ruled v) ≡ verdict_values v
same_values (Ok (Accepted cost rows)) = refl
same_values (Ok (Rejected cost instant not_yet no_more)) = refl
same_values (Ok (Exhausted budget instant)) = refl
same_values (Err why) = refl

pub same_counts : (v : Validating) → ruled_counts (ruled v) ≡ verdict_counts v
same_counts (Ok (Accepted cost rows)) = refl
same_counts (Ok (Rejected cost instant not_yet no_more)) = refl
same_counts (Ok (Exhausted budget instant)) = refl
same_counts (Err why) = refl
