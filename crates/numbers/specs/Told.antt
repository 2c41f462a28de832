-- The numbers that an answer tells.
use Rattle.model.specs.Numbers.{Values, values, Counts, counts}
use Rattle.numbers.specs.declared.Answer.{Answer}
use Rattle.numbers.specs.declared.VerdictAnswer.{VerdictAnswer}

abbrev pub told : Answer → Values
told a = values a.number a.second a.third

-- a verdict's, and its two counts

abbrev pub verdict_told : VerdictAnswer → Values
verdict_told a = values a.number a.second a.third

abbrev pub counts_told : VerdictAnswer → Counts
counts_told a = counts a.not_yet a.no_more
