use borrow.Author.Rules.{rules}
use Prim.Native.Nat.{ℕ}
use mathlib.Core.Path.{ap₂, ◌∙◌}
use mathlib.Core.List.{[], ◌∷◌}
use Rattle.situation.specs.Numbering.{number_by, capped_by}
use Rattle.measures.proofs.first_number.Statement.{statement}
use Rattle.measures.proofs.first_number.Tie as tie

first-clock-requires : tie.Need-first_clock-requires
first-clock-requires c κs = search rules

first-clock-requires-2 : tie.Need-first_clock-requires-2
first-clock-requires-2 c κs = search rules

number-requires : tie.Need-number-requires
number-requires c κs = search rules

returns : tie.Need-returns
unfolding capped_by
returns c =
    c.number.ensures
    ∙ ap₂ (λ (a b : ℕ). number_by c.before.before.before.args.h (record { state = 0; variables = 0; clocks = a ∷ b ∷ []; air = 0; window = 0 }))
    c.before.before.first_clock.ensures c.before.first_clock-2.ensures

pub first_number_spec : {M : Type 1} → statement M
first_number_spec =
    tie.close (tie.spec first-clock-requires first-clock-requires-2 number-requires returns)
