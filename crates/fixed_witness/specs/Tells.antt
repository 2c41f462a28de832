use Rattle.std.specs.Prelude.{ℕ, ◌≡◌, Bool, true, Ok}
use Rattle.model.specs.First.{Validating}
use Rattle.model.specs.declared.Verdict.TheVariants.{Accepted}

-- a test is true of a verdict that is accepted at this cost and with so many rows, and of no other
abbrev pub Tells : Validating → (cost rows : ℕ) → Bool → Type 0
Tells v cost rows r = (r ≡ true → v ≡ Ok (Accepted cost rows)) × (v ≡ Ok (Accepted cost rows) → r ≡ true)
