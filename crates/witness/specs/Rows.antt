-- Rows of a witness as the code has them, by value.
use Rattle.std.specs.Prelude.{ℕ, ◌<◌, ◌≡◌, Option}
use Rattle.std.specs.Option.{option_map}
use Rattle.model.specs.Witness.{Row}
use Rattle.witness.specs.declared.Entry.{Entry}

abbrev pub row_of : Entry → Row
row_of e = record { mark = e.mark; time = e.time; kind = e.kind; transition = e.transition }

-- the row before, where there is one
abbrev pub before_of : Option Entry → Option Row
before_of before = option_map row_of before

-- what is given for each number below the count is the row of that number
pub record GivesRows (gives : ℕ → Entry → Type 0) (count : ℕ) (rows : ℕ → Row) : Type 0 where
  pub given : (i : ℕ) → i < count → (e : Entry) → gives i e → row_of e ≡ rows i
