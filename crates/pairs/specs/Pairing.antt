-- How many pairs of a situation of a row and a transition answer not yet, and how many no more.
use Rattle.std.specs.Prelude.{ℕ, ◌+◌, min, ◌≡◌, List, Bool, cond, ◌&&◌, Option}
use Rattle.model.specs.Limits.{size_limit}
use Rattle.model.specs.Pairs.{how_many, pairs, is_answer, answer_in}
use Rattle.model.specs.declared.Readiness.{Readiness}
use Rattle.model.specs.declared.Readiness.TheVariants.{NotYet, NoMore}
use Rattle.model.specs.declared.Situation.{Situation}
use Rattle.bits.specs.Member.{mem}
use Rattle.monitor.specs.From.{monitor_from}
use Rattle.situation.specs.Numbering.{situation_by}
use Rattle.situation.specs.declared.Shape.{Shape}
use Rattle.pairs.specs.declared.Pairs.{Pairs}

-- transition j answers a, in a situation, to what is heard
abbrev pub answers_as : List ℕ → List ℕ → Option ℕ → Situation → Readiness → ℕ → Bool
answers_as table offsets heard s a j = is_answer a (answer_in (monitor_from table offsets) heard s j)

-- situation n is in the row that starts at a bit, and there transition j answers a
abbrev pub answers_in_row : List ℕ → List ℕ → Shape → Option ℕ → List ℕ → ℕ → Readiness → (n j : ℕ) → Bool
answers_in_row table offsets h heard scratch from a n j = mem scratch (from + n) && answers_as table offsets heard (situation_by h n) a j

-- one answer is counted
pub record OneMore (before : Pairs) (answer : Option Readiness) (r : Pairs) : Type 0 where
  pub early : r.early ≡ before.early + cond (is_answer NotYet answer) 1 0
  pub late : r.late ≡ before.late + cond (is_answer NoMore answer) 1 0

-- the answers of the numbers below l are counted
pub record Tallied (test : Readiness → ℕ → Bool) (l : ℕ) (r : Pairs) : Type 0 where
  pub early : r.early ≡ how_many (test NotYet) l
  pub late : r.late ≡ how_many (test NoMore) l

-- those of the pairs of a number below n, and below the largest N, and one below l
pub record CountedIn (test : Readiness → ℕ → ℕ → Bool) (n l : ℕ) (r : Pairs) : Type 0 where
  pub early : r.early ≡ pairs (test NotYet) (min n size_limit) l
  pub late : r.late ≡ pairs (test NoMore) (min n size_limit) l
