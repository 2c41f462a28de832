-- The pairs that a rejection counts (document 02, R-10): "over the situations just before the moves of the rejected instant with the air free, and the transitions of
-- the recorded kind from their state: how many such pairs are not yet, and how many no more".
use Rattle.std.specs.Prelude.{ℕ, zero, suc, ◌+◌, List, Bool, true, false, cond, ◌&&◌, get_or, eqb, Option, Some, None}
use Rattle.std.specs.Option.{option_and_then}
use Rattle.model.specs.Monitor.{Monitor, tried}
use Rattle.model.specs.Situation.{config_of, situation_of}
use Rattle.model.specs.declared.Readiness.{Readiness}
use Rattle.model.specs.declared.Readiness.TheVariants.{Yes, NotYet, NoMore}
use Rattle.model.specs.declared.Situation.{Situation}

-- how many numbers below n pass
unfoldable pub how_many : (ℕ → Bool) → ℕ → ℕ
how_many p zero = 0
how_many p (suc n) = how_many p n + cond (p n) 1 0

-- how many pairs of a number below n and one below l pass
unfoldable pub pairs : (ℕ → ℕ → Bool) → (n l : ℕ) → ℕ
pairs p zero l = 0
pairs p (suc n) l = pairs p n l + how_many (p n) l

-- are two answers the same?
abbrev pub same_answer : Readiness → Readiness → Bool
same_answer Yes Yes = true
same_answer NotYet NotYet = true
same_answer NoMore NoMore = true
same_answer Yes NotYet = false
same_answer Yes NoMore = false
same_answer NotYet Yes = false
same_answer NotYet NoMore = false
same_answer NoMore Yes = false
same_answer NoMore NotYet = false

abbrev pub is_answer : Readiness → Option Readiness → Bool
is_answer a None = false
is_answer a (Some b) = same_answer a b

-- what transition j answers, in a situation, to what is recorded: none if the air is taken
unfoldable pub answer_in : Monitor → Option ℕ → Situation → ℕ → Option Readiness
answer_in m recorded s j = cond (eqb s.air 0) (option_and_then (λ k. tried m j k (config_of s)) recorded) None

-- situation n is in a set, and there transition j answers a
abbrev pub is_pair : Monitor → List Bool → Option ℕ → Readiness → (n j : ℕ) → Bool
is_pair m set recorded a n j = get_or set n false && is_answer a (answer_in m recorded (situation_of m n) j)
