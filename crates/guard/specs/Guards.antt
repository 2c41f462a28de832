-- What is seen of a guard, by what the definition reads.
use Rattle.std.specs.Prelude.{ℕ, max, List, cond, not, ◌&&◌, eqb, Option, Some, None}
use Rattle.model.specs.Guard.{Guard, at_most, at_least, GuardRead, malformed, up_to, holds, largest}
use Rattle.model.specs.Readiness.{waited}
use Rattle.waits.specs.Waits.{waits_of, others, common}
use Rattle.guard.specs.declared.Seen.{Seen}

-- where a guard ends, its value at the variables v and the clocks c, the waits after which it holds, and the largest bound of clock i in it
abbrev pub seen_of : (i v : ℕ) → List ℕ → Guard → ℕ → Seen
seen_of i v c g k = record { next = k; later = waits_of (λ d. holds g v (waited d c)); value = holds g v c; bound = largest i g }

abbrev pub seen : (i v : ℕ) → List ℕ → GuardRead → Option Seen
seen i v c malformed = None
seen i v c (up_to g k) = Some (seen_of i v c g k)

-- the comparison with a code, of clock n with bound t
abbrev pub clock_leaf : (code n t next : ℕ) → GuardRead
clock_leaf code n t next = cond (eqb code 1) (up_to (at_most n t) next) (cond (eqb code 2) (up_to (at_least n t) next) malformed)

-- a negation, by what is seen of its guard
abbrev pub opposite : Seen → Seen
opposite s = record s { value = not s.value; later = others s.later }

-- a conjunction, by what is seen of its guards
abbrev pub both : Seen → Seen → Seen
both s t = record { next = t.next; later = common s.later t.later; value = s.value && t.value; bound = max s.bound t.bound }
