-- Sets of situations, works, the cost, and the least list of moves: over any number N of situations, any number K of moves, and any step,
-- which gives for an instant, a situation and a move the situation just before the next instant, or none.
use Rattle.std.specs.Prelude.{ℕ, zero, suc, ◌+◌, List, [], ◌∷◌, Bool, true, false, cond, ◌||◌, get_or, set, replicate, ltb, eqb, Option, Some, None}
use Rattle.model.specs.Bytes.{tab}

-- how many are in a set, a Bool for each number below N
unfoldable pub count : List Bool → ℕ
count [] = 0
count (b ∷ s) = cond b 1 0 + count s

abbrev pub is_empty : List Bool → Bool
is_empty s = eqb (count s) 0

abbrev pub mark : List Bool → Option ℕ → List Bool
mark s None = s
mark s (Some n) = set s n true

-- where a step arrives, tested
abbrev pub into : (ℕ → Bool) → Option ℕ → Bool
into test None = false
into test (Some n) = test n

abbrev pub leads_into : List Bool → Option ℕ → Bool
leads_into s o = into (λ n. get_or s n false) o

-- the first of t, t + 1, .. (n of them) at which a test passes; t + n if none
unfoldable pub first_from : (ℕ → Bool) → ℕ → ℕ → ℕ
first_from test zero t = t
first_from test (suc n) t = elim (test t) [ true ↦ t | false ↦ first_from test n (suc t) ]

module _ (N K : ℕ) (step : ℕ → ℕ → ℕ → Option ℕ) where
  -- a set with what the first k moves give from situation n at instant t
  unfoldable pub spread : (k t n : ℕ) → List Bool → List Bool
  spread zero t n s = s
  spread (suc k) t n s = mark (spread k t n s) (step t n k)

  -- what the first n situations give, those of them that are in s
  unfoldable pub image : (n t : ℕ) → List Bool → List Bool
  image zero t s = replicate N false
  image (suc n) t s = elim (get_or s n false) [ true ↦ spread K t n (image n t s) | false ↦ image n t s ]

  -- the situations possible after instant t, which is just before instant t + 1: "Each possible situation gives, by each of its moves and then one tick, one
  -- possible just before the next instant; no others are"
  unfoldable pub layer : (first t : ℕ) → List Bool
  layer first zero = set (replicate N false) first true
  layer first (suc t) = image N (suc t) (layer first t)

  -- "The work of an instant is the number of distinct situations possible just before its moves": the works of the instants 1 to t, added up
  unfoldable pub total : (first t : ℕ) → ℕ
  total first zero = 0
  total first (suc t) = total first t + count (layer first t)

  -- the last instant that counts: T, "or [..] the first instant after whose moves no situation is left"
  unfoldable pub last_instant : (first T : ℕ) → ℕ
  last_instant first T = first_from (λ t. is_empty (layer first t)) T 0

  -- "The cost is the sum of works from instant 1 to T, or to the first instant after whose moves no situation is left"
  unfoldable pub cost : (first T : ℕ) → ℕ
  cost first T = total first (last_instant first T)

  -- "first instant whose running total passes it", of those that count
  unfoldable pub passing : (first T budget : ℕ) → ℕ
  passing first T budget = first_from (λ t. ltb budget (total first t)) (last_instant first T) 0

  -- one of the first k moves leads at instant t from n into s
  unfoldable pub leads : List Bool → (t n k : ℕ) → Bool
  leads s t n zero = false
  leads s t n (suc k) = leads s t n k || leads_into s (step t n k)

  -- the situations from which the end can be reached, after instant t, after t + 1, .. with left instants to go at the first
  unfoldable pub live : (left t : ℕ) → List (List Bool)
  live zero t = replicate N true ∷ []
  live (suc left) t = earlier (suc t) (live left (suc t))
    where
      earlier : ℕ → List (List Bool) → List (List Bool)
      earlier u [] = []
      earlier u (s ∷ ss) = tab (λ n. leads s u n K) N ∷ s ∷ ss

  -- those after instant t, with left instants to go
  abbrev pub alive : (left t : ℕ) → List Bool
  alive left t = get_or (live left t) 0 []

  abbrev pub arrived : Option ℕ → ℕ
  arrived None = 0
  arrived (Some n) = n

  -- the least moves from n, the first at instant t + 1, that stay within the sets
  unfoldable pub walk : List (List Bool) → (t n : ℕ) → List ℕ
  walk [] t n = []
  walk (s ∷ ss) t n =
      let k : ℕ = first_from (λ k. leads_into s (step (suc t) n k)) K 0 in
      k ∷ walk ss (suc t) (arrived (step (suc t) n k))

  abbrev pub later : List (List Bool) → List (List Bool)
  later [] = []
  later (s ∷ ss) = ss

  -- the least moves from n after instant t, with left instants to go
  abbrev pub least_from : (left t n : ℕ) → List ℕ
  least_from left t n = walk (later (live left t)) t n

  -- the least list of T moves that can be carried from the first situation to the end
  unfoldable pub least_moves : (first T : ℕ) → List ℕ
  least_moves first T = least_from T 0 first
