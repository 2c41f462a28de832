-- The least move into a set, by what is known of the moves one by one.
use Prim.Native.Nat.{ℕ, ◌+◌, ◌-◌, ◌≤◌, ◌<◌}
use native.Mathlib.Decide.{dec_lt}
use native.Mathlib.Omega.{arith}
use mathlib.Core.Path.{◌≡◌, refl, sym, ap, subst, ◌∙◌}
use mathlib.Core.Logic.{◌⊎◌, inl, inr}
use mathlib.Core.List.{List}
use mathlib.Core.Bool.{Bool, true, false, true≢false}
use Rattle.std.specs.Prelude.{Option, Some, None, MatchOption}
use Rattle.model.specs.Limits.{transition_limit}
use Rattle.model.specs.Situation as Model
use Rattle.model.specs.Situation.{keep, rest, add, rest_move, first_add, move_limit, move_of}
use Rattle.model.specs.Layers.{into, first_from}
use Rattle.model.proofs.Instants.{move_of-keep, move_rest, move_add}
use Rattle.model.proofs.SetLaws.{FirstOf, first_from-first}
use Rattle.model.specs.declared.Situation.{Situation}
use Rattle.monitor.specs.From.{transition_count}
use Rattle.situation.specs.declared.Shape.{Shape}
use Rattle.steps.proofs.Useless.{no_keep, no_transition, no_addition, no_addition_there, air_taken}
use Rattle.steps.specs.Stepping.{as_move, arrive_by, arrive_from, step_at}
use Rattle.steps.specs.declared.Move.{Move}
use Rattle.steps.specs.declared.Move.TheVariants.{Keep, Rest, Add}
use Rattle.layers.specs.declared.Least.{Least}
use Rattle.layers.specs.Into.{in_row, least_into, move_number, by_transition, Leads, first_of, FirstBy, LeastMove}
use Rattle.situation.specs.Numbering.{situation_by}

module _ (test : ℕ → Bool) where
  earliest : {n t r q : ℕ} → FirstOf test n t r → FirstOf test n t q → r < q → ⊥
  earliest {n} {t} {r} {q} f g h = by f.found
    where
      by : (test r ≡ true) ⊎ (r ≡ t + n) → ⊥
      by (inl e) = true≢false (sym e ∙ g.before r f.from h)
      by (inr e) = omega (arith, g.within)

  first-is : {n t r : ℕ} → FirstOf test n t r → r ≡ first_from test n t
  first-is {n} {t} {r} f = by (dec_lt r (first_from test n t)) (dec_lt (first_from test n t) r)
    where
      by : Dec (r < first_from test n t) → Dec (first_from test n t < r) → r ≡ first_from test n t
      by (yes h) w = absurd (earliest f (first_from-first test n t) h)
      by (no h) (yes m) = absurd (earliest (first_from-first test n t) f m)
      by (no h) (no m) = omega arith

module _ (test : ℕ → Bool) (arrive : Model.Move → Option ℕ) where
  abbrev leads : Model.Move → Bool
  leads a = into test (arrive a)

  abbrev least : ℕ
  least = first_from (λ k. leads (move_of k)) move_limit 0

  -- what a trial of one move answers, one of the first n by a transition, and the code

  abbrev pub Tried : Model.Move → Option Least → Type 0
  Tried a r = MatchOption r (leads a ≡ false) (Leads test arrive a)

  abbrev pub Sent : (ℕ → Model.Move) → ℕ → Option Least → Type 0
  Sent a n r = MatchOption r (first_of test arrive a n ≡ n) (FirstBy test arrive a n)

  before : (a : ℕ → Model.Move) (n j : ℕ) → j < first_of test arrive a n → leads (a j) ≡ false
  before a n j h = (first_from-first (λ i. leads (a i)) n 0).before j (omega arith) h

  module _ (a : ℕ → Model.Move) (n : ℕ) where
    pub first-at : (j : ℕ) (l : Least) → ((i : ℕ) → i < j → leads (a i) ≡ false) → j < n → Leads test arrive (a j) l → FirstBy test arrive a n l
    first-at j l none below t =
        let first : j ≡ first_of test arrive a n =
        first-is (λ i. leads (a i))
        (record { from = omega arith; within = omega arith; before = λ i g h. none i h; found = inl (ap (into test) t.to ∙ t.within) }) in
        record { below = omega arith; leads = subst (λ (i : ℕ). Leads test arrive (a i) l) first t }

    pub first_none : ((i : ℕ) → i < n → leads (a i) ≡ false) → first_of test arrive a n ≡ n
    first_none none =
        sym (first-is (λ i. leads (a i)) (record { from = omega arith; within = omega arith; before = λ i g h. none i h; found = inr (omega arith) }))

  abbrev pub Answered : Option Least → Type 0
  Answered r = MatchOption r (least ≡ move_limit) (LeastMove (λ k. arrive (move_of k)) least)

  -- no move below n leads into the set
  record None_below (n : ℕ) : Type 0 where
    keeps : (j : ℕ) → j < rest_move → j < n → leads (keep j) ≡ false
    rests : rest_move < n → leads rest ≡ false
    adds : (j : ℕ) → j < transition_limit → first_add + j < n → leads (add j) ≡ false

  none-below : {n : ℕ} → n ≤ move_limit → None_below n → (k : ℕ) → k < n → leads (move_of k) ≡ false
  none-below {n} limit b k h = by (dec_lt k rest_move) (dec_lt rest_move k)
    where
      by : Dec (k < rest_move) → Dec (rest_move < k) → leads (move_of k) ≡ false
      by (yes l) d = ap leads (move_of-keep k l) ∙ b.keeps k l h
      by (no l) (yes g) = ap leads (move_add k g) ∙ b.adds (k - first_add) (omega arith) (omega arith)
      by (no l) (no g) = ap leads (move_rest k (omega arith)) ∙ b.rests (omega arith)

  none_answered : None_below move_limit → Answered None
  none_answered b =
      sym (first-is (λ k. leads (move_of k)) (record { from = omega arith; within = omega arith; before = λ i l h. none-below (omega arith) b i h; found = inr (omega arith) }))

  answered : (l : Least) (a : Model.Move) → Leads test arrive a l → move_of (move_number l.k) ≡ a → move_number l.k < move_limit → None_below (move_number l.k)
      → Answered (Some l)
  answered l a t same few b =
      let k : ℕ = move_number l.k in
      let goes : arrive (move_of k) ≡ Some l.to = ap arrive same ∙ t.to in
      let first : k ≡ least =
      first-is (λ i. leads (move_of i)) (record { from = omega arith; within = omega arith; before = λ i g h. none-below (omega arith) b i h; found = inl (ap (into test) goes ∙ t.within) }) in
      record {
        number = first;
        few = omega arith;
        move = ap move_of (sym first) ∙ same ∙ sym t.move;
        to = ap (λ (i : ℕ). arrive (move_of i)) (sym first) ∙ goes;
      }

  -- a move of each kind as it is numbered

  keep_number : (k : Move) (j : ℕ) → as_move k ≡ keep j → move_number k ≡ j
  keep_number (Keep i) j e = cc
  keep_number Rest j e = cc
  keep_number (Add i) j e = cc

  rest_number : (k : Move) → as_move k ≡ rest → move_number k ≡ rest_move
  rest_number (Keep i) e = cc
  rest_number Rest e = refl
  rest_number (Add i) e = cc

  add_number : (k : Move) (j : ℕ) → as_move k ≡ add j → move_number k ≡ first_add + j
  add_number (Keep i) j e = cc
  add_number Rest j e = cc
  add_number (Add i) j e = let same : i ≡ j = cc in omega arith

  -- while the air is taken
  pub only-rest : ((a : Model.Move) → (a ≡ rest → ⊥) → leads a ≡ false) → (r : Option Least) → Tried rest r → Answered r
  only-rest other None t = none_answered (record { keeps = λ j h l. other (keep j) (λ e. cc); rests = λ l. t; adds = λ j l g. other (add j) (λ e. cc) })
  only-rest other (Some l) t =
      let n : move_number l.k ≡ rest_move = rest_number l.k t.move in
      answered l rest t (move_rest (move_number l.k) n) (omega arith)
      (record { keeps = λ j h g. other (keep j) (λ e. cc); rests = λ g. absurd (omega arith); adds = λ j g i. other (add j) (λ e. cc) })

  module _ (count : ℕ) (few : count ≤ transition_limit) where
    -- where a row is recorded
    pub keep-or_rest : ((j : ℕ) → count ≤ j → j < transition_limit → leads (keep j) ≡ false) → ((j : ℕ) → leads (add j) ≡ false) → (q r : Option Least) → Sent keep count q
        → MatchOption q (Tried rest r) (λ l. r ≡ Some l) → Answered r
    keep-or_rest absent none (Some l) r f e =
        let j : ℕ = first_of test arrive keep count in
        let n : move_number l.k ≡ j = keep_number l.k j f.leads.move in
        rw e
        (answered l (keep j) f.leads (ap move_of n ∙ move_of-keep j (omega (arith, f.below))) (omega (arith, f.below))
        (record { keeps = λ i h g. before keep count i (omega arith); rests = λ g. absurd (omega (arith, f.below)); adds = λ i g m. none i }))
    keep-or_rest absent none None r f t = at r t
      where
        kept : (j : ℕ) → j < transition_limit → leads (keep j) ≡ false
        kept j within = on (dec_lt j count)
          where
            on : Dec (j < count) → leads (keep j) ≡ false
            on (yes h) = before keep count j (omega (arith, f))
            on (no h) = absent j (omega arith) within

        at : (x : Option Least) → Tried rest x → Answered x
        at None u = none_answered (record { keeps = λ j h l. kept j h; rests = λ l. u; adds = λ j l g. none j })
        at (Some l) u =
            let n : move_number l.k ≡ rest_move = rest_number l.k u.move in
            answered l rest u (move_rest (move_number l.k) n) (omega arith)
            (record { keeps = λ j h g. kept j h; rests = λ g. absurd (omega arith); adds = λ j g i. none j })

    -- where none is
    pub rest-or_add : ((j : ℕ) → leads (keep j) ≡ false) → ((j : ℕ) → count ≤ j → j < transition_limit → leads (add j) ≡ false) → (q r : Option Least) → Tried rest q
        → MatchOption q (Sent add count r) (λ l. r ≡ Some l) → Answered r
    rest-or_add none absent (Some l) r t e =
        let n : move_number l.k ≡ rest_move = rest_number l.k t.move in
        rw e
        (answered l rest t (move_rest (move_number l.k) n) (omega arith)
        (record { keeps = λ j h g. none j; rests = λ g. absurd (omega arith); adds = λ j g i. absurd (omega arith) }))
    rest-or_add none absent None r t f = at r f
      where
        at : (x : Option Least) → Sent add count x → Answered x
        at None u = none_answered (record { keeps = λ j h l. none j; rests = λ l. t; adds = λ j l g. added j l })
          where
            added : (j : ℕ) → j < transition_limit → leads (add j) ≡ false
            added j within = on (dec_lt j count)
              where
                on : Dec (j < count) → leads (add j) ≡ false
                on (yes h) = before add count j (omega (arith, u))
                on (no h) = absent j (omega arith) within
        at (Some l) u =
            let j : ℕ = first_of test arrive add count in
            let n : move_number l.k ≡ first_add + j = add_number l.k j u.leads.move in
            let same : move_of (move_number l.k) ≡ add j = move_add (move_number l.k) (omega arith) ∙ ap add (omega arith) in
            answered l (add j) u.leads same (omega (arith, u.below))
            (record { keeps = λ i h g. none i; rests = λ g. t; adds = λ i g m. before add count i (omega arith) })

-- .. where the code tries them, from situation n
module _ (table offsets : List ℕ) (h : Shape) (heard : Option ℕ) (scratch : List ℕ) (to size n : ℕ) (s : Situation) (is : s ≡ situation_by h n) where
  abbrev test : ℕ → Bool
  test = in_row scratch to size

  abbrev arrives : Option ℕ → Model.Move → Option ℕ
  arrives x a = arrive_by table offsets h x s a

  abbrev pub Rested : Option Least → Type 0
  Rested r = Tried test (arrives heard) rest r

  abbrev pub Moved : Option Least → Type 0
  Moved r = Sent test (arrives heard) (by_transition heard) (transition_count table) r

  abbrev pub Found : Option Least → Type 0
  Found r = let least = least_into (step_at table offsets h heard) scratch to size n in MatchOption r (least ≡ move_limit) (LeastMove (step_at table offsets h heard n) least)

  found : (r : Option Least) → Answered test (arrives heard) r → Found r
  unfolding arrive_from
  found r a = subst (λ (x : Situation). Answered test (λ m. arrive_by table offsets h heard x m) r) is a

  pub taken : 0 < s.air → (r : Option Least) → Rested r → Found r
  taken air r t = found r (only-rest test (arrives heard) (λ a other. ap (into test) (air_taken table offsets h s heard a air other)) r t)

  pub heard_row : (a : ℕ) → heard ≡ Some a → (q r : Option Least) → Moved q → MatchOption q (Rested r) (λ l. r ≡ Some l) → Found r
  heard_row a e q r f t =
      found r
      (subst
      (λ (x : Option ℕ). Sent test (arrives x) (by_transition x) (transition_count table) q → MatchOption q (Tried test (arrives x) rest r) (λ l. r ≡ Some l) → Answered test (arrives x) r)
      (sym e)
      (keep-or_rest test (arrives (Some a)) (transition_count table) (omega arith)
      (λ j e l. ap (into test) (no_transition table offsets h s a j (omega arith)))
      (λ j. ap (into test) (no_addition_there table offsets h s a j)) q r)
      f t)

  pub no_row : heard ≡ None → (q r : Option Least) → Rested q → MatchOption q (Moved r) (λ l. r ≡ Some l) → Found r
  no_row e q r t f =
      found r
      (subst
      (λ (x : Option ℕ). Tried test (arrives x) rest q → MatchOption q (Sent test (arrives x) (by_transition x) (transition_count table) r) (λ l. r ≡ Some l) → Answered test (arrives x) r)
      (sym e)
      (rest-or_add test (arrives None) (transition_count table) (omega arith)
      (λ j. ap (into test) (no_keep table offsets h s j))
      (λ j e l. ap (into test) (no_addition table offsets h s j (omega arith))) q r)
      t f)
