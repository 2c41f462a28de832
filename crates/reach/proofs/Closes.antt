-- Rounds over all transitions, from state 0 alone on: at least the states that as many steps lead to are in the set, and only reached ones.
use Prim.Native.Nat.{ℕ, suc}
use native.Mathlib.Omega.{arith}
use native.Mathlib.Decide.{ℕ_discrete}
use mathlib.Core.Path.{◌≡◌, sym, ap, subst, ◌∙◌}
use mathlib.Core.Logic.{⊎_elim}
use mathlib.Core.List.{List}
use mathlib.Core.Bool.{Bool, true, false}
use lib.ListN.{length, replicate}
use lib.Dec.{eqb}
use borrow.Author.Tests.{eqb-true, eq-eqb, ne_eqb}
use Rattle.model.specs.Monitor.{Monitor}
use Rattle.model.specs.Reach.{Reached, initial, led, StatesJudged, among, reached_in, is_reached, lowest_missing, states_answer}
use Rattle.model.specs.Table.{transition_in, monitor_of}
use Rattle.model.specs.declared.TableParts.{TableParts}
use Rattle.model.specs.First.{Reading}
use Rattle.model.proofs.Basics.{same_test, length-tab}
use Rattle.model.proofs.Reaching.{zero_there, zero_only, step_back, reached_test}
use Rattle.model.proofs.Missing.{missing_same}
use Rattle.model.proofs.TableStates.{states-judged}
use Rattle.bits.specs.Member.{mem, PutIn}
use Rattle.bits.proofs.Laws.{mem_zeros}
use Rattle.reach.specs.Spreading.{state_bytes, AllReached, Spread}

-- state 0 alone
pub zero_alone : (n : ℕ) (set : List ℕ) → PutIn 0 (replicate (suc n) 0) set → (s : ℕ) → mem set s ≡ eqb s 0
zero_alone n set p s = go (ℕ_discrete s 0)
  where
    go : Dec (s ≡ 0) → mem set s ≡ eqb s 0
    go (yes q) = ap (λ (x : ℕ). mem set x) q ∙ p.there (omega arith) ∙ sym (eq-eqb s 0 q)
    go (no q) = p.others s q ∙ mem_zeros (suc n) s ∙ sym (ne_eqb s 0 q)

pub record Closing (m : Monitor) (rounds : ℕ) (set : List ℕ) : Type 0 where
  pub size : length set ≡ state_bytes
  pub reached : AllReached m set
  pub found : (s : ℕ) → among s (reached_in rounds m.transitions) ≡ true → mem set s ≡ true

module _ (m : Monitor) where
  pub closing_first : (set : List ℕ) → length set ≡ state_bytes → ((s : ℕ) → mem set s ≡ eqb s 0) → Closing m 0 set
  closing_first set n e =
      record {
        size = n;
        reached = λ s h. subst (λ (x : ℕ). Reached m x) (sym (eqb-true s 0 (sym (e s) ∙ h))) initial;
        found = λ s h. e s ∙ eq-eqb s 0 (zero_only m.transitions s h);
      }

  pub closing_next : (rounds : ℕ) (before after : List ℕ) (grown : Bool) → Closing m rounds before → Spread m m.transitions before after grown → Closing m (suc rounds) after
  closing_next rounds before after grown c s =
      record {
        size = s.size ∙ c.size;
        reached = s.only c.reached;
        found = λ x h.
            ⊎_elim (λ q. ap (λ (y : ℕ). mem after y) q ∙ s.kept 0 (c.found 0 (zero_there m.transitions rounds)))
            (λ w. ap (λ (y : ℕ). mem after y) w.3 ∙ s.there w.0 w.1 (c.found w.0.source w.2))
            (step_back m.transitions rounds x h);
      }

  pub closing_all : (rounds : ℕ) (set : List ℕ) → rounds ≡ length m.transitions → Closing m rounds set → (s : ℕ) → mem set s ≡ is_reached m s
  unfolding is_reached
  closing_all rounds set e c s =
      same_test (mem set s) (is_reached m s) (λ h. (reached_test m s).0 (c.reached s h)) (λ h. c.found s (ap (λ (n : ℕ). among s (reached_in n m.transitions)) e ∙ h))

  -- a round that adds nothing leaves nothing to add
  pub closing_still : (rounds : ℕ) (before after : List ℕ) (grown : Bool) → Closing m rounds before → Spread m m.transitions before after grown → grown ≡ false → (s : ℕ) → mem after s ≡ is_reached m s
  closing_still rounds before after grown c s e x = same_test (mem after x) (is_reached m x) (λ h. (reached_test m x).0 (s.only c.reached x h)) (λ h. there ((reached_test m x).1 h))
    where
      first : mem after 0 ≡ true
      first = s.kept 0 (c.found 0 (zero_there m.transitions rounds))

      there : {x : ℕ} → Reached m x → mem after x ≡ true
      there initial = first
      there (led t i r) = s.there t i (ap (λ (l : List ℕ). mem l t.source) (sym (s.still e)) ∙ there r)

pub transitions-many : (t : TableParts) (n : ℕ) → n ≡ t.transitions → n ≡ length (monitor_of t).transitions
unfolding monitor_of
transitions-many t n e = e ∙ sym (length-tab (transition_in t) t.transitions)

-- what the reached states answer
pub answered : (m : Monitor) (set : List ℕ) (r : Reading) → ((s : ℕ) → mem set s ≡ is_reached m s) → r ≡ lowest_missing (mem set) m.states → (r ≡ states_answer m) × StatesJudged m r
unfolding states_answer
answered m set r same e =
    let q : r ≡ lowest_missing (is_reached m) m.states = e ∙ missing_same (mem set) (is_reached m) same m.states in
    (q, subst (λ (x : Reading). StatesJudged m x) (sym q) (states-judged m))
