-- The verdict, instant by instant: what is known when the running total passes the budget, when no situation is left, and when the end is reached.
use Prim.Native.Nat.{ℕ, zero, suc, ◌+◌, ◌-◌, ◌<◌, ◌≤◌}
use native.Mathlib.Omega.{arith}
use native.Mathlib.Nat.{le_trans, le_refl, zero-add}
use native.Mathlib.Decide.{dec_lt}
use mathlib.Core.Path.{◌≡◌, refl, sym, ap, ap₂, subst, ◌∙◌}
use mathlib.Core.Logic.{◌⊎◌, inl, inr}
use mathlib.Core.List.{List}
use mathlib.Core.Bool.{Bool, true, false, true≢false}
use lib.ListN.{length}
use lib.Dec.{ltb}
use borrow.Author.Tests.{lt-ltb, le-ltb, eqb-true, eq-eqb, ne_eqb}
use Rattle.model.specs.Monitor.{Monitor}
use Rattle.model.specs.Trace.{Packet}
use Rattle.model.specs.Size.{size}
use Rattle.model.specs.Recording.{end_of}
use Rattle.model.specs.Situation.{move_limit, step_number, first_number}
use Rattle.model.specs.Layers.{count, is_empty, total, cost}
use Rattle.model.specs.Validation.{verdict, preferred, cost_of, last_of, passing_of, total_of, possible_after, pairs_at}
use Rattle.model.specs.declared.Readiness.TheVariants.{NotYet, NoMore}
use Rattle.model.specs.declared.Verdict.TheVariants.{Accepted, Rejected, Exhausted}
use Rattle.model.proofs.SetLaws.{FirstOf}
use Rattle.model.proofs.LayerLaws.{last-first, passing-first}

-- the first at which a test passes is t, if it passes at none before
first-is : (test : ℕ → Bool) (n r t : ℕ) → FirstOf test n 0 r → t ≤ n → ((i : ℕ) → i < t → test i ≡ false) → (test t ≡ true) ⊎ (t ≡ n) → r ≡ t
first-is test n r t f within before found = by (dec_lt r t) (dec_lt t r)
  where
    clash : (b : Bool) → b ≡ true → b ≡ false → ⊥
    clash b p q = let z : true ≡ false = sym p ∙ q in true≢false z

    early : r < t → ⊥
    early h = ended f.found
      where
        ended : (test r ≡ true) ⊎ (r ≡ 0 + n) → ⊥
        ended (inl e) = clash (test r) e (before r h)
        ended (inr e) = omega arith

    late : t < r → ⊥
    late h = ended found
      where
        ended : (test t ≡ true) ⊎ (t ≡ n) → ⊥
        ended (inl e) = clash (test t) e (f.before t (omega arith) h)
        ended (inr e) = let w = f.within in omega arith

    by : Dec (r < t) → Dec (t < r) → r ≡ t
    by (yes a) b = absurd (early a)
    by (no a) (yes b) = absurd (late b)
    by (no a) (no b) = omega arith

module _ (m : Monitor) (recording : List Packet) where
  -- a situation is left after each of the instants 0 to t
  abbrev pub LeftUpTo : ℕ → Type 0
  LeftUpTo t = (i : ℕ) → i ≤ t → 0 < count (possible_after m recording i)

  last_at : (t : ℕ) → t ≤ end_of recording → ((i : ℕ) → i < t → 0 < count (possible_after m recording i))
      → (count (possible_after m recording t) ≡ 0) ⊎ (t ≡ end_of recording) → last_of m recording ≡ t
  last_at t within left ended =
      first-is (λ i. is_empty (possible_after m recording i)) (end_of recording) (last_of m recording) t
      (last-first (size m) move_limit (step_number m recording) (first_number m) (end_of recording))
      within
      (λ i h. ne_eqb (count (possible_after m recording i)) 0 (λ e. let l = left i h in omega arith))
      (test ended)
    where
      test : (count (possible_after m recording t) ≡ 0) ⊎ (t ≡ end_of recording)
          → (is_empty (possible_after m recording t) ≡ true) ⊎ (t ≡ end_of recording)
      test (inl e) = inl (eq-eqb (count (possible_after m recording t)) 0 e)
      test (inr e) = inr e

  past-last : (t : ℕ) → LeftUpTo t → t < end_of recording → t < last_of m recording
  past-last t left h = by (dec_lt t (last_of m recording))
    where
      ended : (is_empty (possible_after m recording (last_of m recording)) ≡ true) ⊎ (last_of m recording ≡ 0 + end_of recording) → last_of m recording ≤ t → ⊥
      ended (inl e) l =
          let z = eqb-true (count (possible_after m recording (last_of m recording))) 0 e in
          let p = left (last_of m recording) l in
          omega arith
      ended (inr e) l = omega arith

      by : Dec (t < last_of m recording) → t < last_of m recording
      by (yes a) = a
      by (no a) =
          absurd
          (ended (last-first (size m) move_limit (step_number m recording) (first_number m) (end_of recording)).found (omega arith))

  total_suc : (t : ℕ) → total_of m recording (suc t) ≡ total_of m recording t + count (possible_after m recording t)
  unfolding total
  total_suc t = refl

  total_grows : (d t : ℕ) → total_of m recording t ≤ total_of m recording (d + t)
  total_grows zero t = subst (λ (n : ℕ). total_of m recording t ≤ total_of m recording n) (sym (zero-add t)) (le_refl (total_of m recording t))
  total_grows (suc d) t =
      let h = total_grows d t in
      let e = total_suc (d + t) in
      let s : suc (d + t) ≡ suc d + t = omega arith in
      subst (λ (n : ℕ). total_of m recording t ≤ total_of m recording n) s (omega arith)

  total_le_later : (t u : ℕ) → t ≤ u → total_of m recording t ≤ total_of m recording u
  total_le_later t u h =
      subst (λ (n : ℕ). total_of m recording t ≤ total_of m recording n) (omega arith) (total_grows (u - t) t)

  -- the budget is passed at instant t + 1
  pub exhausted_at : (budget t : ℕ) → t < end_of recording → LeftUpTo t → total_of m recording t ≤ budget → budget < total_of m recording (suc t)
      → verdict m recording budget ≡ Exhausted budget (suc t)
  unfolding verdict cost
  exhausted_at budget t h left fits past =
      let over : ltb budget (cost_of m recording) ≡ true =
      lt-ltb budget (cost_of m recording) (le_trans past (total_le_later (suc t) (last_of m recording) (past-last t left h)))
      in
      rw (over, verdict)
      (ap (λ (i : ℕ). Exhausted budget i)
      (first-is (λ i. ltb budget (total_of m recording i)) (last_of m recording) (passing_of m recording budget) (suc t)
      (passing-first (size m) move_limit (step_number m recording) (first_number m) (end_of recording) budget)
      (past-last t left h)
      (λ i e. le-ltb budget (total_of m recording i) (le_trans (total_le_later i t (omega arith)) fits))
      (inl (lt-ltb budget (total_of m recording (suc t)) past))))

  -- no situation is left after instant t + 1
  pub rejected_at : (budget t : ℕ) → t < end_of recording → LeftUpTo t → total_of m recording (suc t) ≤ budget → count (possible_after m recording (suc t)) ≡ 0
      → verdict m recording budget ≡ Rejected (total_of m recording (suc t)) (suc t) (pairs_at m recording NotYet (suc t)) (pairs_at m recording NoMore (suc t))
  unfolding verdict cost
  rejected_at budget t h left fits none =
      let last : last_of m recording ≡ suc t = last_at (suc t) h (λ i e. left i (omega arith)) (inl none) in
      let whole : cost_of m recording ≡ total_of m recording (suc t) = ap (total_of m recording) last in
      let within : ltb budget (cost_of m recording) ≡ false = le-ltb budget (cost_of m recording) (omega arith) in
      let empty : is_empty (possible_after m recording (last_of m recording)) ≡ true =
      eq-eqb (count (possible_after m recording (last_of m recording))) 0 (ap (λ (i : ℕ). count (possible_after m recording i)) last ∙ none)
      in
      rw (within, empty, verdict)
      (ap₂ (λ (c i : ℕ). Rejected c i (pairs_at m recording NotYet i) (pairs_at m recording NoMore i)) whole last)

  -- a situation is left after the last instant
  pub accepted_at : (budget : ℕ) → LeftUpTo (end_of recording) → total_of m recording (end_of recording) ≤ budget
      → verdict m recording budget ≡ Accepted (total_of m recording (end_of recording)) (length (preferred m recording))
  unfolding verdict cost
  accepted_at budget left fits =
      let last : last_of m recording ≡ end_of recording = last_at (end_of recording) (le_refl (end_of recording)) (λ i e. left i (omega arith)) (inr refl) in
      let whole : cost_of m recording ≡ total_of m recording (end_of recording) = ap (total_of m recording) last in
      let within : ltb budget (cost_of m recording) ≡ false = le-ltb budget (cost_of m recording) (omega arith) in
      let some : is_empty (possible_after m recording (last_of m recording)) ≡ false =
      ne_eqb (count (possible_after m recording (last_of m recording))) 0 (λ e. let l = left (last_of m recording) (omega arith) in omega arith)
      in
      rw (within, some, verdict) (ap (λ (c : ℕ). Accepted c (length (preferred m recording))) whole)
