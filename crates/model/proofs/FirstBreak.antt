-- 43 under a rule, in R-7's words: where no other rule is broken, it names the row by which the rule first is.
use Prim.Native.Nat.{ℕ, zero, suc, ◌+◌, ◌≤◌}
use native.Mathlib.Omega.{arith}
use native.Mathlib.Numerals.{add-one}
use mathlib.Core.Path.{◌≡◌, refl, sym, ap, ◌∙◌}
use mathlib.Core.List.{List, [], ◌∷◌}
use mathlib.Core.Bool.{Bool, true, false, cond, ◌&&◌, false≢true}
use Rattle.std.specs.Prelude.{Option, Some, None}
use Rattle.std.specs.Option.{option_map}
use Rattle.std.proofs.lemmas.Option.{none-some, same_Some}
use mathlib.Core.Logic.{◌↔◌}
use lib.ListN.{take}
use lib.Dec.{leb, eqb}
use borrow.Author.Tests.{ne_eqb}
use Rattle.model.specs.Rule.{no_rule, KeepsRule, window_behind, allows}
use Rattle.model.specs.Monitor.{Monitor, Config, under, fires, to_unit, within_rule}
use Rattle.model.specs.Trace.{Packet}
use Rattle.model.specs.Witness.{Row, kept, removed, is_removed, in_place, marked}
use Rattle.model.specs.Rules.{Progress, begin, none_before, is_next, none_at, others, guessed, sends, removes, keeps, adds, account, broken}
use Rattle.model.specs.Claims.{sent_rows, guesses, FirstBreaks}
use Rattle.model.specs.declared.Edition.{Edition}
use Rattle.model.proofs.RowLaws.{by_mark, behind_sent, sends-fires, first-row}
use Rattle.model.proofs.RuleLaws.{Keeping, row_by_row}

-- the same progress, but for the window
abbrev at : Progress → ℕ → Progress
at p w = record { before = p.before; left = p.left; now = p.now; config = p.config; free = p.free; window = w }

-- what stands behind a test that passed
through : {A : Type 0} (t : Bool) {x y z : Option A} {a : A} → (x ≡ Some a → y ≡ z) → cond t x None ≡ Some a → cond t y None ≡ z
through true f e = f e
through false {a = a} f e = absurd (none-some a e)

module _ (m : Monitor) where
  -- the window behind a kept or added row, none if the rule forbids the row ..
  abbrev behind_allowed : ℕ → Row → Option ℕ
  behind_allowed w r = cond (allows m.rule w (guessed m r)) (Some (window_behind m.rule w (guessed m r))) None

  -- .. and behind any row
  abbrev behind : ℕ → Row → Option ℕ
  behind w r = cond (is_removed r) (Some w) (behind_allowed w r)

  -- one row that breaks no other rule: the rule decides, and what it leads to differs in the window alone

  sends-behind : (q p : Progress) (w : ℕ) (r : Row) (left : List Packet) → sends (under no_rule m) q r left ≡ Some p
      → sends m (at q w) r left ≡ option_map (at p) (behind_allowed w r)
  unfolding sends within_rule fires
  sends-behind q p w r left e =
      let (c, f, same, _) = sends-fires (under no_rule m) q r left p e in
      rw f (go c same (allows m.rule w (guessed m r)))
    where
      v : ℕ
      v = window_behind m.rule w (guessed m r)

      go : (c : Config) → behind_sent (under no_rule m) q r left c ≡ p → (a : Bool)
          → option_map (behind_sent m (at q w) r left) (cond a (Some c) None) ≡ option_map (at p) (cond a (Some v) None)
      go c same true = ap (λ (x : Progress). Some (at x v)) same
      go c same false = refl

  mark-behind : (mark t k j : ℕ) (q p : Progress) (w : ℕ) → by_mark (under no_rule m) q (marked mark t k j) ≡ Some p
      → by_mark m (at q w) (marked mark t k j) ≡ option_map (at p) (behind w (marked mark t k j))
  unfolding keeps removes adds
  mark-behind zero t k j q p w = let r : Row = marked 0 t k j in through (is_next q.left r) (sends-behind q p w r (others q.left))
  mark-behind (suc zero) t k j q p w = through (is_next q.left (marked 1 t k j) && to_unit m k) (ap (option_map (λ (x : Progress). at x w)))
  mark-behind (suc (suc n)) t k j q p w =
      let other : (i : ℕ) → i ≤ 1 → eqb (suc (suc n)) i ≡ false = λ i h. ne_eqb (suc (suc n)) i (λ e. omega arith) in
      rw (other kept (omega arith), other removed (omega arith))
      (through (none_at q.left t) (sends-behind q p w (marked (suc (suc n)) t k j) q.left))

  account-behind : (edition : Edition) (q p : Progress) (w : ℕ) (r : Row) → account edition (under no_rule m) q r ≡ Some p
      → account edition m (at q w) r ≡ option_map (at p) (behind w r)
  unfolding account
  account-behind edition q p w r =
      through (in_place edition q.before r && none_before q.left r.time && leb q.free r.time)
      (mark-behind r.mark r.time r.kind r.transition q p w)

  -- the kept and added rows keep the rule behind those of a mask
  abbrev Kept : ℕ → List Row → Type 0
  Kept w rows = Keeping m.rule w (guesses m (sent_rows rows))

  -- the same of rows behind one more, which the rule may forbid
  abbrev KeptBehind : Option ℕ → List Row → Type 0
  KeptBehind None rows = ⊥
  KeptBehind (Some w) rows = Kept w rows

  kept_cons : (w : ℕ) (r : Row) (rows : List Row) → Kept w (r ∷ rows) ↔ KeptBehind (behind w r) rows
  unfolding sent_rows guesses
  kept_cons w r rows = go (is_removed r) (allows m.rule w (guessed m r)) refl
    where
      go : (b a : Bool) → allows m.rule w (guessed m r) ≡ a
          → Keeping m.rule w (guesses m (cond b (sent_rows rows) (r ∷ sent_rows rows)))
          ↔ KeptBehind (cond b (Some w) (cond a (Some (window_behind m.rule w (guessed m r))) None)) rows
      go true a e = (λ k. k, λ k. k)
      go false true e = (λ k. k.1, λ k. (e, k))
      go false false e = (λ k. false≢true (sym e ∙ k.0), λ k. absurd k)

  -- of rows numbered from n, behind those of a mask, row j is the first by which they do not keep the rule
  abbrev Over : ℕ → ℕ → List Row → ℕ → Type 0
  Over w n rows j = (i : ℕ) × (j ≡ i + n) × Kept w (take i rows) × (Kept w (take (suc i) rows) → ⊥)

  first-over : (edition : Edition) (rows : List Row) (q : Progress) (w n j : ℕ) → broken edition (under no_rule m) q n rows ≡ None
      → (broken edition m (at q w) n rows ≡ Some j) ↔ Over w n rows j
  unfolding broken sent_rows guesses
  first-over edition [] q w n j e = (λ h. absurd (none-some j (sym e ∙ h)), λ (i, _, _, h). absurd (h tt))
  first-over edition (r ∷ rs) q w n j e =
      let (p, a, u) = first-row edition (under no_rule m) q n r rs e in
      rw (account-behind edition q p w r a, broken) (go p (behind w r) (kept_cons w r) (λ v. first-over edition rs p v (suc n) j u))
    where
      go : (p : Progress) (o : Option ℕ) → ((rows : List Row) → Kept w (r ∷ rows) ↔ KeptBehind o rows)
          → ((v : ℕ) → (broken edition m (at p v) (suc n) rs ≡ Some j) ↔ Over v (suc n) rs j)
          → (◌≡◌ {A = Option ℕ} (elim (option_map (at p) o) [ None ↦ Some n | Some x ↦ broken edition m x (suc n) rs ]) (Some j)) ↔ Over w n (r ∷ rs) j
      go p None each again = (λ h. (0, omega (arith, same_Some n j h), tt, (each []).0), from)
        where
          from : Over w n (r ∷ rs) j → Some n ≡ Some j
          from (zero, h, _, _) = ap {B = Option ℕ} Some (omega arith)
          from (suc i, _, k, _) = absurd ((each (take i rs)).0 k)
      go p (Some v) each again = (onto, from)
        where
          onto : broken edition m (at p v) (suc n) rs ≡ Some j → Over w n (r ∷ rs) j
          onto h =
              let (i, f, k, o) = (again v).0 h in
              (suc i, omega arith, (each (take i rs)).1 k, λ z. o ((each (take (suc i) rs)).0 z))

          from : Over w n (r ∷ rs) j → broken edition m (at p v) (suc n) rs ≡ Some j
          from (zero, _, _, o) = absurd (o ((each []).1 tt))
          from (suc i, f, k, o) = (again v).1 (i, omega arith, (each (take i rs)).0 k, λ z. o ((each (take (suc i) rs)).1 z))

pub first_breaks : (edition : Edition) (m : Monitor) (recording : List Packet) (rows : List Row) → 1 ≤ m.rule.window
    → broken edition (under no_rule m) (begin recording) 0 rows ≡ None
    → (i : ℕ) → (broken edition m (begin recording) 0 rows ≡ Some i) ↔ FirstBreaks m rows i
first_breaks edition m recording rows l e i = (
  λ h. onto (over.0 h),
  λ f. over.1 (i, omega arith, (by_rows i).1 f.before, λ z. f.here (rw add-one ((by_rows (suc i)).0 z))),
)
  where
    over : (broken edition m (begin recording) 0 rows ≡ Some i) ↔ Over m 0 0 rows i
    over = first-over m edition rows (begin recording) 0 0 i e

    by_rows : (n : ℕ) → Kept m 0 (take n rows) ↔ KeepsRule m.rule (guesses m (sent_rows (take n rows)))
    by_rows n = row_by_row m.rule (guesses m (sent_rows (take n rows))) l

    onto : Over m 0 0 rows i → FirstBreaks m rows i
    onto (n, h, k, o) =
        let same : i ≡ n = omega arith in
        rw same (record { before = (by_rows n).0 k; here = rw add-one (λ z. o ((by_rows (suc n)).1 z)) })
