-- The least list of moves that can be carried: the sets from which the end can be reached, and the walk that stays within them.
use Prim.Native.Nat.{ℕ, zero, suc, ◌+◌, ◌<◌, ◌≤◌}
use native.Mathlib.Nat.{not-suc-le-zero}
use native.Mathlib.Omega.{arith}
use native.Mathlib.Decide.{dec_lt}
use mathlib.Core.Path.{◌≡◌, refl, sym, ap, ◌∙◌}
use mathlib.Core.List.{List, [], ◌∷◌}
use mathlib.Core.Bool.{Bool, true, false, ◌||◌, false≢true}
use Rattle.std.specs.Prelude.{Option, Some}
use mathlib.Core.Logic.{◌⊎◌, inl, inr, ◌↔◌}
use lib.ListN.{length, get_or, replicate, length-replicate, get_or-replicate}
use Rattle.model.specs.Bytes.{tab}
use Rattle.model.specs.Layers.{leads_into, first_from, leads, live, alive, arrived, walk, later, least_from, least_moves}
use Rattle.model.proofs.Basics.{or_cases, or_left, or_right, length-tab, get_or-tab}
use Rattle.model.proofs.Chains.{Leads, Less}
use Rattle.model.proofs.SetLaws.{member_within, leads_into_member, FirstOf, first_from-first}

module _ (N K : ℕ) (step : ℕ → ℕ → ℕ → Option ℕ) where
  -- one of the first k moves leads at instant t from n into s
  abbrev pub Enters : List Bool → (t n k : ℕ) → Type 0
  Enters s t n k = (j : ℕ) × (x : ℕ) × (j < k) × (step t n j ≡ Some x) × (get_or s x false ≡ true)

  pub leads_enters : (s : List Bool) (t n k : ℕ) → (leads N K step s t n k ≡ true) ↔ Enters s t n k
  unfolding leads
  leads_enters s t n zero = (λ e. absurd (false≢true e), λ w. absurd (not-suc-le-zero w.2))
  leads_enters s t n (suc k) = go (leads_enters s t n k) (leads_into_member s (step t n k))
    where
      go : (leads N K step s t n k ≡ true) ↔ Enters s t n k → (leads_into s (step t n k) ≡ true) ↔ ((x : ℕ) × (step t n k ≡ Some x) × (get_or s x false ≡ true))
          → (leads N K step s t n (suc k) ≡ true) ↔ Enters s t n (suc k)
      go before now = (λ e. there (or_cases (leads N K step s t n k) (leads_into s (step t n k)) e), λ w. back w (dec_lt w.0 k))
        where
          more : Enters s t n k → Enters s t n (suc k)
          more w = (w.0, w.1, omega (arith, w.2), w.3, w.4)

          there : (leads N K step s t n k ≡ true) ⊎ (leads_into s (step t n k) ≡ true) → Enters s t n (suc k)
          there (inl e) = more (before.0 e)
          there (inr e) = let w = now.0 e in (k, w.0, omega arith, w.1, w.2)

          back : (w : Enters s t n (suc k)) → Dec (w.0 < k) → leads N K step s t n k || leads_into s (step t n k) ≡ true
          back w (yes l) = or_left (leads N K step s t n k) (leads_into s (step t n k)) (before.1 (w.0, w.1, l, w.3, w.4))
          back w (no l) =
              let p : w.0 ≡ k = omega (arith, w.2) in
              or_right (leads N K step s t n k) (leads_into s (step t n k)) (now.1 (w.1, cc w.3, w.4))

  live_cons : (left t : ℕ) → (s : List Bool) × (ss : List (List Bool)) × (live N K step left t ≡ s ∷ ss)
  unfolding live
  live_cons zero t = (replicate N true, [], refl)
  live_cons (suc left) t =
      let (s, ss, e) = live_cons left (suc t) in
      (tab (λ n. leads N K step s (suc t) n K) N, s ∷ ss, rw e)

  pub live_suc : (left t : ℕ) → live N K step (suc left) t ≡ tab (λ n. leads N K step (alive N K step left (suc t)) (suc t) n K) N ∷ live N K step left (suc t)
  unfolding live
  live_suc left t =
      let (s, ss, e) = live_cons left (suc t) in
      rw e

  pub live-first : (left t : ℕ) → live N K step left t ≡ alive N K step left t ∷ later N K step (live N K step left t)
  live-first left t =
      let (s, ss, e) = live_cons left t in
      rw e

  pub length-live : (left t : ℕ) → length (live N K step left t) ≡ suc left
  unfolding live
  length-live zero t = refl
  length-live (suc left) t = rw (live_suc left t) (ap suc (length-live left (suc t)))

  pub length-alive : (left t : ℕ) → length (alive N K step left t) ≡ N
  unfolding live
  length-alive zero t = length-replicate N true
  length-alive (suc left) t = rw (live_suc left t) (length-tab (λ n. leads N K step (alive N K step left (suc t)) (suc t) n K) N)

  pub alive_suc : (left t n : ℕ) → n < N → get_or (alive N K step (suc left) t) n false ≡ leads N K step (alive N K step left (suc t)) (suc t) n K
  alive_suc left t n h = rw (live_suc left t) (get_or-tab (λ x. leads N K step (alive N K step left (suc t)) (suc t) x K) false N n h)

  -- some list of left moves can be carried from n, the first at instant t + 1
  abbrev pub Carries : (left t n : ℕ) → Type 0
  Carries left t n = (ks : List ℕ) × (z : ℕ) × (length ks ≡ left) × Leads N K step t n ks z

  pub alive_carries : (left t n : ℕ) → n < N → (get_or (alive N K step left t) n false ≡ true) ↔ Carries left t n
  unfolding live
  alive_carries zero t n h = (λ e. ([], n, refl, refl), λ w. get_or-replicate N n true false h)
  alive_carries (suc left) t n h = go (λ x. alive_carries left (suc t) x) (leads_enters (alive N K step left (suc t)) (suc t) n K)
    where
      go : ((x : ℕ) → x < N → (get_or (alive N K step left (suc t)) x false ≡ true) ↔ Carries left (suc t) x)
          → (leads N K step (alive N K step left (suc t)) (suc t) n K ≡ true) ↔ Enters (alive N K step left (suc t)) (suc t) n K
          → (get_or (alive N K step (suc left) t) n false ≡ true) ↔ Carries (suc left) t n
      go after now = (there, λ w. back w.0 w.1 w.2 w.3)
        where
          there : get_or (alive N K step (suc left) t) n false ≡ true → Carries (suc left) t n
          there e =
              let (j, x, l, p, m) = now.0 (sym (alive_suc left t n h) ∙ e) in
              let i : x < N = omega (arith, member_within (alive N K step left (suc t)) x m, length-alive left (suc t)) in
              let (ks, z, o, c) = (after x i).0 m in
              (j ∷ ks, z, omega arith, (x, l, p, i, c))

          back : (ks : List ℕ) (z : ℕ) → length ks ≡ suc left → Leads N K step t n ks z → get_or (alive N K step (suc left) t) n false ≡ true
          back [] z o c = absurd (omega arith)
          back (k ∷ ks) z o c =
              let (x, l, p, i, d) = c in
              alive_suc left t n h ∙ now.1 (k, x, l, p, (after x i).1 (ks, z, omega arith, d))

  -- the least of the moves that lead from n at instant t + 1 into s; K if none does
  abbrev pub least_into : List Bool → (t n : ℕ) → ℕ
  least_into s t n = first_from (λ k. leads_into s (step (suc t) n k)) K 0

  -- where a move k leads into s, so does the least, and it is no later than k
  pub least_into-leads : (s : List Bool) (t n k : ℕ) → k < K → leads_into s (step (suc t) n k) ≡ true
      → (x : ℕ) × (least_into s t n ≤ k) × (step (suc t) n (least_into s t n) ≡ Some x) × (get_or s x false ≡ true)
  least_into-leads s t n k l e = into f.found
    where
      f : FirstOf (λ j. leads_into s (step (suc t) n j)) K 0 (least_into s t n)
      f = first_from-first (λ j. leads_into s (step (suc t) n j)) K 0

      no-later : Dec (k < least_into s t n) → least_into s t n ≤ k
      no-later (yes h) = absurd (false≢true (sym (f.before k (omega arith) h) ∙ e))
      no-later (no h) = omega arith

      into : (leads_into s (step (suc t) n (least_into s t n)) ≡ true) ⊎ (least_into s t n ≡ 0 + K)
          → (x : ℕ) × (least_into s t n ≤ k) × (step (suc t) n (least_into s t n) ≡ Some x) × (get_or s x false ≡ true)
      into (inl h) = let w = (leads_into_member s (step (suc t) n (least_into s t n))).0 h in (w.0, no-later (dec_lt k (least_into s t n)), w.1, w.2)
      into (inr h) = absurd (omega (arith, no-later (dec_lt k (least_into s t n))))

  pub walk_step : (s : List Bool) (ss : List (List Bool)) (t n : ℕ)
      → walk N K step (s ∷ ss) t n ≡ least_into s t n ∷ walk N K step ss (suc t) (arrived N K step (step (suc t) n (least_into s t n)))
  unfolding walk
  walk_step s ss t n = refl

  pub least_from_zero : (t n : ℕ) → least_from N K step 0 t n ≡ []
  unfolding live walk
  least_from_zero t n = refl

  pub least_from_suc : (left t n : ℕ)
      → least_from N K step (suc left) t n
      ≡ least_into (alive N K step left (suc t)) t n ∷ least_from N K step left (suc t) (arrived N K step (step (suc t) n (least_into (alive N K step left (suc t)) t n)))
  least_from_suc left t n =
      let (s, ss, e) = live_cons left (suc t) in
      rw (live_suc left t, e) (walk_step s ss t n)

  pub least_moves-from : (first T : ℕ) → least_moves N K step first T ≡ least_from N K step T 0 first
  unfolding least_moves
  least_moves-from first T = refl

  pub length-least_from : (left t n : ℕ) → length (least_from N K step left t n) ≡ left
  length-least_from zero t n = ap length (least_from_zero t n)
  length-least_from (suc left) t n =
      ap length (least_from_suc left t n) ∙ ap suc (length-least_from left (suc t) (arrived N K step (step (suc t) n (least_into (alive N K step left (suc t)) t n))))

  -- the moves ls can be carried from n, the first at instant t + 1, and ks comes not before them
  abbrev pub Foremost : (t n : ℕ) → List ℕ → List ℕ → Type 0
  Foremost t n ls ks = ((y : ℕ) × Leads N K step t n ls y) × ((ks ≡ ls) ⊎ Less ls ks)

  pub least_foremost : (left t n : ℕ) (ks : List ℕ) (z : ℕ) → length ks ≡ left → Leads N K step t n ks z → Foremost t n (least_from N K step left t n) ks
  unfolding live walk
  least_foremost zero t n [] z o c = ((n, refl), inl refl)
  least_foremost zero t n (k ∷ ks) z o c = absurd (omega arith)
  least_foremost (suc left) t n [] z o c = absurd (omega arith)
  least_foremost (suc left) t n (k ∷ ks) z o (x, l, p, i, c) =
      let live-x = (alive_carries left (suc t) x i).1 (ks, z, omega arith, c) in
      let (y, h, e, g) = least_into-leads s t n k l ((leads_into_member s (step (suc t) n k)).1 (x, p, live-x)) in
      rw (least_from_suc left t n) (start y h e g (λ ls w q d. least_foremost left (suc t) y ls w q d))
    where
      s : List Bool
      s = alive N K step left (suc t)

      m : ℕ
      m = least_into s t n

      same : (ls : List ℕ) → k ≡ m → (ks ≡ ls) ⊎ Less ls ks → (k ∷ ks ≡ m ∷ ls) ⊎ Less (m ∷ ls) (k ∷ ks)
      same ls r (inl b) = inl (cc)
      same ls r (inr b) = inr (inr (sym r, b))

      start : (y : ℕ) → m ≤ k → step (suc t) n m ≡ Some y → get_or s y false ≡ true
          → ((ls : List ℕ) (w : ℕ) → length ls ≡ left → Leads N K step (suc t) y ls w → Foremost (suc t) y (least_from N K step left (suc t) y) ls)
          → Foremost t n (m ∷ least_from N K step left (suc t) (arrived N K step (step (suc t) n m))) (k ∷ ks)
      start y h e g after =
          let b : y < N = omega (arith, member_within s y g, length-alive left (suc t)) in
          let (ls, w, q, d) = (alive_carries left (suc t) y b).0 g in
          let v = (after ls w q d).0 in
          let a : arrived N K step (step (suc t) n m) ≡ y = rw e in
          rw a ((v.0, (y, omega arith, e, b, v.1)), order (dec_lt m k))
        where
          order : Dec (m < k) → (k ∷ ks ≡ m ∷ least_from N K step left (suc t) y) ⊎ Less (m ∷ least_from N K step left (suc t) y) (k ∷ ks)
          order (yes f) = inr (inl f)
          order (no f) =
              let r : k ≡ m = omega arith in
              let b : x ≡ y = cc in
              same (least_from N K step left (suc t) y) r (after ks z (omega arith) (rw b at c)).1

  pub length_least : (first T : ℕ) → length (least_moves N K step first T) ≡ T
  unfolding least_moves
  length_least first T = length-least_from T 0 first

  pub least : (first T : ℕ) (ks : List ℕ) (z : ℕ) → length ks ≡ T → Leads N K step 0 first ks z → Foremost 0 first (least_moves N K step first T) ks
  unfolding least_moves
  least first T ks z o c = least_foremost T 0 first ks z o c
