-- The least walk over pruned sets: a set that holds the possible situations from which the end can be reached serves as well as all such situations.
use Prim.Native.Nat.{ℕ, zero, suc, ◌+◌, ◌<◌}
use native.Mathlib.Omega.{arith}
use native.Mathlib.Decide.{dec_lt}
use mathlib.Core.Path.{◌≡◌, refl, sym, ap, subst, ◌∙◌}
use mathlib.Core.Logic.{◌⊎◌, inl, inr}
use mathlib.Core.List.{List}
use mathlib.Core.Bool.{Bool, true, false, ◌&&◌, true≢false}
use Rattle.std.specs.Prelude.{Option, Some, None}
use lib.ListN.{get_or}
use lib.Dec.{ltb}
use borrow.Author.Tests.{lt-ltb, le-ltb}
use Rattle.model.specs.Layers.{first_from, layer, into, leads_into, leads, alive}
use Rattle.model.proofs.SetLaws.{FirstOf, first_from-first, first_from_hit, first_from_miss, leads_into_member, member_within}
use Rattle.model.proofs.LayerLaws.{layer_suc}
use Rattle.model.proofs.LeastLaws.{alive_suc, length-alive, leads_enters, least_into, least_into-leads}

-- tests that agree have the same first
pub first_from-same : (f g : ℕ → Bool) (n t : ℕ) → ((i : ℕ) → i < t + n → f i ≡ g i) → first_from f n t ≡ first_from g n t
unfolding first_from
first_from-same f g zero t same = refl
first_from-same f g (suc n) t same =
    by (f t) (g t) refl refl (same t (omega arith)) (first_from-same f g n (suc t) (λ i h. same i (omega arith)))
  where
    by : (a b : Bool) → f t ≡ a → g t ≡ b → f t ≡ g t → first_from f n (suc t) ≡ first_from g n (suc t) → first_from f (suc n) t ≡ first_from g (suc n) t
    by true true p q e later = first_from_hit f n t p ∙ sym (first_from_hit g n t q)
    by false false p q e later = first_from_miss f n t p ∙ later ∙ sym (first_from_miss g n t q)
    by true false p q e later = absurd (true≢false (sym p ∙ e ∙ q))
    by false true p q e later = absurd (true≢false (sym q ∙ sym e ∙ p))

module _ (N K : ℕ) (step : ℕ → ℕ → ℕ → Option ℕ) (first : ℕ) where
  -- a test for the possible situations after instant t from which the end can be reached, with left instants to go
  abbrev pub Pruned : (left t : ℕ) → (ℕ → Bool) → Type 0
  Pruned left t test = (z : ℕ) → test z ≡ (get_or (layer N K step first t) z false && get_or (alive N K step left t) z false)

  -- a step from a possible situation arrives at a possible one, so only the end matters
  pub into-same : (left t n k : ℕ) (test : ℕ → Bool) → Pruned left (suc t) test → n < N → get_or (layer N K step first t) n false ≡ true → k < K
      → into test (step (suc t) n k) ≡ leads_into (alive N K step left (suc t)) (step (suc t) n k)
  into-same left t n k test pruned inside here few = by (step (suc t) n k) refl
    where
      meet : (a b : Bool) → (b ≡ true → a ≡ true) → (a && b) ≡ b
      meet true b h = refl
      meet false true h = h refl
      meet false false h = refl

      arrive : (z : ℕ) → step (suc t) n k ≡ Some z → get_or (alive N K step left (suc t)) z false ≡ true → get_or (layer N K step first (suc t)) z false ≡ true
      arrive z e h =
          (layer_suc N K step first t z).1 (n, k, inside, here, few, e, subst (λ (l : ℕ). z < l) (length-alive N K step left (suc t)) (member_within (alive N K step left (suc t)) z h))

      by : (o : Option ℕ) → step (suc t) n k ≡ o → into test o ≡ leads_into (alive N K step left (suc t)) o
      by None e = refl
      by (Some z) e = pruned z ∙ meet (get_or (layer N K step first (suc t)) z false) (get_or (alive N K step left (suc t)) z false) (arrive z e)

  -- the least move into a pruned set is the least into the set from which the end can be reached
  pub least_same : (left t n : ℕ) (test : ℕ → Bool) → Pruned left (suc t) test → n < N → get_or (layer N K step first t) n false ≡ true
      → first_from (λ k. into test (step (suc t) n k)) K 0 ≡ least_into N K step (alive N K step left (suc t)) t n
  least_same left t n test pruned inside here =
      first_from-same (λ k. into test (step (suc t) n k)) (λ k. leads_into (alive N K step left (suc t)) (step (suc t) n k)) K 0
      (λ k h. into-same left t n k test pruned inside here (omega arith))

  -- a least move is found exactly where some move leads into the set
  least_found : (s : List Bool) (t n : ℕ) → ltb (least_into N K step s t n) K ≡ leads N K step s (suc t) n K
  least_found s t n = by (leads N K step s (suc t) n K) refl
    where
      found : FirstOf (λ k. leads_into s (step (suc t) n k)) K 0 (least_into N K step s t n)
      found = first_from-first (λ k. leads_into s (step (suc t) n k)) K 0

      no_less : leads N K step s (suc t) n K ≡ false → least_into N K step s t n < K → ⊥
      no_less e h = ended found.found
        where
          ended : (leads_into s (step (suc t) n (least_into N K step s t n)) ≡ true) ⊎ (least_into N K step s t n ≡ 0 + K) → ⊥
          ended (inl p) =
              let (x, q, r) = (leads_into_member s (step (suc t) n (least_into N K step s t n))).0 p in
              true≢false (sym ((leads_enters N K step s (suc t) n K).1 (least_into N K step s t n, x, h, q, r)) ∙ e)
          ended (inr p) = omega arith

      by : (b : Bool) → leads N K step s (suc t) n K ≡ b → ltb (least_into N K step s t n) K ≡ leads N K step s (suc t) n K
      by true e =
          let (j, x, few, q, r) = (leads_enters N K step s (suc t) n K).0 e in
          let (y, le, p, z) = least_into-leads N K step s t n j few ((leads_into_member s (step (suc t) n j)).1 (x, q, r)) in
          lt-ltb (least_into N K step s t n) K (omega arith) ∙ sym e
      by false e = not-less (dec_lt (least_into N K step s t n) K) ∙ sym e
        where
          not-less : Dec (least_into N K step s t n < K) → ltb (least_into N K step s t n) K ≡ false
          not-less (yes h) = absurd (no_less e h)
          not-less (no h) = le-ltb (least_into N K step s t n) K (omega arith)

  -- such a move is there exactly where the end can be reached
  pub least_alive : (left t n : ℕ) (test : ℕ → Bool) → Pruned left (suc t) test → n < N → get_or (layer N K step first t) n false ≡ true
      → ltb (first_from (λ k. into test (step (suc t) n k)) K 0) K ≡ get_or (alive N K step (suc left) t) n false
  least_alive left t n test pruned inside here =
      ap (λ (k : ℕ). ltb k K) (least_same left t n test pruned inside here)
      ∙ least_found (alive N K step left (suc t)) t n
      ∙ sym (alive_suc N K step left t n inside)
