-- The sets of possible situations hold what lists of moves lead to; the works, the cost, the last instant that counts, and where the budget is passed.
use Prim.Native.Nat.{ℕ, zero, suc, ◌+◌, ◌*◌, ◌-◌, ◌<◌, ◌≤◌}
use native.Mathlib.Nat.{not-suc-le-zero, eq-zero-or-pos, suc-mul, zero-add, add-suc, mul-le-mul_right, le_trans}
use native.Mathlib.Omega.{arith}
use native.Mathlib.Decide.{dec_lt}
use mathlib.Core.Path.{◌≡◌, refl, ◌∙◌}
use mathlib.Core.List.{List, [], ◌∷◌, ◌++◌}
use mathlib.Core.Bool.{Bool, true, false}
use Rattle.std.specs.Prelude.{Option, Some}
use mathlib.Core.Logic.{◌⊎◌, inl, inr, ◌↔◌}
use lib.ListN.{length, get_or, replicate, length-set, length-append, length-replicate}
use lib.Seq.{get_or-set_same}
use lib.Dec.{ltb}
use borrow.Author.Tests.{eqb-true, eqb-false, ltb-true, ltb-false}
use Rattle.model.specs.Layers.{count, is_empty, spread, image, layer, total, last_instant, cost, passing}
use Rattle.model.proofs.Chains.{Leads}
use Rattle.model.proofs.SetLaws.{member_within, no_member, count_le, count-empty, count-some, count_member, length-mark, mark_member, FirstOf, first_from-first}

module _ (N K : ℕ) (step : ℕ → ℕ → ℕ → Option ℕ) where
  pub length-spread : (k t n : ℕ) (s : List Bool) → length (spread N K step k t n s) ≡ length s
  unfolding spread
  length-spread zero t n s = refl
  length-spread (suc k) t n s = length-mark (spread N K step k t n s) (step t n k) ∙ length-spread k t n s

  -- z is in a set, or one of the first k moves leads at instant t from n to z
  abbrev pub Spread : (k t n : ℕ) → List Bool → ℕ → Type 0
  Spread k t n s z = (get_or s z false ≡ true) ⊎ ((j : ℕ) × (j < k) × (step t n j ≡ Some z) × (z < length s))

  pub spread_member : (k t n : ℕ) (s : List Bool) (z : ℕ) → (get_or (spread N K step k t n s) z false ≡ true) ↔ Spread k t n s z
  unfolding spread
  spread_member zero t n s z = (inl, back)
    where
      back : Spread 0 t n s z → get_or s z false ≡ true
      back (inl e) = e
      back (inr w) = let h = w.1 in absurd (omega arith)
  spread_member (suc k) t n s z = go (spread_member k t n s z) (mark_member (spread N K step k t n s) (step t n k) z)
    where
      Now : Type 0
      Now = (get_or (spread N K step k t n s) z false ≡ true) ⊎ ((step t n k ≡ Some z) × (z < length (spread N K step k t n s)))

      go : (get_or (spread N K step k t n s) z false ≡ true) ↔ Spread k t n s z → (get_or (spread N K step (suc k) t n s) z false ≡ true) ↔ Now
          → (get_or (spread N K step (suc k) t n s) z false ≡ true) ↔ Spread (suc k) t n s z
      go before now = (λ e. last (now.0 e), back)
        where
          more : Spread k t n s z → Spread (suc k) t n s z
          more (inl e) = inl e
          more (inr w) = inr (w.0, omega (arith, w.1), w.2, w.3)

          last : Now → Spread (suc k) t n s z
          last (inl e) = more (before.0 e)
          last (inr w) = inr (k, omega arith, w.0, omega (arith, length-spread k t n s, w.1))

          back : Spread (suc k) t n s z → get_or (spread N K step (suc k) t n s) z false ≡ true
          back (inl e) = now.1 (inl (before.1 (inl e)))
          back (inr w) = at (dec_lt w.0 k)
            where
              at : Dec (w.0 < k) → get_or (spread N K step (suc k) t n s) z false ≡ true
              at (yes l) = now.1 (inl (before.1 (inr (w.0, l, w.2, w.3))))
              at (no l) =
                  let p : w.0 ≡ k = omega (arith, w.1) in
                  now.1 (inr (cc w.2, omega (arith, length-spread k t n s, w.3)))

  -- the image, a situation further: what it gives if it is in s, and nothing else
  pub image_in : (m t : ℕ) (s : List Bool) → get_or s m false ≡ true → image N K step (suc m) t s ≡ spread N K step K t m (image N K step m t s)
  unfolding image
  image_in m t s e = rw (e, image)

  pub image_out : (m t : ℕ) (s : List Bool) → get_or s m false ≡ false → image N K step (suc m) t s ≡ image N K step m t s
  unfolding image
  image_out m t s e = rw (e, image)

  pub length-image : (m t : ℕ) (s : List Bool) → length (image N K step m t s) ≡ N
  unfolding image
  length-image zero t s = length-replicate N false
  length-image (suc m) t s = go (get_or s m false) refl (length-image m t s)
    where
      go : (b : Bool) → get_or s m false ≡ b → length (image N K step m t s) ≡ N → length (image N K step (suc m) t s) ≡ N
      go true e l = rw (image_in m t s e) (length-spread K t m (image N K step m t s) ∙ l)
      go false e l = rw (image_out m t s e) l

  -- one of the first m situations, of those in s, leads at instant t to z
  abbrev pub Given : (m t : ℕ) → List Bool → ℕ → Type 0
  Given m t s z = (n : ℕ) × (k : ℕ) × (n < m) × (get_or s n false ≡ true) × (k < K) × (step t n k ≡ Some z) × (z < N)

  pub image_member : (m t : ℕ) (s : List Bool) (z : ℕ) → (get_or (image N K step m t s) z false ≡ true) ↔ Given m t s z
  unfolding image
  image_member zero t s z = (λ e. absurd (no_member N z e), λ w. absurd (not-suc-le-zero w.2))
  image_member (suc m) t s z = go (get_or s m false) refl (image_member m t s z)
    where
      wider : Given m t s z → Given (suc m) t s z
      wider w = (w.0, w.1, omega (arith, w.2), w.3, w.4, w.5, w.6)

      go : (b : Bool) → get_or s m false ≡ b → (get_or (image N K step m t s) z false ≡ true) ↔ Given m t s z
          → (get_or (image N K step (suc m) t s) z false ≡ true) ↔ Given (suc m) t s z
      go true e before = rw (image_in m t s e) (λ i. there ((spread_member K t m (image N K step m t s) z).0 i), back)
        where
          there : Spread K t m (image N K step m t s) z → Given (suc m) t s z
          there (inl i) = wider (before.0 i)
          there (inr w) = (m, w.0, omega arith, e, w.1, w.2, omega (arith, w.3, length-image m t s))

          back : Given (suc m) t s z → get_or (spread N K step K t m (image N K step m t s)) z false ≡ true
          back w = at (dec_lt w.0 m)
            where
              at : Dec (w.0 < m) → get_or (spread N K step K t m (image N K step m t s)) z false ≡ true
              at (yes l) = (spread_member K t m (image N K step m t s) z).1 (inl (before.1 (w.0, w.1, l, w.3, w.4, w.5, w.6)))
              at (no l) =
                  let p : w.0 ≡ m = omega (arith, w.2) in
                  (spread_member K t m (image N K step m t s) z).1 (inr (w.1, w.4, cc w.5, omega (arith, w.6, length-image m t s)))
      go false e before = rw (image_out m t s e) (λ i. wider (before.0 i), λ w. at w (dec_lt w.0 m))
        where
          at : (w : Given (suc m) t s z) → Dec (w.0 < m) → get_or (image N K step m t s) z false ≡ true
          at w (yes l) = before.1 (w.0, w.1, l, w.3, w.4, w.5, w.6)
          at w (no l) = let p : w.0 ≡ m = omega (arith, w.2) in cc (e, w.3)

  -- one more move at the end
  pub leads-more : (ks : List ℕ) (t n x k z : ℕ) → Leads N K step t n ks x → k < K → step (suc (t + length ks)) x k ≡ Some z → z < N
      → Leads N K step t n (ks ++ (k ∷ [])) z
  leads-more [] t n x k z c l e h = let p : t + 0 ≡ t = omega arith in (z, l, cc, h, refl)
  leads-more (j ∷ ks) t n x k z c l e h =
      let p : suc t + length ks ≡ t + suc (length ks) = omega arith in
      (c.0, c.1, c.2, c.3, leads-more ks (suc t) c.0 x k z c.4 l (cc) h)

  module _ (first : ℕ) where
    pub length-layer : (t : ℕ) → length (layer N K step first t) ≡ N
    unfolding layer
    length-layer zero = length-set (replicate N false) first true ∙ length-replicate N false
    length-layer (suc t) = length-image N (suc t) (layer N K step first t)

    pub layer_suc : (t z : ℕ) → (get_or (layer N K step first (suc t)) z false ≡ true) ↔ Given N (suc t) (layer N K step first t) z
    unfolding layer
    layer_suc t z = image_member N (suc t) (layer N K step first t) z

    pub layer-leads : (t z : ℕ) → get_or (layer N K step first t) z false ≡ true → (ks : List ℕ) × (length ks ≡ t) × Leads N K step 0 first ks z
    unfolding layer
    layer-leads zero z e = go ((mark_member (replicate N false) (Some first) z).0 e)
      where
        go : (get_or (replicate N false) z false ≡ true) ⊎ ((Some first ≡ Some z) × (z < length (replicate N false)))
            → (ks : List ℕ) × (length ks ≡ 0) × Leads N K step 0 first ks z
        go (inl m) = absurd (no_member N z m)
        go (inr w) = ([], refl, cc w.0)
    layer-leads (suc t) z e =
        let (n, k, l, m, h, p, i) = (layer_suc t z).0 e in
        let (ks, o, c) = layer-leads t n m in
        let q : 0 + length ks ≡ t = omega arith in
        (ks ++ (k ∷ []), omega (arith, length-append ks (k ∷ [])), leads-more ks 0 first n k z c h (cc) i)

    leads-on : (ks : List ℕ) (t n z : ℕ) → get_or (layer N K step first t) n false ≡ true → Leads N K step t n ks z
        → get_or (layer N K step first (t + length ks)) z false ≡ true
    leads-on [] t n z e c = let p : t + 0 ≡ t = omega arith in rw (p, ← c) e
    leads-on (k ∷ ks) t n z e c =
        let (x, l, p, h, d) = c in
        let q : suc t + length ks ≡ t + suc (length ks) = omega arith in
        let i : n < N = omega (arith, member_within (layer N K step first t) n e, length-layer t) in
        rw (← q) (leads-on ks (suc t) x z ((layer_suc t x).1 (n, k, i, e, l, p, h)) d)

    -- where no situation is left, none ever is again
    pub empty-stays : (t d : ℕ) → count (layer N K step first t) ≡ 0 → count (layer N K step first (t + d)) ≡ 0
    empty-stays t zero e = let p : t + 0 ≡ t = omega arith in rw p e
    empty-stays t (suc d) e = go (eq-zero-or-pos (count (layer N K step first (suc (t + d))))) (empty-stays t d e)
      where
        go : (count (layer N K step first (suc (t + d))) ≡ 0) ⊎ (0 < count (layer N K step first (suc (t + d))))
            → count (layer N K step first (t + d)) ≡ 0 → count (layer N K step first (t + suc d)) ≡ 0
        go (inl p) f = rw add-suc p
        go (inr p) f =
            let (z, l, m) = count-some (layer N K step first (suc (t + d))) p in
            let w = (layer_suc (t + d) z).0 m in
            absurd (count-empty (layer N K step first (t + d)) w.0 f w.3)

    pub total_le : (t : ℕ) → total N K step first t ≤ t * N
    unfolding total
    total_le zero = omega arith
    total_le (suc t) = omega (arith, suc-mul t N, total_le t, count_le (layer N K step first t), length-layer t)

    pub last-first : (T : ℕ) → FirstOf (λ t. is_empty (layer N K step first t)) T 0 (last_instant N K step first T)
    unfolding last_instant
    last-first T = first_from-first (λ t. is_empty (layer N K step first t)) T 0

    pub last_le : (T : ℕ) → last_instant N K step first T ≤ T
    last_le T = let l = (last-first T).within in omega arith

    pub last-before : (T t : ℕ) → t < last_instant N K step first T → 0 < count (layer N K step first t)
    last-before T t h = go (eq-zero-or-pos (count (layer N K step first t)))
      where
        go : (count (layer N K step first t) ≡ 0) ⊎ (0 < count (layer N K step first t)) → 0 < count (layer N K step first t)
        go (inl p) = absurd (eqb-false (count (layer N K step first t)) 0 ((last-first T).before t (omega arith) h) p)
        go (inr p) = p

    pub last_end : (T : ℕ) → (count (layer N K step first (last_instant N K step first T)) ≡ 0) ⊎ (last_instant N K step first T ≡ T)
    last_end T = go (last-first T).found
      where
        u : ℕ
        u = last_instant N K step first T

        go : (is_empty (layer N K step first u) ≡ true) ⊎ (u ≡ 0 + T) → (count (layer N K step first u) ≡ 0) ⊎ (u ≡ T)
        go (inl e) = inl (eqb-true (count (layer N K step first u)) 0 e)
        go (inr e) = inr (omega arith)

    pub cost_le : (T : ℕ) → cost N K step first T ≤ T * N
    unfolding cost
    cost_le T = le_trans (total_le (last_instant N K step first T)) (mul-le-mul_right N (last_le T))

    pub passing-first : (T budget : ℕ)
        → FirstOf (λ t. ltb budget (total N K step first t)) (last_instant N K step first T) 0 (passing N K step first T budget)
    unfolding passing
    passing-first T budget = first_from-first (λ t. ltb budget (total N K step first t)) (last_instant N K step first T) 0

    pub passing_passes : (T budget : ℕ) → budget < cost N K step first T
        → (passing N K step first T budget ≤ T)
        × (budget < total N K step first (passing N K step first T budget))
        × ((t : ℕ) → t < passing N K step first T budget → total N K step first t ≤ budget)
    unfolding cost
    passing_passes T budget h = (omega (arith, c.within, last_le T), go c.found, λ t l. ltb-false budget (total N K step first t) (c.before t (omega arith) l))
      where
        u : ℕ
        u = passing N K step first T budget

        c : FirstOf (λ t. ltb budget (total N K step first t)) (last_instant N K step first T) 0 u
        c = passing-first T budget

        go : (ltb budget (total N K step first u) ≡ true) ⊎ (u ≡ 0 + last_instant N K step first T) → budget < total N K step first u
        go (inl e) = ltb-true budget (total N K step first u) e
        go (inr e) = let p : u ≡ last_instant N K step first T = omega arith in rw p h

  module _ (first : ℕ) (inside : first < N) where
    pub leads-layer : (ks : List ℕ) (z : ℕ) → Leads N K step 0 first ks z → get_or (layer N K step first (length ks)) z false ≡ true
    unfolding layer
    leads-layer ks z c =
        rw zero-add at (leads-on first ks 0 first z (get_or-set_same (replicate N false) first true false (omega (arith, length-replicate N false))) c)

    -- a situation is left after the last instant that counts just where T moves can be carried
    pub reached : (T : ℕ) → (0 < count (layer N K step first (last_instant N K step first T)))
        ↔ ((ks : List ℕ) × (z : ℕ) × (length ks ≡ T) × Leads N K step 0 first ks z)
    reached T = (there (last_end first T), back (last_end first T))
      where
        u : ℕ
        u = last_instant N K step first T

        there : (count (layer N K step first u) ≡ 0) ⊎ (u ≡ T) → 0 < count (layer N K step first u)
            → (ks : List ℕ) × (z : ℕ) × (length ks ≡ T) × Leads N K step 0 first ks z
        there (inl e) p = absurd (omega arith)
        there (inr e) p =
            let (z, l, m) = count-some (layer N K step first u) p in
            let (ks, o, c) = layer-leads first u z m in
            (ks, z, omega arith, c)

        back : (count (layer N K step first u) ≡ 0) ⊎ (u ≡ T) → (ks : List ℕ) × (z : ℕ) × (length ks ≡ T) × Leads N K step 0 first ks z
            → 0 < count (layer N K step first u)
        back (inl e) w =
            let p : u + (T - u) ≡ length w.0 = omega (arith, last_le first T, w.2) in
            absurd (count-empty (layer N K step first (length w.0)) w.1 (rw p at (empty-stays first u (T - u) e)) (leads-layer w.0 w.1 w.3))
        back (inr e) w =
            let p : u ≡ length w.0 = omega (arith, w.2) in
            rw p (count_member (layer N K step first (length w.0)) w.1 (leads-layer w.0 w.1 w.3))
