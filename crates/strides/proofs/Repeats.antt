-- Unions at a stride. Assumes nothing.
use Rattle.std.proofs.Common.{◌≡◌, refl, sym, ap, ap₂, subst, ◌∙◌, ℕ, ◌+◌, ◌-◌, ◌*◌, ◌≤◌, ◌<◌, Bool, true, false, ◌&&◌, ◌||◌, List, length, arith}
use mathlib.Core.Bool.{and-false}
use native.Mathlib.Nat.{mul-add, mul-zero}
use native.Mathlib.Decide.{dec_lt}
use Rattle.words.specs.Words.{mem, any_below, Is}
use Rattle.words.proofs.Sets.{mem-past}
use Rattle.words.proofs.AnyBelow.{any_same, any_none, any_add}
use Rattle.shifts.specs.Shifted.{Moves, moved}
use Rattle.strides.specs.Strides.{with_moved}

absorbed : (a b x : Bool) → ((a || b) || (b || x)) ≡ (a || (b || x))
absorbed true b x = refl
absorbed false true x = refl
absorbed false false x = refl

-- places below k, and k places from m on, come to those below m + k
any_cover : (p : ℕ → Bool) (m k : ℕ) → m ≤ k → (any_below p k || any_below (λ d. p (m + d)) k) ≡ any_below p (m + k)
any_cover p m k h =
    let q : ℕ → Bool = λ d. p (m + d) in
    let t = k - m in
    let e : k ≡ m + t = omega arith in
    let f : k ≡ t + m = omega arith in
    let whole : any_below q k ≡ (any_below q t || any_below (λ d. q (t + d)) m) = ap (any_below q) f ∙ any_add q t m in
    ap₂ (λ (a b : Bool). a || b) (ap (any_below p) e ∙ any_add p m t) whole
    ∙ absorbed (any_below p m) (any_below q t) (any_below (λ d. q (t + d)) m)
    ∙ ap (λ (b : Bool). any_below p m || b) (sym whole)
    ∙ sym (any_add p m k)

any_and : (b : Bool) (p : ℕ → Bool) (n : ℕ) → (b && any_below p n) ≡ any_below (λ d. b && p d) n
any_and true p n = refl
any_and false p n = sym (any_none (λ d. false) n (λ d l. refl))

and_assoc : (a b c : Bool) → (a && (b && c)) ≡ ((a && b) && c)
and_assoc true b c = refl
and_assoc false b c = refl

module _ (m : Moves) (s : List ℕ) (w : ℕ) where
  -- s moved by 0, w, 2 w, .., n of them
  abbrev pub spread_to : ℕ → ℕ → Bool
  spread_to n i = any_below (λ d. moved m (w * d) (mem s) i) n

  pub spread_first : ((i : ℕ) → (m.there 0 i ≡ true) × (m.place 0 i ≡ i)) → Is (spread_to 1) s s
  unfolding any_below
  spread_first still =
      record { size = refl; all = λ i l. rw mul-zero (sym (ap₂ (λ (t : Bool) (j : ℕ). t && mem s j) (still i).0 (still i).1)) }

  -- a step joins n places more to the first k
  module _ (twice : (a b i : ℕ) → ((m.there a i && m.there b (m.place a i)) ≡ m.there (a + b) i) × (m.place b (m.place a i) ≡ m.place (a + b) i))
      (past : (n a b i : ℕ) → i < n → n ≤ m.place a i → n ≤ m.place b (m.place a i)) (a b : List ℕ) (n k : ℕ) (h : n ≤ k) (x : Is (spread_to k) s a) where
    module _ (i : ℕ) (l : i < 64 * length s) where
      -- what comes to i
      abbrev from : ℕ
      from = m.place (w * n) i

      come : Dec (from < 64 * length s) → mem a from ≡ spread_to k from
      come (yes near) = x.all from near
      come (no far) =
          mem-past a from (subst (λ (t : ℕ). 64 * t ≤ from) (sym x.size) (omega arith))
          ∙ sym (any_none (λ d. moved m (w * d) (mem s) from) k
          (λ d e. ap (λ (t : Bool). m.there (w * d) from && t) (mem-past s (m.place (w * d) from) (past (64 * length s) (w * n) (w * d) i l (omega arith))) ∙ and-false (m.there (w * d) from)))

      further : (d : ℕ) → (m.there (w * n) i && moved m (w * d) (mem s) from) ≡ moved m (w * (n + d)) (mem s) i
      further d =
          and_assoc (m.there (w * n) i) (m.there (w * d) from) (mem s (m.place (w * d) from))
          ∙ ap₂ (λ (t : Bool) (j : ℕ). t && mem s j) (twice (w * n) (w * d) i).0 (twice (w * n) (w * d) i).1
          ∙ ap (λ (j : ℕ). moved m j (mem s) i) (sym (mul-add w n d))

    pub spread_more : (t : ℕ) → n + k ≡ t → Is (with_moved m (w * n) (mem a)) a b → Is (spread_to t) s b
    spread_more t e y =
        rw (sym e)
        record {
          size = y.size ∙ x.size;
          all =
              λ i l. y.all i (subst (λ (t : ℕ). i < 64 * t) (sym x.size) l)
              ∙ ap₂ (λ (p q : Bool). p || q) (x.all i l)
              (ap (λ (t : Bool). m.there (w * n) i && t) (come i l (dec_lt (from i l) (64 * length s)))
              ∙ any_and (m.there (w * n) i) (λ d. moved m (w * d) (mem s) (from i l)) k
              ∙ any_same (λ d. m.there (w * n) i && moved m (w * d) (mem s) (from i l)) (λ d. moved m (w * (n + d)) (mem s) i) k (λ d e. further i l d))
              ∙ any_cover (λ d. moved m (w * d) (mem s) i) n k h;
        }
