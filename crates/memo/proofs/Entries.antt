-- Entries of a memory: what a write leaves of them.
use Prim.Native.Nat.{ℕ, ◌+◌, ◌-◌, ◌*◌, ◌/◌, ◌≤◌, ◌<◌}
use native.Mathlib.Nat.{mul-le-mul_left, mul-le-mul_right}
use native.Mathlib.Decide.{dec_lt, ℕ_discrete}
use native.Mathlib.Omega.{arith}
use mathlib.Core.Path.{◌≡◌, refl, sym, ap, subst, ◌∙◌}
use mathlib.Core.List.{List}
use Rattle.std.specs.Prelude.{Option, Some, None}
use mathlib.Core.Bool.{Bool, true}
use lib.Dec.{eqb}
use lib.Pointwise.{pointwise}
use Rattle.std.proofs.lemmas.Bool.{eqb-true, eq-eqb}
use Rattle.std.proofs.lemmas.Slice.Eq.{slice_eq-Decides}
use lib.ListN.{length, get_or, set, take, drop, replicate, length-set, length-replicate}
use Rattle.std.proofs.lemmas.List.{get_or-replicate}
use lib.Seq.{ext_get_or, get_or-set_other, get_or-take, get_or-drop}
use Rattle.model.specs.Monitor.{Monitor}
use Rattle.images.specs.Advanced.{AdvancedTo, RetreatedTo}
use Rattle.memo.specs.Known.{tag_of, Stands, Entry, Known, KnownBack}
use Rattle.memo.specs.Changed.{Changed, Starts}

tag_told : (o p : Option ℕ) → tag_of o ≡ tag_of p → o ≡ p
unfolding tag_of
tag_told None None e = refl
tag_told None (Some y) e = absurd (omega arith)
tag_told (Some x) None e = absurd (omega arith)
tag_told (Some x) (Some y) e = ap Some (omega arith)

tag_some : (o : Option ℕ) → 0 < tag_of o
unfolding tag_of
tag_some None = omega arith
tag_some (Some x) = omega arith

-- an entry's words are before the next one's
pub before_next : (w k l : ℕ) → k < l → w * k + w ≤ w * l
before_next w k l h = let n : w * (k + 1) ≤ w * l = mul-le-mul_left w (omega arith) in omega arith

-- sets of as many words, from one place on, are the same
held_same : (memo : List ℕ) (place : ℕ) (a b : List ℕ) → length a ≡ length b → Stands memo place a → Stands memo place b → a ≡ b
held_same memo place a b l x y = ext_get_or 0 a b l (λ i h. sym (x.same i h) ∙ y.same i (omega arith))

-- a part that is found to be the words of a set
pub part_held : (memo : List ℕ) (place : ℕ) (a : List ℕ) (found : Bool) → found ≡ pointwise eqb (take (place + length a - place) (drop place memo)) a
    → found ≡ true → Stands memo place a
part_held memo place a found told e =
    let is : take (place + length a - place) (drop place memo) ≡ a =
    (slice_eq-Decides (λ x y. (eqb-true x y, eq-eqb x y)) (take (place + length a - place) (drop place memo)) a found told).0 e in
    record {
      same = λ i l.
          sym (get_or-drop place memo i 0) ∙ sym (get_or-take (place + length a - place) (drop place memo) i 0 (omega arith)) ∙ ap (λ (s : List ℕ). get_or s i 0) is;
    }

-- writes
pub unchanged : (s : List ℕ) (low high : ℕ) → Changed low high s s
unchanged s low high = record { size = refl; under = λ j h. refl; over = λ j h. refl }

pub changed-more : {low high l h : ℕ} {s t u : List ℕ} → Changed low high s t → Changed l h t u → low ≤ l → h ≤ high → Changed low high s u
changed-more x y p q =
    record {
      size = y.size ∙ x.size;
      under = λ j k. y.under j (omega arith) ∙ x.under j k;
      over = λ j k. y.over j (omega arith) ∙ x.over j k;
    }

pub changed_wider : {low high l h : ℕ} {s t : List ℕ} → Changed l h s t → low ≤ l → h ≤ high → Changed low high s t
changed_wider x p q = record { size = x.size; under = λ j k. x.under j (omega arith); over = λ j k. x.over j (omega arith) }

pub changed-set : (s : List ℕ) (at v : ℕ) → Changed at (at + 1) s (set s at v)
changed-set s at v =
    record {
      size = length-set s at v;
      under = λ j k. get_or-set_other s at j v 0 (λ e. omega arith);
      over = λ j k. get_or-set_other s at j v 0 (λ e. omega arith);
    }

pub held_under : {low high : ℕ} {s t : List ℕ} (place : ℕ) (a : List ℕ) → Changed low high s t → place + length a ≤ low → Stands s place a → Stands t place a
held_under place a x l h = record { same = λ i k. x.under (place + i) (omega arith) ∙ h.same i k }

-- an entry that was not written is as it was
module _ (w slot : ℕ) (s t : List ℕ) (x : Changed (w * slot) (w * slot + w) s t) (k : ℕ) (d : k ≡ slot → ⊥) where
  word_was : (j : ℕ) → j < w → get_or t (w * k + j) 0 ≡ get_or s (w * k + j) 0
  word_was j h = by (dec_lt k slot)
    where
      by : Dec (k < slot) → get_or t (w * k + j) 0 ≡ get_or s (w * k + j) 0
      by (yes l) = x.under (w * k + j) (omega (arith, before_next w k slot l))
      by (no l) = x.over (w * k + j) (omega (arith, before_next w slot k (omega arith)))

  held_was : (place from : ℕ) (a : List ℕ) → place ≡ w * k + from → from + length a ≤ w → Stands t place a → Stands s place a
  held_was place from a e l h =
      record {
        same = λ i q.
            let p : place + i ≡ w * k + (from + i) = omega arith in
            ap (λ (y : ℕ). get_or s y 0) p ∙ sym (word_was (from + i) (omega arith)) ∙ ap (λ (y : ℕ). get_or t y 0) (sym p) ∙ h.same i q;
      }

  entry_was : (o : Option ℕ) → 0 < w → Entry t w k o → Entry s w k o
  entry_was o l q =
      let z : w * k + 0 ≡ w * k = omega arith in
      record {
        fits = omega (arith, x.size, q.fits);
        tagged = ap (λ (y : ℕ). get_or s y 0) (sym z) ∙ sym (word_was 0 l) ∙ ap (λ (y : ℕ). get_or t y 0) z ∙ q.tagged;
      }

-- an entry of a tag and two sets is begun: with the first, and then the second behind it
module _ (at n tag : ℕ) (a b s t u : List ℕ) (la : length a ≡ n) (x : Changed at (at + 1 + length a) s t) (e : get_or t at 0 ≡ tag) (ha : Stands t (at + 1) a)
    (y : Changed (at + 1 + n) (at + 1 + n + length b) t u) (hb : Stands u (at + 1 + n) b) where
  pub begun_changed : Changed at (at + 1 + length a + length b) s u
  begun_changed = changed-more (changed_wider x (omega arith) (omega arith)) y (omega arith) (omega arith)

  pub begun_tagged : get_or u at 0 ≡ tag
  begun_tagged = y.under at (omega arith) ∙ e

  pub begun_first : Stands u (at + 1) a
  begun_first = held_under (at + 1) a y (omega arith) ha

  pub begun_second : Stands u (at + 1 + length a) b
  begun_second = subst (λ (k : ℕ). Stands u (at + 1 + k) b) (sym la) hb

-- no entry has the tag of anything recorded
no_entry : (s : List ℕ) → ((i : ℕ) → i < length s → get_or s i 0 ≡ 0) → (w k : ℕ) (o : Option ℕ) → 0 < w → Entry s w k o → ⊥
no_entry s h w k o p e = omega (arith, h (w * k) (omega (arith, e.fits)), e.tagged, tag_some o)

pub known_none : (m : Monitor) (n long : ℕ) (s : List ℕ) → s ≡ replicate long 0 → Known m n s × KnownBack m n s
known_none m n long s e =
    let none : (i : ℕ) → i < length s → get_or s i 0 ≡ 0 =
    (λ i h. ap (λ (x : List ℕ). get_or x i 0) e ∙ get_or-replicate long i 0 0 (omega (arith, ap length e, length-replicate {A = ℕ}))) in (
      record { entries = λ k o a z la lz e ha hz. absurd (no_entry s none (1 + 2 * n) k o (omega arith) e) },
      record { entries = λ k o a b z la lb lz e ha hb hz. absurd (no_entry s none (1 + 3 * n) k o (omega arith) e) },
    )

-- what is worked out is kept
module _ (m : Monitor) (n slot : ℕ) (o : Option ℕ) (s t a z : List ℕ) (la : length a ≡ n) (lz : length z ≡ n) where
  module _ (x : Changed ((1 + 2 * n) * slot) ((1 + 2 * n) * slot + (1 + 2 * n)) s t) (tag : get_or t ((1 + 2 * n) * slot) 0 ≡ tag_of o) (ha : Stands t ((1 + 2 * n) * slot + 1) a)
      (hz : Stands t ((1 + 2 * n) * slot + 1 + n) z) (to : AdvancedTo m o n a z) (known : Known m n s) where
    known_kept : Known m n t
    known_kept = record { entries = λ k p b y lb ly e hb hy. by k p b y lb ly e hb hy (ℕ_discrete k slot) }
      where
        by : (k : ℕ) (p : Option ℕ) (b y : List ℕ) → length b ≡ n → length y ≡ n → Entry t (1 + 2 * n) k p → Stands t ((1 + 2 * n) * k + 1) b
            → Stands t ((1 + 2 * n) * k + 1 + n) y → Dec (k ≡ slot) → AdvancedTo m p n b y
        by k p b y lb ly e hb hy (yes q) =
            subst (λ (v : List ℕ). AdvancedTo m p n v y) (held_same t _ a b (la ∙ sym lb) ha (subst (λ (j : ℕ). Stands t ((1 + 2 * n) * j + 1) b) q hb))
            (subst (λ (v : List ℕ). AdvancedTo m p n a v) (held_same t _ z y (lz ∙ sym ly) hz (subst (λ (j : ℕ). Stands t ((1 + 2 * n) * j + 1 + n) y) q hy))
            (subst (λ (v : Option ℕ). AdvancedTo m v n a z)
            (tag_told o p (sym tag ∙ ap (λ (j : ℕ). get_or t ((1 + 2 * n) * j) 0) (sym q) ∙ e.tagged)) to))
        by k p b y lb ly e hb hy (no d) =
            known.entries k p b y lb ly (entry_was (1 + 2 * n) slot s t x k d p (omega arith) e)
            (held_was (1 + 2 * n) slot s t x k d _ 1 b (omega arith) (omega arith) hb)
            (held_was (1 + 2 * n) slot s t x k d _ (1 + n) y (omega arith) (omega arith) hy)

  module _ (b : List ℕ) (lb : length b ≡ n) (x : Changed ((1 + 3 * n) * slot) ((1 + 3 * n) * slot + (1 + 3 * n)) s t) (tag : get_or t ((1 + 3 * n) * slot) 0 ≡ tag_of o)
      (ha : Stands t ((1 + 3 * n) * slot + 1) a) (hb : Stands t ((1 + 3 * n) * slot + 1 + n) b) (hz : Stands t ((1 + 3 * n) * slot + 1 + 2 * n) z)
      (to : RetreatedTo m o n a b z) (known : KnownBack m n s) where
    known-back : KnownBack m n t
    known-back = record { entries = λ k p c d y lc ld ly e hc hd hy. by k p c d y lc ld ly e hc hd hy (ℕ_discrete k slot) }
      where
        by : (k : ℕ) (p : Option ℕ) (c d y : List ℕ) → length c ≡ n → length d ≡ n → length y ≡ n → Entry t (1 + 3 * n) k p → Stands t ((1 + 3 * n) * k + 1) c
            → Stands t ((1 + 3 * n) * k + 1 + n) d → Stands t ((1 + 3 * n) * k + 1 + 2 * n) y → Dec (k ≡ slot) → RetreatedTo m p n c d y
        by k p c d y lc ld ly e hc hd hy (yes q) =
            subst (λ (v : List ℕ). RetreatedTo m p n v d y) (held_same t _ a c (la ∙ sym lc) ha (subst (λ (j : ℕ). Stands t ((1 + 3 * n) * j + 1) c) q hc))
            (subst (λ (v : List ℕ). RetreatedTo m p n a v y) (held_same t _ b d (lb ∙ sym ld) hb (subst (λ (j : ℕ). Stands t ((1 + 3 * n) * j + 1 + n) d) q hd))
            (subst (λ (v : List ℕ). RetreatedTo m p n a b v) (held_same t _ z y (lz ∙ sym ly) hz (subst (λ (j : ℕ). Stands t ((1 + 3 * n) * j + 1 + 2 * n) y) q hy))
            (subst (λ (v : Option ℕ). RetreatedTo m v n a b z)
            (tag_told o p (sym tag ∙ ap (λ (j : ℕ). get_or t ((1 + 3 * n) * j) 0) (sym q) ∙ e.tagged)) to)))
        by k p c d y lc ld ly e hc hd hy (no u) =
            known.entries k p c d y lc ld ly (entry_was (1 + 3 * n) slot s t x k u p (omega arith) e)
            (held_was (1 + 3 * n) slot s t x k u _ 1 c (omega arith) (omega arith) hc)
            (held_was (1 + 3 * n) slot s t x k u _ (1 + n) d (omega arith) (omega arith) hd)
            (held_was (1 + 3 * n) slot s t x k u _ (1 + 2 * n) y (omega arith) (omega arith) hy)

-- .. in an entry that starts at some place
next_entry : (w k : ℕ) → w * (k + 1) ≡ w * k + w
next_entry w k = omega arith

starting : (w place tag : ℕ) (o : Option ℕ) (s : List ℕ) (p : Starts w (length s) place) → tag ≡ tag_of o → get_or s place 0 ≡ tag → Entry s w p.slot o
starting w place tag o s p t e =
    record { fits = omega (arith, next_entry w p.slot, p.start, p.fits); tagged = ap (λ (j : ℕ). get_or s j 0) (sym p.start) ∙ e ∙ t }

module _ (m : Monitor) (place tag : ℕ) (o : Option ℕ) (tagged : tag ≡ tag_of o) where
  module _ (s a z : List ℕ) (lz : length z ≡ length a) (p : Starts (1 + 2 * length a) (length s) place) where
    recall : get_or s place 0 ≡ tag → Stands s (place + 1) a → Stands s (place + 1 + length a) z → Known m (length a) s → AdvancedTo m o (length a) a z
    recall e ha hz known =
        known.entries p.slot o a z refl lz (starting (1 + 2 * length a) place tag o s p tagged e) (subst (λ (j : ℕ). Stands s (j + 1) a) p.start ha)
        (subst (λ (j : ℕ). Stands s (j + 1 + length a) z) p.start hz)

    pub recalled : (n : ℕ) → length a ≡ n → get_or s place 0 ≡ tag → Stands s (place + 1) a → Stands s (place + 1 + length a) z → Known m n s → AdvancedTo m o n a z
    recalled n la e ha hz = subst (λ (k : ℕ). Known m k s → AdvancedTo m o k a z) la (recall e ha hz)

    module _ (t u : List ℕ) (x : Changed place (place + 1 + length a) s t) (e : get_or t place 0 ≡ tag) (ha : Stands t (place + 1) a)
        (y : Changed (place + 1 + length a) (place + 1 + length a + length z) t u) (hz : Stands u (place + 1 + length a) z) where
      keep : AdvancedTo m o (length a) a z → Known m (length a) s → Known m (length a) u
      keep =
          known_kept m (length a) p.slot o s u a z refl lz
          (subst (λ (j : ℕ). Changed j (j + (1 + 2 * length a)) s u) p.start (changed-more (changed_wider x (omega arith) (omega arith)) y (omega arith) (omega arith)))
          (ap (λ (j : ℕ). get_or u j 0) (sym p.start) ∙ y.under place (omega arith) ∙ e ∙ tagged)
          (subst (λ (j : ℕ). Stands u (j + 1) a) p.start (held_under (place + 1) a y (omega arith) ha))
          (subst (λ (j : ℕ). Stands u (j + 1 + length a) z) p.start hz)

      pub kept : (n : ℕ) → length a ≡ n → AdvancedTo m o n a z → Known m n s → Known m n u
      kept n la = subst (λ (k : ℕ). AdvancedTo m o k a z → Known m k s → Known m k u) la keep

  module _ (s a b z : List ℕ) (la : length a ≡ length b) (lz : length z ≡ length b) (p : Starts (1 + 3 * length b) (length s) place) where
    recall-back : get_or s place 0 ≡ tag → Stands s (place + 1) a → Stands s (place + 1 + length a) b → Stands s (place + 1 + 2 * length b) z
        → KnownBack m (length b) s → RetreatedTo m o (length b) a b z
    recall-back e ha hb hz known =
        known.entries p.slot o a b z la refl lz (starting (1 + 3 * length b) place tag o s p tagged e) (subst (λ (j : ℕ). Stands s (j + 1) a) p.start ha)
        (subst (λ (j : ℕ). Stands s (j + 1 + length b) b) p.start (subst (λ (k : ℕ). Stands s (place + 1 + k) b) la hb))
        (subst (λ (j : ℕ). Stands s (j + 1 + 2 * length b) z) p.start hz)

    pub recalled_back : (n : ℕ) → length b ≡ n → get_or s place 0 ≡ tag → Stands s (place + 1) a → Stands s (place + 1 + length a) b
        → Stands s (place + 1 + 2 * length b) z → KnownBack m n s → RetreatedTo m o n a b z
    recalled_back n lb e ha hb hz = subst (λ (k : ℕ). KnownBack m k s → RetreatedTo m o k a b z) lb (recall-back e ha hb hz)

    module _ (t u : List ℕ) (x : Changed place (place + 1 + length a + length b) s t) (e : get_or t place 0 ≡ tag) (ha : Stands t (place + 1) a)
        (hb : Stands t (place + 1 + length a) b) (y : Changed (place + 1 + 2 * length b) (place + 1 + 2 * length b + length z) t u)
        (hz : Stands u (place + 1 + 2 * length b) z) where
      keep-back : RetreatedTo m o (length b) a b z → KnownBack m (length b) s → KnownBack m (length b) u
      keep-back =
          known-back m (length b) p.slot o s u a z la lz b refl
          (subst (λ (j : ℕ). Changed j (j + (1 + 3 * length b)) s u) p.start (changed-more (changed_wider x (omega arith) (omega arith)) y (omega arith) (omega arith)))
          (ap (λ (j : ℕ). get_or u j 0) (sym p.start) ∙ y.under place (omega arith) ∙ e ∙ tagged)
          (subst (λ (j : ℕ). Stands u (j + 1) a) p.start (held_under (place + 1) a y (omega arith) ha))
          (subst (λ (j : ℕ). Stands u (j + 1 + length b) b) p.start
          (held_under (place + 1 + length b) b y (omega arith) (subst (λ (k : ℕ). Stands t (place + 1 + k) b) la hb)))
          (subst (λ (j : ℕ). Stands u (j + 1 + 2 * length b) z) p.start hz)

      pub kept_back : (n : ℕ) → length b ≡ n → RetreatedTo m o n a b z → KnownBack m n s → KnownBack m n u
      kept_back n lb = subst (λ (k : ℕ). RetreatedTo m o k a b z → KnownBack m k s → KnownBack m k u) lb keep-back

-- where a slot's entry starts
pub starts_at : (w k e long : ℕ) → k < e → w * e ≤ long → Starts w long (w * k)
starts_at w k e long h l = record { slot = k; start = refl; fits = omega (arith, before_next w k e h) }

pub starts_first : (w e long : ℕ) → 0 < e → w * e ≤ long → Starts w long 0
starts_first w e long h l = record { slot = 0; start = omega arith; fits = omega (arith, before_next w 0 e h) }

pub spread-below : (k e : ℕ) → k < 65536 → 0 < e → k * e / 65536 < e
spread-below k e h p = let l : k * e ≤ 65535 * e = mul-le-mul_right e (omega arith) in omega arith

pub spread-fits : (k e : ℕ) → k < 65536 → e ≤ 65536 → k * e < 18446744073709551616
spread-fits k e h p =
    let l : k * e ≤ 65535 * e = mul-le-mul_right e (omega arith) in omega arith
