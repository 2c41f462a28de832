-- Sets and their words. Assumes nothing.
use mathlib.Core.Path.{◌≡◌, refl, sym, ap, ◌∙◌}
use mathlib.Core.Bool.{Bool, false, not, ◌&&◌, ◌||◌, and-false, or-false}
use mathlib.Core.List.{List}
use Prim.Native.Nat.{ℕ, ◌+◌, ◌-◌, ◌*◌, ◌/◌, ◌%◌, ◌^◌, ◌≤◌, ◌<◌}
use native.Mathlib.Decide.{dec_lt}
use native.Mathlib.Omega.{arith}
use borrow.Author.Rules.{rules}
use borrow.Rule.Slice.PartMut.{put_mid}
use borrow.Author.Tests.{lt-ltb, le-ltb}
use lib.Dec.{ltb}
use lib.ListN.{length, get_or, take, drop, replicate, length-drop, length-replicate}
use Rattle.std.proofs.lemmas.List.{places, take_rest, length-take-le, get_or-take, get_or-replicate, get_or_append_left, get_or-append_right}
use Rattle.words.specs.Words.{bit, mem, Bits, Is, Joined, Part}
use Rattle.words.proofs.Bit.{bit_zero, bit_past, bit_not}
use Rattle.words.proofs.Sets.{mem_at}

-- one word of a set
pub whole-bits : (s : List ℕ) (k : ℕ) → get_or s k 0 < 2 ^ 64 → Bits 64 (λ j. mem s (64 * k + j)) (get_or s k 0)
whole-bits s k small = record { bits = λ j. by j (dec_lt j 64) }
  where
    by : (j : ℕ) → Dec (j < 64) → bit (get_or s k 0) j ≡ (ltb j 64 && mem s (64 * k + j))
    by j (yes h) = simp (lt-ltb j 64 h, mem_at s (64 * k + j) k j refl h)
    by j (no h) = simp (le-ltb j 64 (omega arith), bit_past 64 (get_or s k 0) j small (omega arith))

pub zero_bits : (w : ℕ) (p : ℕ → Bool) → ((j : ℕ) → j < w → p j ≡ false) → Bits w p 0
zero_bits w p h = record { bits = λ j. bit_zero j ∙ by j (dec_lt j w) }
  where
    by : (j : ℕ) → Dec (j < w) → false ≡ (ltb j w && p j)
    by j (yes l) = simp (h j l, and-false)
    by j (no l) = simp (le-ltb j w (omega arith))

pub same_bits : (w : ℕ) (p q : ℕ → Bool) (x : ℕ) → ((j : ℕ) → j < w → p j ≡ q j) → Bits w p x → Bits w q x
same_bits w p q x h b = record { bits = λ j. b.bits j ∙ by j (dec_lt j w) }
  where
    by : (j : ℕ) → Dec (j < w) → (ltb j w && p j) ≡ (ltb j w && q j)
    by j (yes l) = ap (λ (t : Bool). ltb j w && t) (h j l)
    by j (no l) = simp (le-ltb j w (omega arith))

pub not_bits : (p : ℕ → Bool) (x : ℕ) → x < 2 ^ 64 → Bits 64 p x → Bits 64 (λ j. not (p j)) (2 ^ 64 - 1 - x)
not_bits p x small b = record { bits = λ j. by j (dec_lt j 64) }
  where
    by : (j : ℕ) → Dec (j < 64) → bit (2 ^ 64 - 1 - x) j ≡ (ltb j 64 && not (p j))
    by j (yes h) = bit_not 64 x j small h ∙ ap not (b.bits j) ∙ simp (lt-ltb j 64 h)
    by j (no h) = bit_past 64 (2 ^ 64 - 1 - x) j (omega arith) (omega arith) ∙ simp (le-ltb j 64 (omega arith))

-- a set is known by its words
pub is_by_words : (p : ℕ → Bool) (v : ℕ → ℕ) (a b : List ℕ) → length b ≡ length a → ((k : ℕ) → k < length a → get_or b k 0 ≡ v k)
    → ((k : ℕ) → Bits 64 (λ j. p (64 * k + j)) (v k)) → Is p a b
is_by_words p v a b e h w =
    record {
      size = e;
      all =
          λ i l. let n : 64 * (i / 64) + i % 64 ≡ i = omega arith in
          mem_at b i (i / 64) (i % 64) (omega arith) (omega arith)
          ∙ ap (λ (x : ℕ). bit x (i % 64)) (h (i / 64) (omega arith))
          ∙ (w (i / 64)).bits (i % 64)
          ∙ simp (lt-ltb (i % 64) 64 (omega arith), n);
    }

-- .. where those from word n on are made 0
module _ (p : ℕ → Bool) (v : ℕ → ℕ) (a s z : List ℕ) (n : ℕ) (e : length s ≡ length a) (h : n ≤ length a)
    (zeros : z ≡ replicate (length (take (length s - n) (drop n s))) 0)
    (low : (k : ℕ) → k < n → get_or s k 0 ≡ v k) (high : (k : ℕ) → n ≤ k → k < length a → v k ≡ 0) where
  abbrev cut : List ℕ
  cut = put_mid n (length s - n) s z

  front : length (take n s) ≡ n
  front = length-take-le n s (omega arith)

  back : z ≡ replicate (length a - n) 0
  back = zeros ∙ ap (λ (m : ℕ). replicate m 0) (omega (arith, ap length (take_rest s n), length-drop n s))

  cut-at : (k : ℕ) → k < length a → Dec (k < n) → get_or cut k 0 ≡ v k
  cut-at k l (yes d) = get_or_append_left (take n s) _ 0 k (omega (arith, front)) ∙ get_or-take n s k 0 d ∙ low k d
  cut-at k l (no d) =
      get_or-append_right (take n s) _ n k 0 front (omega arith)
      ∙ get_or_append_left z _ 0 (k - n) (omega (arith, ap length back, length-replicate {A = ℕ} (length a - n) 0))
      ∙ ap (λ (t : List ℕ). get_or t (k - n) 0) back
      ∙ get_or-replicate (length a - n) (k - n) 0 0 (omega arith)
      ∙ sym (high k (omega arith) l)

  pub is_by_cut : ((k : ℕ) → Bits 64 (λ j. p (64 * k + j)) (v k)) → Is p a cut
  is_by_cut = is_by_words p v a cut (search (rules, places)) (λ k l. cut-at k l (dec_lt k n))

-- p is joined below word w, and has nothing from there on
pub part_joined : (p : ℕ → Bool) (a b : List ℕ) (w : ℕ) → Part (λ i. mem a i || p i) w a b → ((i : ℕ) → 64 * w ≤ i → i < 64 * length a → p i ≡ false)
    → Joined p a b
part_joined p a b w x none = record { size = x.size; all = λ i l. by i l (dec_lt i (64 * w)) }
  where
    by : (i : ℕ) → i < 64 * length a → Dec (i < 64 * w) → mem b i ≡ (mem a i || p i)
    by i l (yes h) = x.done i h
    by i l (no h) = x.rest i (omega arith) ∙ simp (none i (omega arith) l, or-false)
