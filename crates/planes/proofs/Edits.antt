-- Sets that are changed in place, word by word. Assumes nothing.
use mathlib.Core.Path.{◌≡◌, refl, ap, ◌∙◌}
use mathlib.Core.Bool.{Bool, true, false, ◌&&◌}
use mathlib.Core.List.{List}
use Prim.Native.Nat.{ℕ, ◌+◌, ◌*◌, ◌/◌, ◌%◌, ◌^◌, ◌≤◌, ◌<◌}
use native.Mathlib.Omega.{arith}
use borrow.Author.Tests.{lt-ltb}
use lib.Dec.{ltb}
use lib.ListN.{length, get_or, set, replicate, length-set, length-replicate}
use Rattle.std.proofs.lemmas.List.{get_or-replicate}
use lib.Bits.{bit_and}
use Rattle.words.specs.Words.{bit, mem, Bits, Is, Upto}
use Rattle.words.proofs.Bit.{bit_zero, bit_mask}
use Rattle.words.proofs.Sets.{and_bits, mem_other}
use Rattle.strides.proofs.Moves.{own_bits, upto_more}

pub bits-same : (p q : ℕ → Bool) (x : ℕ) → ((j : ℕ) → p j ≡ q j) → Bits 64 p x → Bits 64 q x
bits-same p q x e b = record { bits = λ j. b.bits j ∙ ap (λ (t : Bool). ltb j 64 && t) (e j) }

-- a set that is p below word k and still s from there on
pub record Changed (p : ℕ → Bool) (s : List ℕ) (k : ℕ) (a : List ℕ) : Type 0 where
  pub size : length a ≡ length s
  pub done : Upto p k a
  pub rest : (i : ℕ) → 64 * k ≤ i → mem a i ≡ mem s i

pub changed_none : (p : ℕ → Bool) (s : List ℕ) → Changed p s 0 s
changed_none p s = record { size = refl; done = record { all = λ i l. absurd (omega arith) }; rest = λ i l. refl }

module _ (p : ℕ → Bool) (s : List ℕ) (k : ℕ) (a : List ℕ) (h : k < length a) (c : Changed p s k a) where
  pub changed-more : (v : ℕ) → Bits 64 (λ j. p (64 * k + j)) v → Changed p s (k + 1) (set a k v)
  changed-more v b =
      record {
        size = length-set a k v ∙ c.size;
        done = upto_more p a k v h b c.done;
        rest = λ i l. mem_other a k v h i (λ e. omega arith) ∙ c.rest i (omega arith);
      }

  -- a word from there on has what s has
  pub still : (w x : ℕ) → k ≤ w → x ≡ get_or a w 0 → x < 2 ^ 64 → Bits 64 (λ j. mem s (64 * w + j)) x
  still w x l e small = bits-same (λ j. mem a (64 * w + j)) (λ j. mem s (64 * w + j)) x (λ j. c.rest (64 * w + j) (omega arith)) (own_bits a w x e small)

pub word_common : (s a : List ℕ) (n k x y : ℕ) → k < length a → Changed (λ i. mem s i && mem s (64 * n + i)) s k a
    → x ≡ get_or a k 0 → x < 2 ^ 64 → y ≡ get_or a (n + k) 0 → y < 2 ^ 64 → Changed (λ i. mem s i && mem s (64 * n + i)) s (k + 1) (set a k (bit_and x y))
word_common s a n k x y h c e small e₁ small₁ =
    let p : ℕ → Bool = λ i. mem s i && mem s (64 * n + i) in
    let far : (j : ℕ) → 64 * (n + k) + j ≡ 64 * n + (64 * k + j) = λ j. omega arith in
    changed-more p s k a h c (bit_and x y)
    (and_bits 64 (λ j. mem s (64 * k + j)) (λ j. mem s (64 * n + (64 * k + j))) x y
    (still p s k a h c k x (omega arith) e small)
    (bits-same (λ j. mem s (64 * (n + k) + j)) (λ j. mem s (64 * n + (64 * k + j))) y (λ j. ap (mem s) (far j)) (still p s k a h c (n + k) y (omega arith) e₁ small₁)))

-- the same word everywhere
pub same_words : (s a : List ℕ) (x : ℕ) → a ≡ replicate (length s) x → Is (λ i. bit x (i % 64)) s a
unfolding mem
same_words s a x e =
    record {
      size = ap length e ∙ length-replicate (length s) x;
      all = λ i l. ap (λ (w : ℕ). bit w (i % 64)) (ap (λ (l : List ℕ). get_or l (i / 64) 0) e ∙ get_or-replicate (length s) (i / 64) x 0 (omega arith));
    }

pub none_there : (i : ℕ) → bit 0 (i % 64) ≡ false
none_there i = bit_zero (i % 64)

pub all_there : (i : ℕ) → bit 18446744073709551615 (i % 64) ≡ true
all_there i = bit_mask 64 (i % 64) ∙ lt-ltb (i % 64) 64 (omega arith)
