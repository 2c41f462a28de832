-- Stores one behind the other, and what they leave in a text.
use Prim.Native.Nat.{ℕ, suc, ◌+◌}
use native.Mathlib.Nat.{add-zero}
use native.Mathlib.Omega.{arith}
use mathlib.Core.Path.{◌≡◌, refl, sym, ap, ◌∙◌}
use mathlib.Core.List.{List, [], ◌∷◌, ◌++◌}
use lib.ListN.{length, set, length-append}
use lib.Seq.{sets, drop-nil}
use Rattle.model.specs.Desk.{in_text}
use Rattle.text.specs.Put.{stored, Wrote}

stored_more : (t : List ℕ) (at : ℕ) (a b : List ℕ) → stored (stored t at a) (at + length a) b ≡ stored t at (a ++ b)
unfolding stored
stored_more t at [] b = ap (λ (k : ℕ). sets t k b) (add-zero at)
stored_more t at (x ∷ a) b = ap (λ (k : ℕ). sets (sets (set t at x) (suc at) a) k b) (omega arith) ∙ stored_more (set t at x) (suc at) a b

-- two writers, one behind the other
pub wrote-more : {a b t u v : List ℕ} {at r s : ℕ} → Wrote a at t u r → Wrote b r u v s → Wrote (a ++ b) at t v s
wrote-more {a} {b} {t} {u} {v} {at} {r} {s} p q =
    record {
      text = q.text ∙ ap (λ (l : List ℕ). stored l r b) p.text ∙ ap (λ (k : ℕ). stored (stored t at a) k b) p.place ∙ stored_more t at a b;
      place = q.place ∙ omega (arith, p.place, length-append a b);
    }

pub wrote_none : (t : List ℕ) (at : ℕ) → Wrote [] at t t at
unfolding stored
wrote_none t at = record { text = refl; place = sym (add-zero at) }

-- from the front on, the bytes stand in the text as far as they fit
stored_front : (t bytes : List ℕ) → stored t 0 bytes ≡ in_text bytes t
unfolding stored
stored_front [] bytes = none bytes 0 ∙ sym (drop-nil (length bytes))
  where
    none : (l : List ℕ) (i : ℕ) → sets [] i l ≡ []
    none [] i = refl
    none (x ∷ l) i = none l (suc i)
stored_front (x ∷ t) [] = refl
stored_front (x ∷ t) (b ∷ bytes) = behind b t 0 bytes ∙ ap (λ (l : List ℕ). b ∷ l) (stored_front t bytes)
  where
    behind : (y : ℕ) (l : List ℕ) (i : ℕ) (m : List ℕ) → sets (y ∷ l) (suc i) m ≡ y ∷ sets l i m
    behind y l i [] = refl
    behind y l i (z ∷ m) = behind y (set l i z) (suc i) m

pub wrote_front : {bytes t u : List ℕ} {r : ℕ} → Wrote bytes 0 t u r → (r ≡ length bytes) × (u ≡ in_text bytes t)
wrote_front {bytes} {t} w = (omega (arith, w.place), w.text ∙ stored_front t bytes)
