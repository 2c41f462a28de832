-- The sum over bytes: one more of them, and one list behind another.
use Prim.Native.Nat.{ℕ, ◌+◌, ◌*◌, ◌/◌, ◌%◌, ◌<◌}
use native.Mathlib.Numerals.{add-one}
use native.Mathlib.Omega.{arith}
use mathlib.Core.Path.{◌≡◌, refl, sym, ap, ◌∙◌}
use mathlib.Core.List.{List, [], ◌∷◌, ◌++◌}
use lib.ListN.{length, get_or, drop}
use lib.Seq.{drop-cons}
use Rattle.model.specs.Bytes.{word_bytes}
use Rattle.batch.specs.Batch.{sum_from}
use Rattle.batch.specs.Parts.{words_bytes}

pub sum_more : (total : ℕ) (bytes : List ℕ) (i : ℕ) → i < length bytes → sum_from ((total * 257 + get_or bytes i 0 + 1) % 1000003) (drop (i + 1) bytes) ≡ sum_from total (drop i bytes)
unfolding sum_from
sum_more total bytes i h =
    ap (λ (n : ℕ). sum_from ((total * 257 + get_or bytes i 0 + 1) % 1000003) (drop n bytes)) (add-one i)
    ∙ sym (ap (sum_from total) (drop-cons bytes i 0 h))

pub sum_append : (from : ℕ) (l m : List ℕ) → sum_from (sum_from from l) m ≡ sum_from from (l ++ m)
unfolding sum_from
sum_append from [] m = refl
sum_append from (b ∷ l) m = sum_append ((from * 257 + b + 1) % 1000003) l m

pub sum_behind : (from t u : ℕ) (l m : List ℕ) → t ≡ sum_from from l → u ≡ sum_from t m → u ≡ sum_from from (l ++ m)
sum_behind from t u l m e q = q ∙ ap (λ (n : ℕ). sum_from n m) e ∙ sum_append from l m

pub word_bytes_lem : (w : ℕ) → w < 65536 → (w / 256 ∷ w % 256 ∷ []) ≡ word_bytes w
word_bytes_lem w h = let high : w / 256 ≡ w / 256 % 256 = omega arith in ap (λ (n : ℕ). n ∷ w % 256 ∷ []) high

-- one more two-byte number
pub words_more : (total t : ℕ) (words : List ℕ) (i : ℕ) → i < length words → t ≡ sum_from total (word_bytes (get_or words i 0)) → sum_from t (words_bytes (drop (i + 1) words)) ≡ sum_from total (words_bytes (drop i words))
unfolding words_bytes
words_more total t words i h e =
    ap (λ (n : ℕ). sum_from t (words_bytes (drop n words))) (add-one i)
    ∙ sum_behind total t (sum_from t (words_bytes (drop (Prim.Native.Nat.suc i) words))) (word_bytes (get_or words i 0)) (words_bytes (drop (Prim.Native.Nat.suc i) words)) e refl
    ∙ sym (ap (λ (l : List ℕ). sum_from total (words_bytes l)) (drop-cons words i 0 h))
