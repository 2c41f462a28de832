-- Words of a set: the numbers that their bytes make, and how many are in the set. Assumes nothing.
use Rattle.std.proofs.Common.{◌≡◌, ℕ, zero, suc, ◌+◌, ◌-◌, ◌*◌, ◌/◌, ◌%◌, ◌^◌, ◌<◌, ◌≤◌, cond, eqb, List, [], length, get_or, take, drop, sym, refl, ap, ◌∙◌, ap₂, add-zero, pow-suc, zero-add, div-one, arith, length-drop, length-take-le, get_or-drop, get_or-take}
use native.Mathlib.Decide.{dec_lt}
use lib.Arith.{lt-one}
use lib.Count.{ones, ones_step}
use lib.ListN.{get_or-eq_default}
use lib.Seq.{take_all}
use Rattle.std.proofs.lemmas.List.{drop-drop}
use Rattle.std.specs.Simd.{first_chunks}
use Rattle.std.specs.Int.{w64, from_le_bytes}
use Rattle.bits.specs.Member.{bit, mem}
use Rattle.bits.specs.Words.{in_word, WordOf}
use Rattle.bits.specs.Counting.{tally, population, Counted}
use Rattle.bits.specs.LittleEndian.{little_endian}
use Rattle.bits.proofs.Laws.{bit_zero, bit_shr, mem-past, mem_part, tally-same, tally-add, tally_none, population-fits}
use Rattle.bits.proofs.LittleEndian.{AreBytes, little_endian_bits, little_endian_below, from_bytes}

-- a number below 2 ^ k has as many bits as it has ones

digit : (x : ℕ) → x < 2 → cond (eqb x 1) 1 0 ≡ x
digit zero h = refl
digit (suc zero) h = refl
digit (suc (suc x)) h = absurd (omega arith)

lowest : (x : ℕ) → tally (bit x) 1 ≡ x % 2
unfolding tally
lowest x =
    add-zero (cond (bit x 0) 1 0)
    ∙ ap (λ (q : ℕ). cond (eqb (q % 2) 1) 1 0) (div-one x)
    ∙ digit (x % 2) (omega arith)

tally_ones : (k x : ℕ) → x < 2 ^ k → tally (bit x) k ≡ ones x
unfolding ones tally
tally_ones zero x h = ap ones (sym (lt-one h))
tally_ones (suc k) x h =
    let half : x / 2 < 2 ^ k = omega (arith, pow-suc 2 k) in
    let e : suc k ≡ 1 + k = omega arith in
    ap (tally (bit x)) e
    ∙ tally-add (bit x) 1 k
    ∙ ap₂ (λ (a b : ℕ). a + b)
    (tally-same (λ j. bit x (1 + j)) (bit (x / 2)) k (λ j l. sym (bit_shr x 1 j)) ∙ tally_ones k (x / 2) half)
    (lowest x)
    ∙ omega (arith, ones_step x)

-- word k of a set: the number that its bytes make, which are eight or as many as are left
module _ (s : List ℕ) (k n : ℕ) (few : n ≤ 8) (there : 8 * k + n ≤ length s) (all : n < 8 → length s ≤ 8 * k + n) where
  abbrev part : List ℕ
  part = take n (drop (8 * k) s)

  part_length : length part ≡ n
  part_length = length-take-le n (drop (8 * k) s) (omega (arith, length-drop (8 * k) s))

  part_bytes : AreBytes s → AreBytes part
  part_bytes bytes i = on (dec_lt i n)
    where
      on : Dec (i < n) → get_or part i 0 < 256
      on (yes l) = omega (arith, get_or-take n (drop (8 * k) s) i 0 l, get_or-drop (8 * k) s i 0, bytes (8 * k + i))
      on (no l) = let past : length part ≤ i = omega (arith, part_length) in omega (arith, get_or-eq_default part 0 past)

  part_bits : (j : ℕ) → j < 64 → Dec (j < 8 * n) → mem part j ≡ in_word s k j
  part_bits j h (yes l) = let start : 8 * (8 * k) ≡ 64 * k = omega arith in mem_part s (8 * k) n j l ∙ ap (λ (i : ℕ). mem s (i + j)) start
  part_bits j h (no l) = mem-past part j (omega (arith, part_length)) ∙ sym (mem-past s (64 * k + j) (omega (arith, all (omega arith))))

  word_of : AreBytes s → (r : ℕ) → r ≡ little_endian part → WordOf s k r
  word_of bytes r e =
      record {
        fits = omega (arith, little_endian_below part 8 (part_bytes bytes) (omega (arith, part_length)));
        bits = λ j h. ap (λ (x : ℕ). bit x j) e ∙ little_endian_bits part (part_bytes bytes) j ∙ part_bits j h (dec_lt j (8 * n));
      }

-- the chunks of eight
chunk_at : (n : ℕ) (s : List ℕ) (k : ℕ) → k < n → get_or (first_chunks 8 n s) k [] ≡ take 8 (drop (8 * k) s)
chunk_at zero s k l = absurd (omega arith)
chunk_at (suc n) s zero l = refl
chunk_at (suc n) s (suc k) l = chunk_at n (drop 8 s) k (omega arith) ∙ ap (take 8) (drop-drop (8 * k) 8 s ∙ ap (λ (m : ℕ). drop m s) (omega arith))

module _ (s : List ℕ) (k r : ℕ) (bytes : AreBytes s) where
  pub word_whole : (n : ℕ) (ws : List (List ℕ)) → ws ≡ first_chunks 8 n s → n ≡ length s / 8 → k < n → r ≡ from_le_bytes w64 (get_or ws k []) → WordOf s k r
  word_whole n ws e f l g =
      let here : get_or ws k [] ≡ take 8 (drop (8 * k) s) = ap (λ (t : List (List ℕ)). get_or t k []) e ∙ chunk_at n s k l in
      let long : length (take 8 (drop (8 * k) s)) ≡ 8 = length-take-le 8 (drop (8 * k) s) (omega (arith, length-drop (8 * k) s)) in
      word_of s k 8 (omega arith) (omega arith) (λ q. omega arith) bytes r (g ∙ ap (from_le_bytes w64) here ∙ from_bytes (take 8 (drop (8 * k) s)) long)

  pub word_rest : (rest : List ℕ) → rest ≡ drop (length s / 8 * 8) s → k ≡ length s / 8 → r ≡ little_endian rest → WordOf s k r
  word_rest rest e f g =
      let at : length s / 8 * 8 ≡ 8 * k = omega arith in
      let all : take (length s % 8) (drop (8 * k) s) ≡ drop (8 * k) s = take_all (length s % 8) (drop (8 * k) s) (omega (arith, length-drop (8 * k) s)) in
      word_of s k (length s % 8) (omega arith) (omega arith) (λ q. omega arith) bytes r (g ∙ ap little_endian (e ∙ ap (λ (m : ℕ). drop m s) at ∙ sym all))

-- past the end
pub word_past : (s : List ℕ) (k : ℕ) → length s < 8 * k → WordOf s k 0
word_past s k h = record { fits = omega arith; bits = λ j l. bit_zero 0 j refl ∙ sym (mem-past s (64 * k + j) (omega arith)) }

-- how many numbers of a word are in the set
pub word_tally : (s : List ℕ) (k r : ℕ) → WordOf s k r → ones r ≡ tally (in_word s k) 64
word_tally s k r w = sym (tally_ones 64 r w.fits) ∙ tally-same (bit r) (in_word s k) 64 w.bits

-- one word more
pub tally_word : (s : List ℕ) (k : ℕ) → tally (mem s) (64 * (k + 1)) ≡ tally (in_word s k) 64 + tally (mem s) (64 * k)
tally_word s k = ap (tally (mem s)) (omega arith) ∙ tally-add (mem s) (64 * k) 64

-- with the last word all are counted
tally-all : (s : List ℕ) → tally (mem s) (64 * (length s / 8 + 1)) ≡ population s
tally-all s =
    let more = 64 * (length s / 8 + 1) - 8 * length s in
    let e : 64 * (length s / 8 + 1) ≡ 8 * length s + more = omega arith in
    ap (tally (mem s)) e
    ∙ tally-add (mem s) (8 * length s) more
    ∙ ap (λ (n : ℕ). n + population s) (tally_none (λ i. mem s (8 * length s + i)) more (λ i l. mem-past s (8 * length s + i) (omega arith)))
    ∙ zero-add (population s)

pub counted : (s : List ℕ) (r : ℕ) → r ≡ tally (mem s) (64 * (length s / 8 + 1)) % 2 ^ 64 → Counted s r
counted s r e =
    let all : r ≡ population s % 2 ^ 64 = e ∙ ap (λ (n : ℕ). n % 2 ^ 64) (tally-all s) in
    record { exact = λ h. all ∙ population-fits s (omega arith); wrapped = all }
