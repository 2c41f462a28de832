-- Lengths and counts of either edition, as bytes and back, and what a recording and a witness begin with.
use Prim.Native.Nat.{ℕ, ◌+◌, ◌<◌, ◌≤◌}
use native.Mathlib.Omega.{arith}
use mathlib.Core.Path.{◌≡◌, refl}
use mathlib.Core.List.{List, [], ◌∷◌, ◌++◌}
use lib.ListN.{length}
use Rattle.model.specs.Bytes.{byte_at}
use Rattle.model.specs.Edition.{size_at, size_bytes, version_of, version_place, count_place, rows_place, most_rows, latest_time}
use Rattle.model.specs.Frame.{rows_size, rows_frame}
use Rattle.model.specs.declared.Edition.{Edition}
use Rattle.model.specs.declared.Edition.TheVariants.{One, Two}
use Rattle.model.proofs.Places.{AllBytes, Stands, stands_nil, stands_cons, stands-left, stands-right, stands-append, word_at_lem, word_back, long_at_lem, long-back}

-- one more than the largest length or count that its bytes can say
abbrev pub size_end : Edition → ℕ
size_end One = 65536
size_end Two = 4294967296

pub size_at_lem : (edition : Edition) (b : List ℕ) (at n : ℕ) → AllBytes b → size_at edition b at ≡ n → Stands b at (size_bytes edition n)
size_at_lem One = word_at_lem
size_at_lem Two = long_at_lem

pub size_back : (edition : Edition) (b : List ℕ) (at n : ℕ) → n < size_end edition → Stands b at (size_bytes edition n) → size_at edition b at ≡ n
size_back One = word_back
size_back Two = long-back

-- so many rows, and their bytes, can be said
pub rows_sizeable : (edition : Edition) (n : ℕ) → n ≤ most_rows edition → (n < size_end edition) × (rows_size edition 5 n < size_end edition)
rows_sizeable One n h = (omega arith, omega arith)
rows_sizeable Two n h = (omega arith, omega arith)

-- a row an instant fits
pub times-rows : (edition : Edition) → latest_time edition ≤ most_rows edition
times-rows One = omega arith
times-rows Two = omega arith

pub frame_length : (edition : Edition) (width n : ℕ) → length (rows_frame edition width n) ≡ rows_place edition
frame_length One width n = refl
frame_length Two width n = refl

-- length, version and count, and behind them the rows
module _ (b : List ℕ) where
  stands-four : (a v c rows : List ℕ) → Stands b 0 a → Stands b (0 + length a) v → Stands b (0 + length (a ++ v)) c → Stands b (0 + length (a ++ v ++ c)) rows → Stands b 0 (a ++ v ++ c ++ rows)
  stands-four a v c rows p q r s = stands-append b 0 (a ++ v ++ c) rows (stands-append b 0 (a ++ v) c (stands-append b 0 a v p q) r) s

  pub stands_headed : (edition : Edition) (n count : ℕ) (rows : List ℕ) → Stands b 0 (size_bytes edition n) → byte_at b (version_place edition) ≡ version_of edition
      → Stands b (count_place edition) (size_bytes edition count) → Stands b (rows_place edition) rows
      → Stands b 0 (size_bytes edition n ++ (version_of edition ∷ []) ++ size_bytes edition count ++ rows)
  stands_headed One n count rows p q = stands-four (size_bytes One n) (1 ∷ []) (size_bytes One count) rows p (stands_cons b 2 1 [] q (stands_nil b 3))
  stands_headed Two n count rows p q = stands-four (size_bytes Two n) (2 ∷ []) (size_bytes Two count) rows p (stands_cons b 4 2 [] q (stands_nil b 5))

  pub headed_size : (edition : Edition) (n count : ℕ) (rows : List ℕ) → Stands b 0 (size_bytes edition n ++ (version_of edition ∷ []) ++ size_bytes edition count ++ rows)
      → Stands b 0 (size_bytes edition n)
  headed_size edition n count rows s =
      stands-left b 0 (size_bytes edition n) (version_of edition ∷ [])
      (stands-left b 0 (size_bytes edition n ++ (version_of edition ∷ [])) (size_bytes edition count) (stands-left b 0 (size_bytes edition n ++ (version_of edition ∷ []) ++ size_bytes edition count) rows s))

  pub headed_version : (edition : Edition) (n count : ℕ) (rows : List ℕ) → Stands b 0 (size_bytes edition n ++ (version_of edition ∷ []) ++ size_bytes edition count ++ rows)
      → byte_at b (version_place edition) ≡ version_of edition
  headed_version One n count rows s = s 2 (omega arith)
  headed_version Two n count rows s = s 4 (omega arith)

  pub headed_count : (edition : Edition) (n count : ℕ) (rows : List ℕ) → Stands b 0 (size_bytes edition n ++ (version_of edition ∷ []) ++ size_bytes edition count ++ rows)
      → Stands b (count_place edition) (size_bytes edition count)
  headed_count One n count rows s =
      stands-right b 0 (size_bytes One n ++ (1 ∷ [])) (size_bytes One count) (stands-left b 0 (size_bytes One n ++ (1 ∷ []) ++ size_bytes One count) rows s)
  headed_count Two n count rows s =
      stands-right b 0 (size_bytes Two n ++ (2 ∷ [])) (size_bytes Two count) (stands-left b 0 (size_bytes Two n ++ (2 ∷ []) ++ size_bytes Two count) rows s)

  pub headed_rows : (edition : Edition) (n count : ℕ) (rows : List ℕ) → Stands b 0 (size_bytes edition n ++ (version_of edition ∷ []) ++ size_bytes edition count ++ rows)
      → Stands b (rows_place edition) rows
  headed_rows One n count rows s = stands-right b 0 (size_bytes One n ++ (1 ∷ []) ++ size_bytes One count) rows s
  headed_rows Two n count rows s = stands-right b 0 (size_bytes Two n ++ (2 ∷ []) ++ size_bytes Two count) rows s
