-- Marks are four sets of n words, one after the other: each as a part of their words. Assumes nothing.
use mathlib.Core.Path.{◌≡◌, ap, ◌∙◌}
use mathlib.Core.List.{List}
use Prim.Native.Nat.{ℕ, ◌+◌, ◌-◌, ◌*◌, ◌<◌}
use native.Mathlib.Omega.{arith}
use lib.ListN.{take, drop}
use Rattle.model.specs.Monitor.{Monitor}
use Rattle.words.specs.Words.{mem}
use Rattle.strides.proofs.Parts.{mem_part}
use Rattle.instants.specs.Digit.{is_lowest, is_highest}
use Rattle.instants.specs.Grid.{firsts, seconds}
use Rattle.firings.specs.Ready.{Marked}

-- the set in words a .. a + n
abbrev pub part_of : List ℕ → (a e : ℕ) → List ℕ
part_of s a e = take (e - a) (drop a s)

module _ {m : Monitor} {n : ℕ} {marks : List ℕ} (marked : Marked m n marks) (i : ℕ) (l : i < 64 * n) where
  pub low_first_lem : mem (part_of marks 0 n) i ≡ is_lowest 1 (firsts m) i
  low_first_lem =
      let at : 64 * 0 + i ≡ i = omega arith in
      mem_part marks 0 (n - 0) i (omega arith) ∙ ap (mem marks) at ∙ marked.low_first i l

  pub high_first_lem : mem (part_of marks n (2 * n)) i ≡ is_highest 1 (firsts m) i
  high_first_lem = mem_part marks n (2 * n - n) i (omega arith) ∙ marked.high_first i l

  pub low_second_lem : mem (part_of marks (2 * n) (3 * n)) i ≡ is_lowest (firsts m) (seconds m) i
  low_second_lem =
      let at : 64 * (2 * n) + i ≡ 64 * n * 2 + i = omega arith in
      mem_part marks (2 * n) (3 * n - 2 * n) i (omega arith) ∙ ap (mem marks) at ∙ marked.low_second i l

  pub high_second_lem : mem (part_of marks (3 * n) (4 * n)) i ≡ is_highest (firsts m) (seconds m) i
  high_second_lem =
      let at : 64 * (3 * n) + i ≡ 64 * n * 3 + i = omega arith in
      mem_part marks (3 * n) (4 * n - 3 * n) i (omega arith) ∙ ap (mem marks) at ∙ marked.high_second i l
