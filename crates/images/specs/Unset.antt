-- The sets for each choice of clocks that are reset, from set 0.
use Rattle.std.specs.Prelude.{ℕ, ◌*◌, ◌<◌, ◌≡◌, List, true, false, length}
use Rattle.words.specs.Words.{bit}
use Rattle.firings.specs.Folded.{set_at, spread_by}

-- set 0 stays; where the others were empty, those that are worth it are what leads into set 0
pub record Unset (worth n w r w2 r2 : ℕ) (low_first low_second before after : List ℕ) : Type 0 where
  pub long : length after ≡ length before
  pub kept : (i : ℕ) → i < 64 * n → set_at after n 0 i ≡ set_at before n 0 i
  pub first : bit worth 1 ≡ true → ((i : ℕ) → i < 64 * n → set_at before n 1 i ≡ false)
      → (i : ℕ) → i < 64 * n → set_at after n 1 i ≡ spread_by w r n low_first (set_at before n 0) i
  pub second : bit worth 2 ≡ true → ((i : ℕ) → i < 64 * n → set_at before n 2 i ≡ false)
      → (i : ℕ) → i < 64 * n → set_at after n 2 i ≡ spread_by w2 r2 n low_second (set_at before n 0) i
  pub both : bit worth 3 ≡ true → ((i : ℕ) → i < 64 * n → set_at before n 3 i ≡ false)
      → (i : ℕ) → i < 64 * n → set_at after n 3 i ≡ spread_by w r n low_first (spread_by w2 r2 n low_second (set_at before n 0)) i
