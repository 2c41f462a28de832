-- What callers cite: a window of 1 to 8 rows stays as it is and any other counts as one row; the masks are 1 to 128. Assumes nothing.
use Prim.Native.Nat.{ℕ, ◌-◌, ◌≤◌, ◌<◌}
use native.Mathlib.Omega.{arith}
use mathlib.Core.Path.{◌≡◌, ap}
use Rattle.std.proofs.lemmas.Bool.Decides.{nat_tests}
use lib.Pow.{pow_pos, pow_mono}
use Rattle.model.specs.Limits.{window_limit}
use Rattle.model.specs.Rule.{masks}
use Rattle.model.specs.declared.Rule.{Rule}
use Rattle.rule.specs.Within.{rows_in, within}

pub rows_same : (window : ℕ) → 1 ≤ window → window ≤ window_limit → rows_in window ≡ window
unfolding rows_in
rows_same window some few = grind (arith, nat_tests)

pub rows_one : (window : ℕ) → window ≤ 1 → rows_in window ≡ 1
unfolding rows_in
rows_one window one = grind (arith, nat_tests)

pub rows-many : (window : ℕ) → window_limit < window → rows_in window ≡ 1
unfolding rows_in
rows-many window many = grind (arith, nat_tests)

pub within-sound : (rule : Rule) → 1 ≤ rule.window → rule.window ≤ 8 → within rule ≡ rule
within-sound rule some few =
    ap (λ (n : ℕ). record { device = rule.device; window = n; most = rule.most }) (rows_same rule.window some few)

pub within_bounds : (rule : Rule) → (1 ≤ (within rule).window) × ((within rule).window ≤ window_limit)
unfolding rows_in
within_bounds rule = grind (arith, nat_tests)

pub masks_bounds : (rule : Rule) → (masks (within rule) ≤ 128) × (0 < masks (within rule))
masks_bounds rule =
    let bounds = within_bounds rule in
    (pow_mono {i = (within rule).window - 1} {j = 7} (omega (arith, bounds.0, bounds.1)), pow_pos ((within rule).window - 1))
