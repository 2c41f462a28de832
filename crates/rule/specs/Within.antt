-- A rule with any numbers, as the code goes by it: a window that is not 1 to 8 rows long counts as one row. A rule that 25 lets through stays as it is.
use Rattle.std.specs.Prelude.{ℕ, Bool, cond, ◌&&◌, leb}
use Rattle.model.specs.Limits.{device_limit, window_limit}
use Rattle.model.specs.declared.Rule.{Rule}

unfoldable pub rows_in : ℕ → ℕ
rows_in window = cond (leb 1 window && leb window window_limit) window 1

abbrev pub within : Rule → Rule
within rule = record { device = rule.device; window = rows_in rule.window; most = rule.most }

-- 25 lets it through
unfoldable pub in_range : Rule → Bool
in_range rule = leb rule.device device_limit && leb 1 rule.window && leb rule.window window_limit && leb rule.most rule.window
