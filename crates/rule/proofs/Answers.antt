-- 25 and then 26, by the code's two tests. Assumes nothing.
use Prim.Native.Nat.{ℕ, ◌*◌}
use mathlib.Core.Path.{◌≡◌}
use mathlib.Core.Bool.{true, false}
use lib.Dec.{leb}
use Rattle.std.proofs.lemmas.Bool.Decides.{nat_tests}
use native.Mathlib.Omega.{arith}
use Rattle.model.specs.First.{unless}
use Rattle.model.specs.Limits.{size_limit}
use Rattle.model.specs.Monitor.{Monitor}
use Rattle.model.specs.Rule.{masks}
use Rattle.model.specs.Ruled.{rule_answer}
use Rattle.model.specs.Size.{table_size, size}
use Rattle.std.specs.Prelude.{Err}
use Rattle.model.specs.declared.Refusal.TheVariants.{RuleRange, RuleSize}
use Rattle.model.specs.declared.Rule.{Rule}
use Rattle.rule.specs.Within.{within, in_range}
use Rattle.rule.proofs.Laws.{within-sound}

range_stays : (rule : Rule) → in_range rule ≡ true → within rule ≡ rule
unfolding in_range
range_stays rule e = grind (arith, nat_tests, within-sound)

-- the rule and the table's own N, as the code has them
module _ (m : Monitor) (rule : Rule) (n : ℕ) (same : m.rule ≡ rule) (table : table_size m ≡ n) where
  pub refused : in_range rule ≡ false → Err RuleRange ≡ rule_answer m
  unfolding rule_answer in_range
  refused e = grind (arith, nat_tests)

  pub sized : in_range rule ≡ true → unless (leb (n * masks (within rule)) size_limit) RuleSize ≡ rule_answer m
  unfolding rule_answer in_range size
  sized e = grind (arith, nat_tests, range_stays)
