use Rattle.std.proofs.Common.{arith, sym, ◌∙◌}
use Rattle.model.proofs.Missing.{all_found, one_missing}
use Rattle.reach.proofs.first_absent.Goals as goal

pub returns-then-not-test : goal.returns-then-not-test
returns-then-not-test c = sym (one_missing _ _ _ (omega arith) c.loop-s.invariant (sym c.test.ensures ∙ c.if-not-test.true))

pub returns : goal.returns
returns c = sym (all_found _ _ (λ r l. c.loop-s.invariant r (omega arith)))
