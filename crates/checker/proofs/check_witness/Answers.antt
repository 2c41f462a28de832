use Rattle.checker.proofs.Answers.{checks}
use Rattle.checker.proofs.check_witness.Goals as goal

pub returns : goal.returns
returns c = checks _ _ _ _ _ _ c.no_rule.ensures c.checked.ensures
