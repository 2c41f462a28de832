use Rattle.std.proofs.Common.{arith}
use Rattle.model.specs.Table.{transition_at}
use Rattle.model.proofs.KindForm.{kind-most}
use Rattle.kinds.proofs.transitions_at.Goals as goal

pub returns : goal.returns
unfolding transition_at
returns c = grind (arith, kind-most)
