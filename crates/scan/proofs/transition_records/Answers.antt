use Rattle.std.proofs.Common.{arith, ◌∙◌}
use native.Mathlib.Nat.{add_assoc}
use Rattle.model.specs.Table.{transitions_at}
use Rattle.scan.proofs.Scans.{transitions_turn}
use Rattle.scan.proofs.transition_records.Goals as goal

pub loop-i-preserved : goal.loop-i-preserved
loop-i-preserved c = (
  omega arith,
  c.loop-i.invariant.1 ∙ transitions_turn c.args.b.now (transitions_at c.args.b.now) c.loop-i._i c.loop-i.at (omega arith) ∙ rw (← c.in_ok-transition_record.ensures, ← c.byte.ensures.0, add_assoc),
)
