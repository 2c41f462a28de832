use Rattle.std.proofs.Common.{arith, ◌≡◌, Some, ◌-◌}
use Rattle.std.proofs.lemmas.Grind.{common_steps}
use Rattle.model.specs.Monitor.{fires, wait, within_rule}
use Rattle.model.specs.Rules.{sends}
use Rattle.monitor.specs.From.{monitor_from}
use Rattle.account.proofs.Steps.{fires_under, sent_bounded}
use Rattle.account.proofs.sent.Goals as goal

pub returns : goal.returns
unfolding sends within_rule
returns c = λ recording.
    let a = c.args in
    let fired : fires (monitor_from a.a.now.table.now a.a.now.offsets.now) a.e.transition a.e.kind (wait (a.e.time - a.s.now) a.s.config) ≡ Some c.in_ok-config.config = grind arith in
    record {
      is = grind (arith, common_steps, fires_under);
      bounded = sent_bounded _ _ _ _ _ _ _ c.requires fired;
    }
