use Rattle.engine.proofs.ValidateLaws.{validates}
use Rattle.engine.proofs.validate.Goals as goal

pub returns : goal.returns
returns c =
    let a = c.args in
    validates a.edition a.table.now a.recording.now a.budget a.scratch.now a.room.now _ _ _ (rw c.no_rule.ensures at c.judged.ensures)
