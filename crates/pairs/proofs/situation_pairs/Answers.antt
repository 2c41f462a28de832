use Rattle.pairs.proofs.PairCounts.{no_answers, says_nothing, says_taken}
use Rattle.pairs.proofs.situation_pairs.Goals as goal
use Rattle.pairs.proofs.situation_pairs.Goals.{in_default-via-in-Some+else-s-eq0, in_default-via-in_default}

pub returns-in_default : goal.returns-in_default
returns-in_default c =
    let a = c.args in
    no_answers
    (elim c.in_default.branch [
      | in_default-via-in-Some+else-s-eq0 w ↦ says_taken a.table.now a.offsets.now a.s a.heard w.if-s-eq0.false
      | in_default-via-in_default w ↦ says_nothing a.table.now a.offsets.now a.s a.heard w.in_default.is
    ])
    c.default.ensures
