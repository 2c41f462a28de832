use Rattle.memo.proofs.Entries.{part_held}
use Rattle.memo.proofs.entry.holds.Goals as goal

pub returns : goal.returns
returns c = part_held _ _ _ c.eq.result c.eq.ensures
