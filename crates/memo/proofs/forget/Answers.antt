use Rattle.memo.proofs.Entries.{known_none}
use Rattle.memo.proofs.forget.Goals as goal

pub returns : goal.returns
returns c = (c.fill.ensures.len, λ m n. known_none m n _ c.fill.new.self (c.fill.ensures.after (λ y e. e)))
