use Rattle.text.proofs.Stores.{wrote-more}
use Rattle.text.proofs.number.Goals as goal

pub returns : goal.returns
returns c = wrote-more c.emit-next.ensures c.decimal.ensures
