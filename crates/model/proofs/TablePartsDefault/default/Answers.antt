use Rattle.std.proofs.Common.{refl}
use Rattle.model.specs.Table.{no_table}
use Rattle.model.proofs.TablePartsDefault.default.Goals as goal

pub returns : goal.returns
unfolding no_table
returns c = refl
