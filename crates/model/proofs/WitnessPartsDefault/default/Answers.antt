use Rattle.std.proofs.Common.{refl}
use Rattle.model.specs.Witness.{no_witness}
use Rattle.model.proofs.WitnessPartsDefault.default.Goals as goal

pub returns : goal.returns
unfolding no_witness
returns c = refl
