use Rattle.std.proofs.Common.{refl}
use Rattle.model.specs.Recording.{no_recording}
use Rattle.model.proofs.RecordingPartsDefault.default.Goals as goal

pub returns : goal.returns
unfolding no_recording
returns c = refl
