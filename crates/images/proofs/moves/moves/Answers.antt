use Rattle.images.specs.Moved.{moved}
use Rattle.images.proofs.SetLaws.{filled_two}
use Rattle.images.proofs.moves.moves.Goals as goal

pub returns : goal.returns
unfolding moved
returns c = filled_two _ _ _ _ _ _ c.clear.ensures (c.rest.ensures c.args.offsets.now) c.fire.ensures
