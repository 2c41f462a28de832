use Rattle.std.proofs.Common.{refl}
use Rattle.words.proofs.Sets.{pair_bits}
use Rattle.ranges.proofs.pair.Goals as goal

pub returns : goal.returns
returns c = pair_bits c.args.a.now c.args.k c.args.r _ _ c.requires.1 refl refl (c.type_inv.a c.args.k).fits
