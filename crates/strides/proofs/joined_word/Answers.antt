use Rattle.std.proofs.Common.{◌+◌, ◌*◌}
use Rattle.words.specs.Words.{mem}
use Rattle.shifts.specs.Shifted.{moved}
use Rattle.strides.proofs.Moves.{or_bits, own_bits}
use Rattle.strides.proofs.joined_word.Goals as goal

pub returns : goal.returns
returns g c =
    let a = c.args.a.now in
    or_bits 64 (λ j. mem a (64 * c.args.w + j)) (λ j. moved g.W.Way.moves c.args.k (mem a) (64 * c.args.w + j)) _ _ (own_bits a c.args.w _ c.read.ensures.0 c.read.ensures.1) c.moved_word.ensures
