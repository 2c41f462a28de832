use Rattle.std.proofs.Common.{rules, arith, ◌∙◌}
use Rattle.bits.proofs.LittleEndian.{read_all}
use Rattle.bits.proofs.little_endian.Goals as goal

pub returns : goal.returns
returns c = search rules ∙ read_all c.args.b.now (λ i. omega (arith, c.type_inv.b i)) c.requires
