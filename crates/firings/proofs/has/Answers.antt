use native.Mathlib.Omega.{arith}
use mathlib.Core.Path.{refl, sym, ◌∙◌}
use borrow.Author.Tests.{le-ltb}
use Rattle.words.specs.Words.{bit}
use Rattle.words.proofs.Bit.{bit_past}
use Rattle.firings.proofs.has.Goals as goal

pub returns-then-r-lt64 : goal.returns-then-r-lt64
unfolding bit
returns-then-r-lt64 c = refl

pub returns-else-r-lt64 : goal.returns-else-r-lt64
returns-else-r-lt64 c = le-ltb c.args.r 64 c.if-r-lt64.false ∙ sym (bit_past 64 c.args.mask c.args.r (omega arith) c.if-r-lt64.false)
