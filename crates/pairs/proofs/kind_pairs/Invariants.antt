-- the answers of the transitions before j are counted
use Rattle.std.proofs.Common.{Some}
use Rattle.pairs.specs.Pairing.{answers_as, Tallied}
use Rattle.pairs.proofs.kind_pairs.Given as goal

abbrev pub invariant-loop-j : goal.invariant-loop-j
invariant-loop-j l = Tallied (answers_as l.table l.offsets (Some l.kind) l.s) l.j l.found
