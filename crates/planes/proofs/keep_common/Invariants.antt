-- The words below k are what the two sets have in common, and those from there on are as they were.
use Rattle.std.proofs.Common.{◌+◌, ◌*◌, ◌&&◌}
use Rattle.words.specs.Words.{mem}
use Rattle.planes.proofs.Edits.{Changed}
use Rattle.planes.proofs.keep_common.Given as goal

abbrev pub invariant-loop-k : goal.invariant-loop-k
invariant-loop-k l = Changed (λ i. mem l.initial.stack i && mem l.initial.stack (64 * l.n + i)) l.initial.stack l.k l.stack
