-- the pairs of the situations before n are counted
use Rattle.monitor.specs.From.{transition_count}
use Rattle.pairs.specs.Pairing.{answers_in_row}
use Rattle.pairs.proofs.PairCounts.{Counting}
use Rattle.pairs.proofs.count_pairs.Given as goal

abbrev pub invariant-loop-n : goal.invariant-loop-n
invariant-loop-n l = Counting (answers_in_row l.table l.offsets l.h l.heard l.scratch l.from.start) l.n (transition_count l.table) l.found
