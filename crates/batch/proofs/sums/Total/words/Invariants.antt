use Rattle.std.proofs.Common.{◌≡◌, drop}
use Rattle.batch.specs.Batch.{sum_from}
use Rattle.batch.specs.Parts.{words_bytes}
use Rattle.batch.proofs.sums.Total.words.Given as goal

abbrev pub invariant-loop-w : goal.invariant-loop-w
invariant-loop-w l = sum_from l.total.value (words_bytes (drop l.w-index l.words)) ≡ sum_from l.fn.self.value (words_bytes l.words)
