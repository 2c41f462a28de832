use Rattle.std.proofs.Common.{◌≡◌, ◌+◌, ◌*◌, ◌%◌, ◌++◌, drop}
use Rattle.model.specs.Bytes.{tab}
use Rattle.batch.specs.Batch.{pattern_at}
use Rattle.batch.proofs.pattern.Given as goal

-- the bytes so far are the pattern's, and the others are as they were
abbrev pub invariant-loop-byte : goal.invariant-loop-byte
invariant-loop-byte l =
    (l.next ≡ (7 * l.byte-index + 1) % 256)
    × (l.bytes ≡ tab pattern_at l.byte-index ++ drop l.byte-index l.initial.bytes)
