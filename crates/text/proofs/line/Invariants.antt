use Rattle.std.proofs.Common.{◌+◌, ◌*◌, ◌≤◌, take, length}
use Rattle.text.specs.Put.{Wrote, numbered}
use Rattle.text.proofs.line.Given as goal

abbrev pub invariant-loop-n : goal.invariant-loop-n
invariant-loop-n l =
    Wrote (numbered l.fn.word (take l.n-index l.numbers)) l.fn.at l.fn.text l.text l.next × (l.next ≤ l.fn.at + length l.fn.word + 21 * l.n-index)
