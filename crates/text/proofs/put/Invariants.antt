use Rattle.std.proofs.Common.{◌≡◌, ◌+◌, take}
use Rattle.text.specs.Put.{Wrote}
use Rattle.text.proofs.put.Given as goal

abbrev pub invariant-loop-b : goal.invariant-loop-b
invariant-loop-b l = Wrote (take l.b-index l.bytes) l.fn.at l.fn.text l.text l.next × (l.next ≡ l.fn.at + l.b-index)
