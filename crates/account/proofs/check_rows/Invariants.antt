use Rattle.account.specs.Standing.{judged, Bounded}
use Rattle.account.proofs.Pass.{Ahead}
use Rattle.account.proofs.check_rows.Given as goal

abbrev pub invariant-loop-i : goal.invariant-loop-i
invariant-loop-i l = Bounded l.s × Ahead l.edition (judged l.against) l.recording l.witness l.s l.changed l.i
