use mathlib.Core.List.{List}
use Prim.Native.Nat.{ℕ}
use Rattle.words.specs.Words.{Joined}
use Rattle.monitor.specs.From.{transition_from}
use Rattle.situation.specs.Ruled.{ruled_from}
use Rattle.firings.specs.Fired.{fired_by}
use Rattle.firings.proofs.fire_windows.Given as goal

abbrev pub invariant-loop-w : goal.invariant-loop-w
invariant-loop-w l =
    let p = l.r.plan in
    let table = l.r.table.now in
    (offsets : List ℕ)
    → Joined (fired_by p (ruled_from p.shape table offsets) l.r.src.now l.r.planes.now l.guess (transition_from table l.at) l.guard l.w) l.initial.dst l.dst
