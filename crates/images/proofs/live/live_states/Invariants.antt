use Prim.Native.Nat.{ℕ}
use mathlib.Core.Path.{◌≡◌}
use mathlib.Core.Bool.{◌&&◌}
use lib.Dec.{ltb}
use Rattle.words.specs.Words.{bit}
use Rattle.images.specs.Living.{is_live}
use Rattle.images.proofs.live.live_states.Given as goal

abbrev pub invariant-loop-state : goal.invariant-loop-state
invariant-loop-state l = (q : ℕ) → bit l.live q ≡ (ltb q l.state && is_live l.h l.s q)
