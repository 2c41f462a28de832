use Rattle.std.proofs.Common.{ℕ, ◌+◌, ◌-◌, ◌*◌, ◌%◌, ◌<◌, ◌≡◌, ◌&&◌, length, ltb}
use Rattle.words.specs.Words.{mem, Is}
use Rattle.strides.proofs.repeat.Given as goal

abbrev pub invariant-loop-e : goal.invariant-loop-e
invariant-loop-e l =
    (0 < l.e) × ((x : ℕ) → (l.e + x) % l.period ≡ x % l.period) × Is (λ i. ltb i l.e && mem l.initial.a (i % l.period)) l.initial.a l.a

abbrev pub decreases-loop-e : goal.decreases-loop-e
decreases-loop-e l = 64 * length l.initial.a - l.e
