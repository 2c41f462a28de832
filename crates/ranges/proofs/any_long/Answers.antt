use Rattle.std.proofs.Common.{◌+◌, ◌-◌, ◌*◌, ◌/◌, ◌%◌, arith}
use Rattle.words.proofs.AnyBelow.{any_three}
use Rattle.ranges.proofs.any_long.Goals as goal
use Rattle.ranges.proofs.any_long.Goals.{then-any_rest, else-any_rest}

pub returns-then-any_words : goal.returns-then-any_words
returns-then-any_words c =
    let a = c.args in
    let h = (64 - a.s % 64) % 64 in
    let n = (a.len - h) / 64 in
    let parts = any_three a.a.now a.s h (64 * n) ((a.len - h) % 64) a.len (64 * ((a.s + h) / 64)) (a.s + h + 64 * n) (omega arith) (omega arith) (omega arith) in
    elim c.if-any_rest.branch [ then-any_rest w ↦ grind (arith, parts) | else-any_rest w ↦ grind (arith, parts) ]

pub returns-else-any_words : goal.returns-else-any_words
returns-else-any_words c =
    let a = c.args in
    let h = (64 - a.s % 64) % 64 in
    let n = (a.len - h) / 64 in
    let parts = any_three a.a.now a.s h (64 * n) ((a.len - h) % 64) a.len (64 * ((a.s + h) / 64)) (a.s + h + 64 * n) (omega arith) (omega arith) (omega arith) in
    elim c.if-any_rest.branch [ then-any_rest w ↦ grind (arith, parts) | else-any_rest w ↦ grind (arith, parts) ]
