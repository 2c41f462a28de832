-- `forward::fill` meets its contract. The invariant: lengths and bounds; and, for a sound table and recording, what is known after t instants, and the set of instant t in words.
use Prim.Native.Nat.{◌-◌, ◌*◌, ◌≤◌}
use native.Mathlib.Omega.{arith}
use mathlib.Core.Path.{refl, sym, subst, ◌∙◌}
use borrow.Author.Rules.{rules}
use Rattle.images.specs.Buffers.{Kept}
use Rattle.measures.specs.Setting.{monitor_by, Setting}
use Rattle.measures.specs.Working.{Working}
use Rattle.forward.specs.Forwarding.{Filled, Carrying, Ended}
use Rattle.measures.proofs.Roominess.{roomy-kept}
use Rattle.forward.proofs.ForwardPass.{Passing, started, through, turn, spent, emptying, emptied, again}
use Rattle.forward.proofs.fill.Statement.{statement}
use Rattle.forward.proofs.fill.Tie as tie

abbrev invariant-loop : tie.invariant-loop-t
invariant-loop table offsets recording g marks planes budget scratch₀ cur₀ sets₀ one₀ two₀ memo₀ cost₀ work₀ i₀ t₀ scratch cur sets one two memo cost work i t =
    Kept scratch₀ scratch × Kept cur₀ cur × Kept sets₀ sets × Kept one₀ one × Kept two₀ two × Kept memo₀ memo × (cost ≤ 65536 * t) × (work ≤ 65536)
    × (Setting table offsets recording g
    → Filled (monitor_by g table) recording scratch₀ g.row 0 0
    → Working table offsets g marks planes
    → Carrying (monitor_by g table) recording g.words 0 cur₀ sets₀ one₀ two₀ memo₀
    → Passing (monitor_by g table) recording scratch budget g.row g.last t i cost work
    × Carrying (monitor_by g table) recording g.words t cur sets one two memo)

abbrev decreases-loop : tie.decreases-loop-t
decreases-loop table offsets recording g marks planes budget scratch₀ cur₀ sets₀ one₀ two₀ memo₀ cost₀ work₀ i₀ t₀ scratch cur sets one two memo cost work i t = g.last - t

-- the places before a place

abbrev entry : tie.At-loop-t invariant-loop decreases-loop → tie.Start invariant-loop decreases-loop
entry c = c.before.before.before.before.before.before.before.before.before.before.before.before

abbrev within : tie.After-instant-work invariant-loop decreases-loop → tie.Else-budget-cost invariant-loop decreases-loop
within c = c.before.before.before.before.before.before.before

abbrev turned : tie.After-slice_known-in-loop-t-6-1 invariant-loop decreases-loop → tie.After-instant-work invariant-loop decreases-loop
turned c = c.before.before.before.before.before.before.before.before.before.before.before.before

loop-holds : tie.Need-loop-t-init invariant-loop decreases-loop
loop-holds c = (refl, refl, refl, refl, refl, refl, omega arith, omega arith, λ setting filled working carry. (started setting _ filled, carry))

add-next : tie.Need-overflow_add-next invariant-loop decreases-loop
add-next c = search rules

add-cost : tie.Need-overflow_add-cost invariant-loop decreases-loop
add-cost c =
    let at-loop = c.before.before in
    record { fits = omega (arith, at-loop.loop-t.invariant.6, at-loop.loop-t.invariant.7, (entry at-loop).requires.early, c.loop-t-test.true) }

same_length : tie.Need-shape_of-scratch-then-budget-cost invariant-loop decreases-loop
same_length c = search rules

same-length-2 : tie.Need-shape_of-cur-then-budget-cost invariant-loop decreases-loop
same-length-2 c = search rules

same-length-3 : tie.Need-shape_of-sets-then-budget-cost invariant-loop decreases-loop
same-length-3 c = search rules

same-length-4 : tie.Need-shape_of-one-then-budget-cost invariant-loop decreases-loop
same-length-4 c = search rules

same-length-5 : tie.Need-shape_of-two-then-budget-cost invariant-loop decreases-loop
same-length-5 c = search rules

same-length-6 : tie.Need-shape_of-memo-then-budget-cost invariant-loop decreases-loop
same-length-6 c = search rules

returns : tie.Need-returns-then-budget-cost invariant-loop decreases-loop
returns c =
    let at-loop = c.before.before.before in
    let inv = at-loop.loop-t.invariant in
    (inv.0, inv.1, inv.2, inv.3, inv.4, inv.5, λ setting filled working carry. spent setting (inv.8 setting filled working carry).0 c.before.loop-t-test.true c.if-budget-cost.true)

instant-requires : tie.Need-instant-work-requires invariant-loop decreases-loop
instant-requires c κs =
    let inside = c.before.before.before.before.before.before.before in
    (roomy-kept (entry inside.before.before).requires inside.before.before.loop-t.invariant.0, inside.loop-t-test.true)

emptied-requires : tie.Need-emptied-requires invariant-loop decreases-loop
emptied-requires c κs =
    let inside = (within (turned c.before)).before in
    let roomy = (entry inside.before.before).requires in
    (roomy.narrow, omega (arith, roomy.early, inside.loop-t-test.true))

same-length-7 : tie.Need-shape_of-scratch-then-work-eq0 invariant-loop decreases-loop
same-length-7 c =
    let done = turned c.before.before in
    omega (arith, done.instant-work.ensures.0, (within done).before.before.before.loop-t.invariant.0)

same-length-8 : tie.Need-shape_of-cur-then-work-eq0 invariant-loop decreases-loop
same-length-8 c =
    let done = turned c.before.before in
    omega (arith, done.instant-work.ensures.1, (within done).before.before.before.loop-t.invariant.1)

same-length-9 : tie.Need-shape_of-sets-then-work-eq0 invariant-loop decreases-loop
same-length-9 c =
    let done = turned c.before.before in
    omega (arith, done.instant-work.ensures.2, (within done).before.before.before.loop-t.invariant.2)

same-length-10 : tie.Need-shape_of-one-then-work-eq0 invariant-loop decreases-loop
same-length-10 c =
    let done = turned c.before.before in
    omega (arith, done.instant-work.ensures.3, (within done).before.before.before.loop-t.invariant.3)

same-length-11 : tie.Need-shape_of-two-then-work-eq0 invariant-loop decreases-loop
same-length-11 c =
    let done = turned c.before.before in
    omega (arith, done.instant-work.ensures.4, (within done).before.before.before.loop-t.invariant.4)

same-length-12 : tie.Need-shape_of-memo-then-work-eq0 invariant-loop decreases-loop
same-length-12 c =
    let done = turned c.before.before in
    omega (arith, done.instant-work.ensures.5, (within done).before.before.before.loop-t.invariant.5)

returns-2 : tie.Need-returns-then-work-eq0 invariant-loop decreases-loop
returns-2 c =
    let after = turned c.before.before in
    let left = within after in
    let more = left.before.loop-t-test.true in
    let at-loop = left.before.before.before in
    let inv = at-loop.loop-t.invariant in
    let done = after.instant-work.ensures in (
      done.0 ∙ inv.0,
      done.1 ∙ inv.1,
      done.2 ∙ inv.2,
      done.3 ∙ inv.3,
      done.4 ∙ inv.4,
      done.5 ∙ inv.5,
      λ setting filled working carry.
          let (pass, carried) = inv.8 setting filled working carry in
          let (next, _) = done.7 (turn setting pass more (roomy-kept (entry at-loop).requires inv.0).long) working carried in
          subst (Ended _ _ _ _ _ _) (sym (c.emptied.ensures (emptying setting pass more (omega (arith, left.if-budget-cost.false)) next)))
          (emptied setting pass more (omega (arith, left.if-budget-cost.false)) next c.before.if-work-eq0.true),
    )

passed-requires : tie.Need-passed-i-requires invariant-loop decreases-loop
passed-requires c κs = search rules

add-t : tie.Need-overflow_add-t invariant-loop decreases-loop
add-t c =
    let inside = (within (turned c.before.before)).before in
    omega (arith, inside.loop-t-test.true, (entry inside.before.before).requires.early)

loop-less : tie.Need-loop-t-smaller invariant-loop decreases-loop
loop-less c = search rules

loop-again : tie.Need-loop-t-preserved invariant-loop decreases-loop
loop-again c =
    let after = turned c.before.before in
    let left = within after in
    let more = left.before.loop-t-test.true in
    let at-loop = left.before.before.before in
    let inv = at-loop.loop-t.invariant in
    let done = after.instant-work.ensures in (
      done.0 ∙ inv.0,
      done.1 ∙ inv.1,
      done.2 ∙ inv.2,
      done.3 ∙ inv.3,
      done.4 ∙ inv.4,
      done.5 ∙ inv.5,
      omega (arith, inv.6, inv.7),
      done.6,
      λ setting filled working carry.
          let (pass, carried) = inv.8 setting filled working carry in
          let (next, carrying) = done.7 (turn setting pass more (roomy-kept (entry at-loop).requires inv.0).long) working carried in
          (again setting pass more (omega (arith, left.if-budget-cost.false)) next c.passed-i.ensures c.before.if-work-eq0.false, carrying),
    )

same-length-13 : tie.Need-shape_of-scratch invariant-loop decreases-loop
same-length-13 c = search rules

same-length-14 : tie.Need-shape_of-cur invariant-loop decreases-loop
same-length-14 c = search rules

same-length-15 : tie.Need-shape_of-sets invariant-loop decreases-loop
same-length-15 c = search rules

same-length-16 : tie.Need-shape_of-one invariant-loop decreases-loop
same-length-16 c = search rules

same-length-17 : tie.Need-shape_of-two invariant-loop decreases-loop
same-length-17 c = search rules

same-length-18 : tie.Need-shape_of-memo invariant-loop decreases-loop
same-length-18 c = search rules

returns-3 : tie.Need-returns invariant-loop decreases-loop
returns-3 c =
    let inv = c.before.before.loop-t.invariant in
    (inv.0, inv.1, inv.2, inv.3, inv.4, inv.5, λ setting filled working carry. through setting (inv.8 setting filled working carry).0 (omega (arith, c.loop-t-test.false)))

pub fill_spec : {M : Type 1} → statement M
fill_spec =
    tie.close
    (tie.spec
    invariant-loop
    decreases-loop
    loop-holds
    add-next
    add-cost
    same_length
    same-length-2
    same-length-3
    same-length-4
    same-length-5
    same-length-6
    returns
    instant-requires
    emptied-requires
    same-length-7
    same-length-8
    same-length-9
    same-length-10
    same-length-11
    same-length-12
    returns-2
    passed-requires
    add-t
    loop-less
    loop-again
    same-length-13
    same-length-14
    same-length-15
    same-length-16
    same-length-17
    same-length-18
    returns-3)
