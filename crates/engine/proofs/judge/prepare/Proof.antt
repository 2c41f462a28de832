use native.Mathlib.Omega.{arith}
use mathlib.Core.Path.{◌∙◌}
use Rattle.measures.proofs.Rows.{product}
use Rattle.engine.proofs.Preparations.{numbers-few, words-few, working}
use borrow.Author.Rules.{rules}
use Rattle.engine.proofs.judge.prepare.Statement.{statement}
use Rattle.engine.proofs.judge.prepare.Tie as tie

-- src/judge.rt:155:5
mark-clocks-requires : tie.Need-mark_clocks-requires
mark-clocks-requires c κs = search rules

-- src/judge.rt:156:19
cast-numbers : tie.Need-overflow_cast-numbers
cast-numbers c = search rules

-- src/judge.rt:156:38
cast-numbers-2 : tie.Need-overflow_cast-numbers-2
cast-numbers-2 c = search rules

-- src/judge.rt:156:19
mul-numbers : tie.Need-overflow_mul-numbers
mul-numbers c = let p = c.before.before.before.before.before.before.before.before.before.before.before.before.before.before.before.before.before.before.before.requires.0.clocks in product _ _ (omega (arith, p.most)) (omega (arith, p.most₁))

-- src/judge.rt:156:58
cast-numbers-3 : tie.Need-overflow_cast-numbers-3
cast-numbers-3 c = search rules

-- src/judge.rt:156:19
mul-numbers-2 : tie.Need-overflow_mul-numbers-2
mul-numbers-2 c = record { fits = omega (arith, numbers-few c.before.before.before.before.before.before.before.before.before.before.before.before.before.before.before.before.before.before.before.before.requires.0) }

-- src/judge.rt:157:14
add-n : tie.Need-overflow_add-n
add-n c = omega (arith, numbers-few c.before.before.before.before.before.before.before.before.before.before.before.before.before.before.before.before.before.before.before.before.requires.0)

-- src/judge.rt:161:9
cast-guards : tie.Need-overflow_cast-h
cast-guards c = search rules

-- src/judge.rt:162:9
cast-guards-2 : tie.Need-overflow_cast-h-2
cast-guards-2 c = search rules

-- src/judge.rt:163:9
cast-guards-3 : tie.Need-overflow_cast-n
cast-guards-3 c = record { fits = omega (arith, numbers-few c.before.before.before.before.before.before.before.before.before.before.before.before.before.before.before.before.before.before.before.before.before.before.requires.0) }

-- src/judge.rt:158:5
guards-requires : tie.Need-guards-requires
guards-requires c κs = search rules

-- src/judge.rt:142:1
same_length : tie.Need-shape_of-marks
same_length c = search rules

-- src/judge.rt:142:1
same-length-2 : tie.Need-shape_of-planes
same-length-2 c = search rules

-- src/judge.rt:142:1
same-length-3 : tie.Need-shape_of-one
same-length-3 c = search rules

-- src/judge.rt:142:1
same-length-4 : tie.Need-shape_of-two
same-length-4 c = search rules

-- src/judge.rt:142:1
returns : tie.Need-returns
returns c =
    let made = c.before.before.before.before in
    let marked = made.before.before.before.before.before.before.before.before.before.before.before.before.before.before in
    let (p, sized, long) = marked.before.before.before.before.before.before.before.before.before.before.before.requires in
    let single = marked.mark_clocks.ensures.1 ∙ sized.first in (
      working p _ _ _ long (marked.mark_clocks.ensures.0 ∙ sized.four) (marked.mark_clocks.ensures.3 _ _ p.ready.fits sized)
          (made.guards.ensures.2 p.clocks (omega (arith, words-few p, p.few)) (omega (arith, words-few p, single))),
      made.guards.ensures.1 ∙ marked.mark_clocks.ensures.1,
      marked.mark_clocks.ensures.2,
    )

pub prepare_spec : {M : Type 1} → statement M
prepare_spec =
    tie.close
    (tie.spec
    mark-clocks-requires
    cast-numbers
    cast-numbers-2
    mul-numbers
    cast-numbers-3
    mul-numbers-2
    add-n
    cast-guards
    cast-guards-2
    cast-guards-3
    guards-requires
    same_length
    same-length-2
    same-length-3
    same-length-4
    returns)
