use Rattle.measures.proofs.Grounds.{preparing}
use borrow.Author.Rules.{rules}
use Rattle.engine.proofs.judge.judge.Statement.{statement}
use Rattle.engine.proofs.judge.judge.Tie as tie

-- src/judge.rt:312:9
judge-small-requires : tie.Need-judge_small-requires
judge-small-requires c κs = search rules

-- src/judge.rt:312:9
same_length : tie.Need-shape_of-scratch-then-g-le16
same_length c = search rules

-- src/judge.rt:312:9
same-length-2 : tie.Need-shape_of-room-then-g-le16
same-length-2 c = search rules

-- src/judge.rt:312:9
returns : tie.Need-returns-then-g-le16
returns c = search rules

-- src/judge.rt:314:5
judge-wide-requires : tie.Need-judge_wide-requires
judge-wide-requires c κs =
    let pre = c.before.before.before.before.before.before.before.before.requires in
    (pre, (preparing _ _ _ pre.sound pre.measured).few)

-- src/judge.rt:299:1
same-length-3 : tie.Need-shape_of-scratch
same-length-3 c = search rules

-- src/judge.rt:299:1
same-length-4 : tie.Need-shape_of-room
same-length-4 c = search rules

-- src/judge.rt:299:1
returns-2 : tie.Need-returns
returns-2 c = search rules

pub judge_spec : {M : Type 1} → statement M
judge_spec =
    tie.close
    (tie.spec
    judge-small-requires
    same_length
    same-length-2
    returns
    judge-wide-requires
    same-length-3
    same-length-4
    returns-2)
