use Prim.Native.Nat.{ℕ, ◌+◌, ◌*◌, ◌≤◌}
use mathlib.Core.Path.{sym, ap, subst, ◌∙◌}
use mathlib.Core.List.{List}
use lib.ListN.{length, replicate, length-replicate}
use Rattle.measures.specs.Working.{Preparing}
use Rattle.measures.proofs.Grounds.{preparing}
use Rattle.engine.proofs.JudgeLaws.{settled}
use borrow.Author.Rules.{rules}
use Rattle.engine.proofs.judge.judge_in.Statement.{statement}
use Rattle.engine.proofs.judge.judge_in.Tie as tie

-- src/judge.rt:190:17
offsets-requires : tie.Need-offsets-found-requires
offsets-requires c κs = search rules

-- src/judge.rt:191:20
slice-aggregate-prepare : tie.Need-slice_bounds-prepare-end
slice-aggregate-prepare c = search rules

-- src/judge.rt:191:5
prepare-requires : tie.Need-prepare-requires
prepare-requires c κs =
    let found = c.before.before.before.before.before in
    let start = found.before.before.before.before.before.before.before.before.before.before.before.before.before in
    let (judging, rooms) = start.requires in
    (subst (λ (l : List ℕ). Preparing start.args.table.now l start.args.g) (sym found.offsets-found.ensures) (preparing _ _ _ judging.sound judging.measured), rooms.marked, rooms.guards)

-- src/judge.rt:192:5
clear-requires : tie.Need-clear-requires
clear-requires c κs = search rules

-- src/judge.rt:196:9
slice-aggregate-pass : tie.Need-slice_bounds-pass-end
slice-aggregate-pass c = search rules

-- src/judge.rt:193:9
pass-requires : tie.Need-pass-verdict-requires
pass-requires c κs =
    let cleared = c.before.before.before.before.before.before.before.before.before.before.before in
    let prepared = cleared.before.before.before.before.before.before.before.before.before.before in
    let found = prepared.before.before.before.before.before.before in
    let start = found.before.before.before.before.before.before.before.before.before.before.before.before.before in
    let (judging, rooms) = start.requires in
    let zero = cleared.clear.ensures in
    let long = ap length zero ∙ length-replicate {A = ℕ} _ 0 in (
      record {
        sound = judging.sound;
        measured = judging.measured;
        long = subst (λ (n : ℕ). start.args.g.row * (start.args.g.last + 1) ≤ n) (sym long) judging.long;
        roomy = judging.roomy;
      },
      found.offsets-found.ensures,
      zero ∙ ap (λ (n : ℕ). replicate n 0) (sym long),
      prepared.prepare.ensures.0,
      record {
        few = rooms.sized.few;
        four = rooms.sized.four;
        first = prepared.prepare.ensures.1 ∙ rooms.sized.first;
        second = prepared.prepare.ensures.2 ∙ rooms.sized.second;
      },
      rooms.current,
      rooms.single,
    )

-- src/judge.rt:211:5
clear-requires-2 : tie.Need-clear-requires-2
clear-requires-2 c κs = search rules

-- src/judge.rt:170:1
same_length : tie.Need-shape_of-scratch
same_length c = search rules

-- src/judge.rt:170:1
same-length-2 : tie.Need-shape_of-room
same-length-2 c = search rules

-- src/judge.rt:170:1
same-length-3 : tie.Need-shape_of-planes
same-length-3 c = c.before.before.before.before.before.before.before.before.before.before.before.before.before.before.before.before.before.before.before.before.before.before.before.before.before.before.before.before.before.before.before.before.before.before.before.before.before.before.before.planes-1.given

-- src/judge.rt:170:1
same-length-4 : tie.Need-shape_of-marks
same-length-4 c = c.before.before.before.before.before.before.before.before.before.before.before.before.before.before.before.before.before.before.before.before.before.before.before.before.before.before.before.before.before.before.before.before.before.before.before.before.before.before.before.before.before.marks-1.given

-- src/judge.rt:170:1
same-length-5 : tie.Need-shape_of-cur
same-length-5 c = search rules

-- src/judge.rt:170:1
same-length-6 : tie.Need-shape_of-row
same-length-6 c = search rules

-- src/judge.rt:170:1
same-length-7 : tie.Need-shape_of-sets
same-length-7 c = search rules

-- src/judge.rt:170:1
same-length-8 : tie.Need-shape_of-one
same-length-8 c = c.before.before.before.before.before.before.before.before.before.one-2-1.given ∙ c.before.before.before.before.before.before.before.before.before.before.before.before.before.before.before.before.before.before.before.before.before.before.before.before.before.before.before.before.before.before.before.before.before.before.before.before.before.one-1.given

-- src/judge.rt:170:1
same-length-9 : tie.Need-shape_of-two
same-length-9 c = search rules

-- src/judge.rt:170:1
same-length-10 : tie.Need-shape_of-memo
same-length-10 c = search rules

-- src/judge.rt:170:1
returns : tie.Need-returns
returns c =
    let concluded = c.before.before.before.before.before.before.before.before.before.before.before.before.before.before.before.before.before.before.before.before in
    let cleared = concluded.before.before.before.before.before.before.before.before.before.before.before.before in
    let start = cleared.before.before.before.before.before.before.before.before.before.before.before.before.before.before.before.before.before.before.before.before.before.before.before.before.before.before.before.before.before in
    settled _ _ _ _ _ _ start.requires.0 _ _ _ _ _ _ (ap length cleared.clear.ensures ∙ length-replicate {A = ℕ} _ 0) concluded.pass-verdict.ensures c.before.before.clear-2.ensures

pub judge_in_spec : {M : Type 1} → statement M
judge_in_spec =
    tie.close
    (tie.spec
    offsets-requires
    slice-aggregate-prepare
    prepare-requires
    clear-requires
    slice-aggregate-pass
    pass-requires
    clear-requires-2
    same_length
    same-length-2
    same-length-3
    same-length-4
    same-length-5
    same-length-6
    same-length-7
    same-length-8
    same-length-9
    same-length-10
    returns)
