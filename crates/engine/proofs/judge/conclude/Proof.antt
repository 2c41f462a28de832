-- `judge::conclude` meets its contract: the pass as it ended. Assumes nothing.
use borrow.Author.Rules.{rules}
use Rattle.engine.proofs.JudgeLaws.{spent, emptied, through, passed}
use Rattle.engine.proofs.judge.conclude.Statement.{statement}
use Rattle.engine.proofs.judge.conclude.Tie as tie

enum-known-outcome : tie.Need-enum_known-outcome
enum-known-outcome c = search rules

enum-known-outcome-2 : tie.Need-enum_known-outcome-in-Emptied-1
enum-known-outcome-2 c = search rules

enum-known-outcome-3 : tie.Need-enum_known-outcome-in-Passed-1
enum-known-outcome-3 c = search rules

prune-requires : tie.Need-prune-requires
prune-requires c κs = search rules

walk-requires : tie.Need-walk-rows-requires
walk-requires c κs = search rules

returns : tie.Need-returns-in-Spent
returns c = spent _ _ _ _ _ _ _ _ _ c.before.before.before.before.before.before.before.before.before.before.before.before.before.before.requires.0 _ c.in-Spent.is

returns-2 : tie.Need-returns-in-Emptied
returns-2 c = emptied _ _ _ _ _ _ _ _ _ c.before.before.before.before.before.before.before.before.before.before.before.before.before.before.requires.0 _ _ _ _ c.in-Emptied.is

same_length : tie.Need-shape_of-scratch
same_length c = search rules

same-length-2 : tie.Need-shape_of-room
same-length-2 c = search rules

same-length-3 : tie.Need-shape_of-next
same-length-3 c = search rules

same-length-4 : tie.Need-shape_of-row
same-length-4 c = search rules

same-length-5 : tie.Need-shape_of-sets
same-length-5 c = search rules

same-length-6 : tie.Need-shape_of-one
same-length-6 c = search rules

same-length-7 : tie.Need-shape_of-two
same-length-7 c = search rules

same-length-8 : tie.Need-shape_of-memo
same-length-8 c = search rules

returns-3 : tie.Need-returns-in-Passed
returns-3 c =
    let walked = c.before.before in
    let pruned = walked.before.before.before.before.before.before.before.before.before.before.before.before.before.before.before.before in
    let known = pruned.before.before.before.before.before.before.before.before in
    let (e, long, given, sized, next, row) = known.before.before.before.before.before.before.before.before.before.before.before.before.before.requires in
    let came = through _ _ _ _ _ _ _ _ _ e _ known.in-Passed.is in
    let done = pruned.prune.ensures in
    let rows = done.1 e.setting given long came.layers sized next row in
    let (count, written) = walked.walk-rows.ensures.1 (record { setting = e.setting; triggers = e.triggers; pruned = rows }) came.left e.roomy in
    passed _ _ _ _ _ _ _ _ _ e _ known.in-Passed.is _ _ _ done.0.0 count written

pub conclude_spec : {M : Type 1} → statement M
conclude_spec =
    tie.close
    (tie.spec
    enum-known-outcome
    enum-known-outcome-2
    enum-known-outcome-3
    prune-requires
    walk-requires
    returns
    returns-2
    same_length
    same-length-2
    same-length-3
    same-length-4
    same-length-5
    same-length-6
    same-length-7
    same-length-8
    returns-3)
