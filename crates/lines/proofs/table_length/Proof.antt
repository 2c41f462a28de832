use Prim.Native.Nat.{◌+◌, ◌≤◌, ◌<◌}
use native.Mathlib.Omega.{arith}
use lib.ListN.{length}
use borrow.Author.Tests.{le-leb, lt-leb}
use borrow.Author.Rules.{rules}
use Rattle.model.specs.Bytes.{word_at}
use Rattle.model.specs.Desk.{table_length}
use Rattle.lines.proofs.table_length.Statement.{statement}
use Rattle.lines.proofs.table_length.Tie as tie

returns : tie.Need-returns-then-all-lt2
unfolding table_length
returns c = (rw (lt-leb _ _ c.if-all-lt2.true), omega arith)

word-requires : tie.Need-word-requires
word-requires c κs = search rules

cast-stated : tie.Need-overflow_cast-stated
cast-stated c = search rules

add-stated : tie.Need-overflow_add-stated
add-stated c = search rules

returns-2 : tie.Need-returns-then-stated-all
unfolding table_length
returns-2 c =
    let files = c.before.before.before.before.args.files.now in
    let all : 2 ≤ length files = omega arith in
    let fits : word_at files 0 + 2 ≤ length files = omega arith in
    (rw (le-leb _ _ all, le-leb _ _ fits) (omega arith), omega arith)

returns-3 : tie.Need-returns-else-stated-all
unfolding table_length
returns-3 c =
    let files = c.before.before.before.before.args.files.now in
    let all : 2 ≤ length files = omega arith in
    let past : length files < word_at files 0 + 2 = omega arith in
    (rw (le-leb _ _ all, lt-leb _ _ past), omega arith)

pub table_length_spec : {M : Type 1} → statement M
table_length_spec =
    tie.close (tie.spec returns word-requires cast-stated add-stated returns-2 returns-3)
