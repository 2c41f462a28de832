use borrow.Author.Rules.{rules}
use native.Mathlib.Omega.{arith}
use mathlib.Core.Path.{sym, ◌∙◌}
use Rattle.measures.proofs.Ends.{end-time, no_end}
use Rattle.measures.proofs.last_time.Statement.{statement}
use Rattle.measures.proofs.last_time.Tie as tie

word-requires : tie.Need-word-count-requires
word-requires c κs = search rules

cast-count : tie.Need-overflow_cast-count
cast-count c = search rules

returns : tie.Need-returns-then-count-eq0
returns c = (no_end _ (sym c.before.word-count.ensures.0 ∙ c.if-count-eq0.true), omega arith)

sub_word : tie.Need-overflow_sub-count
sub_word c = search rules

mul-word : tie.Need-overflow_mul-count
mul-word c = search rules

add-word : tie.Need-overflow_add-count
add-word c = search rules

word-requires-2 : tie.Need-word-requires
word-requires-2 c κs = search rules

cast-result : tie.Need-overflow_cast-result
cast-result c = search rules

returns-2 : tie.Need-returns
returns-2 c = (c.word.ensures.0 ∙ sym (end-time _ _ (omega (arith, c.before.before.word-count.ensures.0, c.before.if-count-eq0.false))), c.word.ensures.1)

pub last_time_spec : {M : Type 1} → statement M
last_time_spec =
    tie.close
    (tie.spec
    word-requires
    cast-count
    returns
    sub_word
    mul-word
    add-word
    word-requires-2
    cast-result
    returns-2)
