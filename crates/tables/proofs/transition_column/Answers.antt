use Rattle.std.proofs.Common.{◌≡◌, ℕ, ◌+◌, List, set, ap, arith, ◌∙◌}
use Rattle.model.specs.Limits.{transition_limit}
use Rattle.model.specs.Bytes.{byte_at, tab, padded}
use Rattle.model.specs.Table.{transition_at, transitions_at}
use Rattle.columns.proofs.Columns.{column_padded, column_more}
use Rattle.tables.proofs.Tables.{next_at}
use Rattle.tables.proofs.transition_column.Goals as goal

pub loop-i-preserved : goal.loop-i-preserved
loop-i-preserved c =
    let l = c.loop-i in
    let f : ℕ → ℕ = λ j. byte_at c.args.b.now (transition_at c.args.b.now j + c.args.field) in
    record {
      low = omega arith;
      starts = next_at c.args.b.now l.at l.i c.byte-in-loop-i.result l.invariant.starts c.byte-in-loop-i.ensures.0;
      fills = ap (λ (k : List ℕ). set k l.i c.byte.result) l.invariant.fills ∙ rw (c.byte.ensures.0, l.invariant.starts) (column_more f _ l.i (omega arith));
    }

pub returns : goal.returns
returns c =
    let f : ℕ → ℕ = λ j. byte_at c.args.b.now (transition_at c.args.b.now j + c.args.field) in
    let all : c.loop-i.i ≡ transitions_at c.args.b.now = omega arith in
    c.loop-i.invariant.fills ∙ column_padded f c.loop-i.i transition_limit ∙ ap (λ n. padded transition_limit (tab f n)) all
