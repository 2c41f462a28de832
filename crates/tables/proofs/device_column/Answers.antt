use Rattle.std.proofs.Common.{◌≡◌, ℕ, List, [], set, ap, arith, ◌∙◌}
use Rattle.model.specs.Limits.{kind_limit}
use Rattle.model.specs.Bytes.{tab, padded}
use Rattle.model.specs.Kinds.{version_at, kind_at, device_at}
use Rattle.model.specs.Table.{kinds_at}
use Rattle.model.proofs.Basics.{get_or-tab}
use Rattle.monitor.specs.From.{monitor_from}
use Rattle.columns.proofs.Columns.{column_padded, column_more}
use Rattle.tables.proofs.device_column.Goals as goal

pub loop-i-preserved : goal.loop-i-preserved
unfolding monitor_from
loop-i-preserved c =
    let b : List ℕ = c.args.b.now in
    let f : ℕ → ℕ = λ k. device_at b (kind_at (version_at b) k) in
    let here : c.device_of.result ≡ f c.loop-i.i = c.device_of.ensures [] ∙ get_or-tab f 0 (kinds_at b) c.loop-i.i (omega arith) in
    ap (λ (k : List ℕ). set k c.loop-i.i c.device_of.result) c.loop-i.invariant ∙ rw here (column_more f _ c.loop-i.i (omega arith))

pub returns : goal.returns
returns c few =
    let f : ℕ → ℕ = λ k. device_at c.args.b.now (kind_at (version_at c.args.b.now) k) in
    let all : c.loop-i.i ≡ kinds_at c.args.b.now = omega arith in
    c.loop-i.invariant ∙ column_padded f c.loop-i.i kind_limit ∙ ap (λ n. padded kind_limit (tab f n)) all
