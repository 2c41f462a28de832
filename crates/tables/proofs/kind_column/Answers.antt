use Rattle.std.proofs.Common.{◌≡◌, ℕ, ◌+◌, ◌*◌, refl, ap, arith, ◌∙◌}
use Rattle.model.specs.Limits.{kind_limit}
use Rattle.model.specs.Bytes.{byte_at, padded, tab}
use Rattle.model.specs.Kinds.{version_at, kind_width, kind_at}
use Rattle.model.proofs.Places.{tab-same}
use Rattle.columns.proofs.Columns.{filled_zeros}
use Rattle.tables.proofs.kind_column.Goals as goal

pub returns : goal.returns
returns c =
    let b = c.args.b.now in
    let w = c.kind_width-width.result in
    let n = c.byte-2.result in
    let wide : w ≡ kind_width (version_at b) = c.kind_width-width.ensures ∙ ap kind_width c.byte.ensures.0 in
    let f : ℕ → ℕ = λ i. byte_at b (8 + c.args.field + w * i) in
    let g : ℕ → ℕ = λ i. byte_at b (kind_at (version_at b) i + c.args.field) in
    let same : (i : ℕ) → 8 + c.args.field + w * i ≡ kind_at (version_at b) i + c.args.field = λ i. omega (arith, ap (λ (k : ℕ). k * i) wide) in
    c.bytes_column.ensures ∙ filled_zeros f n kind_limit _ (omega arith) refl ∙ ap (padded kind_limit) (tab-same f g n (λ i h. ap (byte_at b) (same i)) ∙ ap (tab g) c.byte-2.ensures.0)
