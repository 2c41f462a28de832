use Prim.Native.Nat.{ℕ, ◌*◌, ◌≤◌, ◌<◌}
use native.Mathlib.Nat.{mul-le-mul}
use native.Mathlib.Omega.{arith}
use mathlib.Core.Path.{◌≡◌, refl, ap₂}
use Rattle.model.specs.declared.TableParts.{TableParts}
use Rattle.model.specs.declared.Rule.{Rule}
use Rattle.situation.specs.declared.Shape.{Shape}
use Rattle.situation.specs.Numbering.{shape_of}
use borrow.Author.Rules.{rules}
use Rattle.measures.proofs.measure.Statement.{statement}
use Rattle.measures.proofs.measure.Tie as tie

shape-of-requires : tie.Need-shape_of-shape-requires
shape-of-requires c κs = search rules

table-size-requires : tie.Need-table_size-requires
table-size-requires c κs = search rules

masks-requires : tie.Need-masks-requires
masks-requires c κs = search rules

cast-size : tie.Need-overflow_cast-size
cast-size c = search rules

-- N is at most one above its limit here, and there are at most 128 windows
product_le : (c : tie.After-masks) → c.before.table_size.result * c.masks.result ≤ 65537 * 128
product_le c =
    let few : c.before.table_size.result ≤ 65537 = omega (arith, c.before.table_size.ensures) in
    let windows : c.masks.result ≤ 128 = c.masks.ensures.1 in
    mul-le-mul few windows

mul-size : tie.Need-overflow_mul-size
mul-size c = record { fits = omega (arith, product_le c) }

add-t7 : tie.Need-overflow_add-result
add-t7 c = omega (arith, product_le c)

add-t10 : tie.Need-overflow_add-result-2
add-t10 c = omega (arith, product_le c)

last-time-requires : tie.Need-last_time-requires
last-time-requires c κs = search rules

first-number-requires : tie.Need-first_number-requires
first-number-requires c κs = search rules

-- a clock has at least the one value 0
some-values : (parts : TableParts) (rule : Rule) (h : Shape) → h ≡ shape_of parts rule → (0 < h.first) × (0 < h.second)
unfolding shape_of
some-values parts rule h e = rw e (omega arith, omega arith)

returns : tie.Need-returns
returns c =
    let shape = c.before.before.before.before.shape_of-shape in
    let some = some-values _ _ _ shape.ensures.0 in
    record {
      clocks = record { some = some.0; most = shape.ensures.1; some₁ = some.1; most₁ = shape.ensures.2 };
      shape = shape.ensures.0;
      size = ap₂ (λ (a b : ℕ). a * b) c.before.before.before.table_size.ensures c.before.before.masks.ensures.0;
      row = refl;
      words = refl;
      last = c.before.last_time.ensures.0;
      first = c.first_number.ensures;
      short = c.before.last_time.ensures.1;
    }

pub measure_spec : {M : Type 1} → statement M
measure_spec =
    tie.close
    (tie.spec
    shape-of-requires
    table-size-requires
    masks-requires
    cast-size
    mul-size
    add-t7
    add-t10
    last-time-requires
    first-number-requires
    returns)
