use Rattle.std.proofs.Common.{◌≡◌, ◌<◌, ◌+◌, ℕ, min, List, [], ◌++◌, length, take, drop, arith, rules}
use Rattle.std.proofs.Math.ListN.{set}
use Rattle.std.proofs.lemmas.List.{append-nil, drop_all, length-take}
use Rattle.model.specs.Bytes.{tab}
use Rattle.columns.specs.Filled.{filled}
use Rattle.columns.proofs.Columns.{column_more}
use Rattle.columns.proofs.fill_column.Goals as goal

module _ {A : Type 0} (f : ℕ → A) (i : ℕ) where
  more : (x : A) (room places : List A) → i < length room → x ≡ f i → places ≡ tab f i ++ drop i room → set places i x ≡ tab f (i + 1) ++ drop (i + 1) room
  more x room places h q e = rw (q, e) (column_more f room i h)

  -- all the places that were to be filled, and those behind them
  full : (n most : ℕ) (column places : List A) → most ≡ min (length column) n → i ≡ most → places ≡ tab f i ++ drop i (take most column) → places ++ drop most column ≡ filled f n column
  unfolding filled
  full n most column places m e h =
      let none : drop most (take most column) ≡ [] = drop_all most (take most column) (omega (arith, length-take most column)) in
      let least : most ≡ min n (length column) = omega arith in
      rw (h, e, none, append-nil, ← least)

pub loop-i-init : goal.loop-i-init
unfolding tab
loop-i-init g c = search rules

pub loop-i-preserved : goal.loop-i-preserved
loop-i-preserved g c =
    let most = length-take c.min-most.result c.args.column.now in
    λ f reads. more f c.loop-i.i _ _ _ (omega arith) (reads _ _ (omega arith) c.read.ensures) (c.loop-i.invariant f reads)

pub returns : goal.returns
returns g c =
    let most = length-take c.min-most.result c.args.column.now in
    λ f reads. full f c.loop-i.i _ _ _ _ c.min-most.ensures (omega arith) (c.loop-i.invariant f reads)
