use native.Mathlib.Omega.{arith}
use Prim.Native.Nat.{◌*◌}
use Rattle.images.proofs.SetLaws.{filled_copy}
use borrow.Author.Rules.{rules}
use Rattle.images.proofs.back.untick.Statement.{statement}
use Rattle.images.proofs.back.untick.Tie as tie

shift-down-requires : tie.Need-shift_down-requires
shift-down-requires c κs = search rules

shift-down-requires-2 : tie.Need-shift_down-requires-2
shift-down-requires-2 c κs = search rules

clear-requires : tie.Need-clear-requires
clear-requires c κs = search rules

mul-or-range : tie.Need-overflow_mul-n
mul-or-range c = search rules

or-range-requires : tie.Need-or_range-requires
or-range-requires c κs = search rules

same_length : tie.Need-shape_of-sets
same_length c = search rules

same-length-2 : tie.Need-shape_of-one
same-length-2 c = search rules

same-length-3 : tie.Need-shape_of-two
same-length-3 c = search rules

returns : tie.Need-returns
returns c =
    let range = c.before.before in
    let clear = range.before.before.before.before in
    let second = clear.before.before.before.before in
    let first = second.before.before.before.before in
    let s = first.before.before.before.before.before.before.before.before in
    let a = s.args in (
      first.shift_down.ensures,
      second.shift_down-2.ensures,
      filled_copy (64 * a.n) second.shift_down-2.new.dst a.sets.now clear.clear.new.a range.or_range.new.dst clear.clear.ensures
          (range.or_range.ensures.1 (omega arith) (omega arith) (omega arith) (omega (arith, s.requires.few))),
    )

pub untick_spec : {M : Type 1} → statement M
untick_spec =
    tie.close
    (tie.spec
    shift-down-requires
    shift-down-requires-2
    clear-requires
    mul-or-range
    or-range-requires
    same_length
    same-length-2
    same-length-3
    returns)
