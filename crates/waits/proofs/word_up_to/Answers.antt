use Rattle.std.proofs.Common.{◌≡◌, ◌*◌, ◌%◌, ◌^◌, sym, arith}
use lib.Pow.{shl_exact}
use Rattle.waits.proofs.WaitLaws.{up_to_all, up_to_some}
use Rattle.waits.proofs.word_up_to.Goals as goal

pub returns-then-count-lt64 : goal.returns-then-count-lt64
returns-then-count-lt64 c =
    let e = c.saturating_sub-count.result in
    let one : 1 * 2 ^ e % 2 ^ 64 ≡ 1 * 2 ^ e = shl_exact 1 e 64 (omega arith) (omega arith) in
    omega (arith, up_to_some c.args.last c.args.from e (omega arith) (omega arith))

pub returns-else-count-lt64 : goal.returns-else-count-lt64
returns-else-count-lt64 c = sym (up_to_all c.args.last c.args.from (omega arith))
