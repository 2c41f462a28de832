use Prim.Native.Nat.{◌-◌, ◌/◌}
use native.Mathlib.Omega.{arith}
use Rattle.text.proofs.Stores.{wrote_none, wrote-more}
use Rattle.text.proofs.Digits.{digits_none, digits_last, digits_more, digits-length}
use Rattle.text.proofs.+decimal.Goals as goal

pub returns-then-fuel-eq0 : goal.returns-then-fuel-eq0
returns-then-fuel-eq0 t c =
    let a = c.args in
    rw (digits_none a.fuel a.n c.if-fuel-eq0.true) (wrote_none a.text.now a.at)

pub returns-then-n-lt10 : goal.returns-then-n-lt10
returns-then-n-lt10 t c =
    rw (digits_last c.args.fuel c.args.n (omega arith) (omega arith)) c.emit.ensures

pub emit-requires-2 : goal.emit-requires-2
emit-requires-2 t c =
    omega (arith, digits-length (c.args.fuel - 1) (c.args.n / 10))

pub returns : goal.returns
returns t c =
    rw (digits_more c.args.fuel c.args.n (omega arith) (omega arith)) (wrote-more c.decimal-next.ensures c.emit-2.ensures)
