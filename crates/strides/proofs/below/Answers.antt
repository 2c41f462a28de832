use Rattle.std.proofs.Common.{ℕ, Bool, ltb, rules, arith}
use Rattle.strides.proofs.Moves.{upto_is}
use Rattle.strides.proofs.below.Goals as goal

pub returns : goal.returns
returns c =
    let p : ℕ → Bool = λ i. ltb i c.args.e in
    upto_is p c.args.a.now c.fill.new.dst _ (omega arith) (omega arith) (c.fill.ensures p (λ w x from to h. search rules) (record { all = λ i l. absurd (omega arith) }))
