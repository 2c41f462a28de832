use Rattle.std.proofs.Common.{ap, arith, rules, ℕ, ◌≡◌, ◌*◌, ◌/◌, length}
use Rattle.bits.specs.Member.{mem}
use Rattle.bits.specs.Counting.{tally}
use Rattle.bits.proofs.Words.{counted, tally_word}
use Rattle.bits.proofs.count.Goals as goal

pub loop-k-init : goal.loop-k-init
unfolding tally
loop-k-init c = search rules

pub loop-k-preserved : goal.loop-k-preserved
loop-k-preserved c = omega (arith, tally_word c.args.s.now c.loop-k.k)

pub returns : goal.returns
returns c =
    let s = c.args.s.now in
    let done : c.loop-k.k ≡ length s / 8 = omega arith in
    counted s _ (omega (arith, ap (λ (k : ℕ). tally (mem s) (64 * k)) done, tally_word s (length s / 8)))
