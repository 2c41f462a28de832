use Rattle.std.proofs.Common.{◌≡◌, ℕ, ◌+◌, Bool, ◌&&◌, bit_and, subst, arith}
use Rattle.words.specs.Words.{mem, Joined, up, below, meet}
use Rattle.words.proofs.Sets.{joined-bits, and_bits, low_bits, range_none}
use Rattle.ranges.proofs.or_rest.Goals as goal

pub returns-then-r-gt0 : goal.returns-then-r-gt0
unfolding meet
returns-then-r-gt0 c =
    let a = c.args in
    let p : ℕ → Bool = λ j. mem a.src.now (a.s + j) in
    let q : ℕ → Bool = λ j. mem a.mask.now (a.m + j) in
    let x = c.word_at in
    let y = c.word_at-then-r-gt0 in
    joined-bits a.d a.r (λ j. p j && q j) _ a.dst.now c.or_at.new.a
    (low_bits a.r (λ j. p j && q j) (bit_and x.result y.result) c.low.result c.requires (and_bits 64 p q x.result y.result x.ensures y.ensures) c.low.ensures)
    c.or_at.ensures

pub returns-else-r-gt0 : goal.returns-else-r-gt0
returns-else-r-gt0 c =
    let a = c.args in
    let e : 0 ≡ a.r = omega arith in
    subst (λ (n : ℕ). Joined (up a.d (below n (meet a.src.now a.s a.mask.now a.m))) a.dst.now a.dst.now) e (range_none a.d a.s a.m a.src.now a.mask.now a.dst.now)
