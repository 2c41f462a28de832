-- One recursion over a guard's bytes: a guard inside starts behind its code, and the second of a conjunction where the first ends.
use Rattle.std.proofs.Common.{◌≡◌, ℕ, suc, ◌+◌, ◌<◌, List, sym, ◌∙◌, arith, rules}
use Rattle.std.specs.Prelude.{option_and_then}
use Rattle.std.specs.Option.{option_map}
use Rattle.model.specs.Bytes.{byte_at}
use Rattle.model.specs.Guard.{guard_at}
use Rattle.guard.specs.Guards.{seen, opposite, both}
use Rattle.guard.proofs.Guards.{guard_none, guard_out, guard_leaf, guard_not, guard_and, seen_not, seen_and}
use Rattle.guard.proofs.+guard_seen.Goals as goal

-- what is seen of a negation and of a conjunction, by what is seen of the guards inside
module _ (i v : ℕ) (c : List ℕ) (vs cs : ℕ) (b : List ℕ) (at end f g : ℕ) (z : suc g ≡ f) (h : at < end) where
  negation_seen : byte_at b at ≡ 4 → seen i v c (guard_at f vs cs b at end) ≡ option_map opposite (seen i v c (guard_at g vs cs b (at + 1) end))
  negation_seen e = rw (guard_not vs cs b at end f g z h e) (seen_not i v c (guard_at g vs cs b (at + 1) end))

  conjunction_seen : byte_at b at ≡ 5
      → seen i v c (guard_at f vs cs b at end) ≡ option_and_then (λ s. option_map (both s) (seen i v c (guard_at g vs cs b s.next end))) (seen i v c (guard_at g vs cs b (at + 1) end))
  conjunction_seen e = rw (guard_and vs cs b at end f g z h e) (seen_and i v c (guard_at g vs cs b (at + 1) end) (λ k. guard_at g vs cs b k end))

pub returns-then-end-at : goal.returns-then-end-at
returns-then-end-at t c = let a = c.args in
    rw (guard_out a.q.variables a.q.clocks a.b.now a.at a.end a.depth c.if-end-at.true)

pub returns-in_err-depth : goal.returns-in_err-depth
returns-in_err-depth t c = let a = c.args in
    rw (guard_none a.q.variables a.q.clocks a.b.now a.at a.end a.depth (omega arith)) c.from_residual.ensures

pub returns-in-4 : goal.returns-in-4
returns-in-4 t c = let a = c.args in
    let code = sym c.byte.ensures.0 ∙ c.in-4.is in
    rw (negation_seen a.q.clock a.q.mask a.c.now a.q.variables a.q.clocks a.b.now a.at a.end a.depth c.in_ok-depth.depth (omega arith) (omega arith) code, ← c.guard_seen.ensures)
    (search rules)

pub returns-in_err-first-in-5 : goal.returns-in_err-first-in-5
returns-in_err-first-in-5 t c = let a = c.args in
    let code = sym c.byte.ensures.0 ∙ c.in-5.is in
    rw (
      conjunction_seen a.q.clock a.q.mask a.c.now a.q.variables a.q.clocks a.b.now a.at a.end a.depth c.in_ok-depth.depth (omega arith) (omega arith) code,
      ← c.guard_seen-in-5.ensures,
      c.in_err-first-in-5.was,
    )
    c.from_residual-in_err-first-in-5.ensures

pub returns-in_err-second-in-5 : goal.returns-in_err-second-in-5
returns-in_err-second-in-5 t c = let a = c.args in
    let code = sym c.byte.ensures.0 ∙ c.in-5.is in
    rw (
      conjunction_seen a.q.clock a.q.mask a.c.now a.q.variables a.q.clocks a.b.now a.at a.end a.depth c.in_ok-depth.depth (omega arith) (omega arith) code,
      ← c.guard_seen-in-5.ensures,
      c.in_ok-first-in-5.was,
      ← c.guard_seen-in-5-2.ensures,
      c.in_err-second-in-5.was,
    )
    c.from_residual-in_err-second-in-5.ensures

pub returns-in_ok-second-in-5 : goal.returns-in_ok-second-in-5
returns-in_ok-second-in-5 t c = let a = c.args in
    let code = sym c.byte.ensures.0 ∙ c.in-5.is in
    rw (
      conjunction_seen a.q.clock a.q.mask a.c.now a.q.variables a.q.clocks a.b.now a.at a.end a.depth c.in_ok-depth.depth (omega arith) (omega arith) code,
      ← c.guard_seen-in-5.ensures,
      c.in_ok-first-in-5.was,
      ← c.guard_seen-in-5-2.ensures,
      c.in_ok-second-in-5.was,
    )
    (cc c.joined.ensures)

pub returns-in_default : goal.returns-in_default
returns-in_default t c = let a = c.args in
    rw (guard_leaf a.q.variables a.q.clocks a.b.now a.at a.end a.depth (omega arith) (omega arith) (λ e. omega arith) (λ e. omega arith)) c.leaf_seen.ensures
