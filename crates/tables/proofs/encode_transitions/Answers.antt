use Rattle.std.proofs.Common.{ℕ, List, ◌++◌, length, sym, ap, arith, ◌∙◌}
use Rattle.model.specs.Limits.{kind_limit}
use Rattle.model.specs.Bytes.{joined}
use Rattle.model.specs.Room.{over}
use Rattle.model.specs.Table.{transition_bytes}
use Rattle.model.proofs.KindForm.{kind-most}
use Rattle.frame.proofs.Written.{joined_none, joined-more}
use Rattle.tables.proofs.encode_transitions.Goals as goal

pub loop-i-init : goal.loop-i-init
loop-i-init c =
    let t = c.args.t in
    record {
      low = omega (arith, c.kind_at-at.ensures, kind-most t.version t.kinds kind_limit c.requires.0);
      stands = λ head room h k e.
          let none = joined_none head (transition_bytes t) in
          (e ∙ ap (λ (l : List ℕ). over l room) (sym none), sym h ∙ ap length (sym none));
    }

pub loop-i-preserved : goal.loop-i-preserved
loop-i-preserved c =
    let t = c.args.t in
    let l = c.loop-i in
    record {
      low = omega (arith, c.put_transition-at.ensures.1);
      stands = λ head room h k e.
          let q = l.invariant.stands head room h k e in
          let p = c.put_transition-at.ensures.0 (head ++ joined (transition_bytes t) l.i) room (sym q.1) (omega arith) q.0 in
          let more = joined-more head (transition_bytes t) l.i in
          (p.0 ∙ ap (λ (b : List ℕ). over b room) more, p.1 ∙ ap length more);
    }
