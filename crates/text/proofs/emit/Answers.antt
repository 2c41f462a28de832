use Rattle.std.proofs.Common.{refl, sym, ◌∙◌}
use lib.Seq.{set_out}
use Rattle.text.specs.Put.{stored}
use Rattle.text.proofs.emit.Goals as goal
use Rattle.text.proofs.emit.Goals.{then-at-text, else-at-text}

pub returns : goal.returns
unfolding stored
returns c = elim c.if-at-text.branch [
  | then-at-text w ↦ record { text = w.text-is; place = refl }
  | else-at-text w ↦ record { text = w.text-is ∙ sym (set_out c.args.text.now c.args.at c.args.b w.if-at-text.false); place = refl }
]
