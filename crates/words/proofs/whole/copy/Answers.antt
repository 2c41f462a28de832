use Rattle.std.proofs.Common.{rules, arith, get_or}
use Rattle.std.proofs.lemmas.List.{places}
use lib.ListN.{get_or-eq_default}
use Rattle.words.specs.Words.{mem}
use Rattle.words.proofs.Parts.{is_by_cut, whole-bits}
use Rattle.words.proofs.whole.copy.Goals as goal

pub returns : goal.returns
returns c =
    let src = c.args.src.now in
    is_by_cut (mem src) (λ k. get_or src k 0) c.args.dst.now _ c.fill.new.self c.min-n.result (search rules) (omega arith) (c.fill.ensures.after (search rules))
    (λ k l. search (rules, places)) (λ k l m. get_or-eq_default src 0 (omega arith)) (λ k. whole-bits src k (omega (arith, c.type_inv.src k)))
