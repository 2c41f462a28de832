use Rattle.std.proofs.Common.{rules, tests, arith, sym, ap, ◌∙◌, ◌≡◌, ◌||◌, Bool}
use Rattle.std.proofs.lemmas.Iterator.{YieldsList-from_slice}
use Rattle.std.proofs.lemmas.Iterator.Search.{any_from_yields_List}
use Rattle.words.proofs.AnyBelow.{some_word, some_eight, any_eights}
use Rattle.words.proofs.whole.any.Goals as goal

-- the first answer decides, or the second does
pub returns-then-any : goal.returns-then-any
returns-then-any c =
    let es = c.as_chunks.result.0.now in
    let rest = c.as_chunks.result.1.now in
    let found : c.any.result ≡ some_eight es = any_from_yields_List _ _ _ c.any.result c.any.ensures.ran (YieldsList-from_slice es cc) (λ x b q k. search (rules, tests)) in
    c.if-any.true
    ∙ ap (λ (b : Bool). b || some_word rest) (sym c.if-any.true ∙ found)
    ∙ any_eights c.args.a.now es rest (λ k. omega (arith, c.type_inv.a k)) c.as_chunks.ensures.front c.as_chunks.ensures.back

pub returns-else-any : goal.returns-else-any
returns-else-any c =
    let es = c.as_chunks.result.0.now in
    let rest = c.as_chunks.result.1.now in
    let found : c.any.result ≡ some_eight es = any_from_yields_List _ _ _ c.any.result c.any.ensures.ran (YieldsList-from_slice es cc) (λ x b q k. search (rules, tests)) in
    any_from_yields_List _ _ _ c.any-else-any.result c.any-else-any.ensures.ran (YieldsList-from_slice rest cc) (λ x b q k. search (rules, tests))
    ∙ ap (λ (b : Bool). b || some_word rest) (sym c.if-any.false ∙ found)
    ∙ any_eights c.args.a.now es rest (λ k. omega (arith, c.type_inv.a k)) c.as_chunks.ensures.front c.as_chunks.ensures.back
