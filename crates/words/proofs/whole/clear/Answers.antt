use Rattle.std.proofs.Common.{false, refl, ap, ◌∙◌, List, ℕ, get_or, rules}
use Rattle.std.proofs.lemmas.List.{get_or-replicate}
use Rattle.words.proofs.Parts.{is_by_words, zero_bits}
use Rattle.words.proofs.whole.clear.Goals as goal

pub returns : goal.returns
returns c =
    is_by_words (λ i. false) (λ k. 0) c.args.a.now c.fill.new.self c.fill.ensures.len
    (λ k l. ap (λ (s : List ℕ). get_or s k 0) (c.fill.ensures.after (search rules)) ∙ get_or-replicate _ k 0 0 l)
    (λ k. zero_bits 64 (λ j. false) (λ j l. refl))
