use Rattle.std.proofs.Common.{rules, arith, sym, ap, ◌∙◌, ◌≡◌, ◌+◌, ◌/◌, ◌%◌, ℕ, Bool, false, List, length, Option, None, Some, Bor, MatchOption}
use Rattle.std.specs.Slice.{IsGetRangeResult}
use Rattle.std.proofs.lemmas.List.{take_rest}
use Rattle.bits.specs.Member.{mem}
use Rattle.bits.proofs.Laws.{mem-past, mem-drop}
use Rattle.rows.proofs.span.has.Goals as goal

-- what is behind a byte near the place, or nothing
tested : (s : List ℕ) (start z : ℕ) (r : Bool) (rest : Option (Bor (List ℕ))) → IsGetRangeResult s (start / 8 + z / 8) (length s) rest
    → MatchOption rest (r ≡ false) (λ x. r ≡ mem x.now (start % 8 + z % 8)) → r ≡ mem s (start + z)
tested s start z r None past e = e ∙ sym (mem-past s (start + z) (omega (arith, past.0)))
tested s start z r (Some x) part e =
    e
    ∙ ap (λ (l : List ℕ). mem l (start % 8 + z % 8)) (part.0.2 ∙ take_rest s (start / 8 + z / 8))
    ∙ mem-drop s (start / 8 + z / 8) (start % 8 + z % 8)
    ∙ ap (mem s) (omega arith)

pub returns : goal.returns
returns c = tested c.args.s.now c.args.start c.args.z c.is_some_and.result c.get.result c.get.ensures.lookup (search rules)
