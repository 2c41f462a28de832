use mathlib.Core.Path.{sym, ◌∙◌}
use Rattle.images.proofs.RangeLaws.{rest_free, rest_kind, rest_other}
use Rattle.images.proofs.moves.rest.Goals as goal

pub returns-in-None : goal.returns-in-None
returns-in-None c = λ offsets. rest_free _ _ _ _ _ _ _ _ c.in-None.is c.saturating_sub.ensures c.range.ensures c.range-in-None.ensures

pub returns-in-Some : goal.returns-in-Some
returns-in-Some c = λ offsets. rest_kind _ _ _ _ _ _ _ _ c.in-Some.is (c.airtime_of-air.ensures offsets) (sym (c.to_unit.ensures offsets) ∙ c.if-to_unit.true) c.range-in-Some.ensures

pub returns-else-to_unit : goal.returns-else-to_unit
returns-else-to_unit c = λ offsets. rest_other _ _ _ _ _ _ c.in-Some.is (sym (c.to_unit.ensures offsets) ∙ c.if-to_unit.false)
