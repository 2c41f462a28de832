-- The plan of an instant's firings, by a shape; the numbers are cut to their types.
use Rattle.std.specs.Prelude.{Option, ℕ, ◌+◌, ◌*◌, ◌/◌, ◌%◌, ◌^◌, ◌≡◌, Bool}
use Rattle.situation.specs.declared.Shape.{Shape}
use Rattle.firings.specs.declared.Plan.{Plan}

pub record PlanOf (h : Shape) (recorded : Option ℕ) (states n : ℕ) (reverse : Bool) (p : Plan) : Type 0 where
  pub shape : p.shape ≡ h
  pub heard : p.heard ≡ recorded
  pub live : p.live ≡ states
  pub back : p.back ≡ reverse
  pub plane : p.plane ≡ h.first * h.second
  pub free : p.free ≡ h.first * h.second * h.masks * (h.states * h.windows) % 2 ^ 32
  pub gap : p.gap ≡ 64 * n
  pub apart : p.apart ≡ 64 * ((h.first * h.second * h.masks + 63) / 64) % 2 ^ 32
