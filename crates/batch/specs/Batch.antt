-- A batch's own arithmetic: its heads, what lent bytes hold before a call, and the sum over what they hold after it.
use Rattle.std.specs.Prelude.{ℕ, ◌+◌, ◌*◌, ◌%◌, ◌≡◌, List, [], ◌∷◌}
use Rattle.model.specs.Bytes.{byte_at, long_at}
use Rattle.batch.specs.declared.Head.{Head}

pub record HeadAt (b : List ℕ) (h : Head) : Type 0 where
  pub call : h.call ≡ byte_at b 0
  pub device : h.rule.device ≡ byte_at b 1
  pub window : h.rule.window ≡ byte_at b 2
  pub most : h.rule.most ≡ byte_at b 3
  pub budget : h.budget ≡ long_at b 4
  pub scratch : h.scratch ≡ long_at b 8
  pub room : h.room ≡ long_at b 12
  pub first : h.first ≡ long_at b 16
  pub second : h.second ≡ long_at b 20
  pub third : h.third ≡ long_at b 24

unfoldable pub pattern_at : ℕ → ℕ
pattern_at i = (7 * i + 1) % 256

unfoldable pub sum_from : ℕ → List ℕ → ℕ
sum_from total [] = total
sum_from total (b ∷ bs) = sum_from ((total * 257 + b + 1) % 1000003) bs
