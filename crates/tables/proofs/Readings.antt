-- What a reading that is the definition's tells of the definition's answer and of the parts.
use mathlib.Core.Path.{◌≡◌, refl, ap, ◌∙◌}
use Rattle.std.specs.Prelude.{Result, Ok, Err}
use Rattle.model.specs.First.{Reading, read_as, answer_of}
use Rattle.model.specs.declared.Refusal.{Refusal}

module _ {P : Type 0} (given : Reading) (whole : P) where
  pub answer_same : (x : Result P Refusal) → x ≡ read_as given whole → answer_of x ≡ given
  answer_same x e = ap (λ (r : Result P Refusal). answer_of r) e ∙ go given
    where
      go : (a : Reading) → answer_of (read_as a whole) ≡ a
      go (Ok _) = refl
      go (Err why) = refl

  pub parts_same : (x : P) → Ok x ≡ read_as given whole → x ≡ whole
  parts_same x e = go given e
    where
      go : (a : Reading) → Ok x ≡ read_as a whole → x ≡ whole
      go (Ok _) q = cc
      go (Err why) q = cc
