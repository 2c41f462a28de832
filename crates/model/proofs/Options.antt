-- What follows from a choice that is there.
use Rattle.std.specs.Prelude.{◌≡◌, ◌↔◌, Option, Some, None}
use Rattle.std.specs.Option.{option_map, option_and_then}
use Rattle.std.proofs.Common.{refl, sym, ◌∙◌, ap}
use Rattle.std.proofs.lemmas.Option.{none-some, same_Some}

pub some-ne-none : {A : Type 0} (a : A) → Some a ≡ None → ⊥
some-ne-none a e = none-some a (sym e)

-- what a map made of some value
pub map-eq-some_iff : {A B : Type 0} (f : A → B) (o : Option A) {b : B} → (option_map f o ≡ Some b) ↔ ((a : A) × (o ≡ Some a) × (f a ≡ b))
map-eq-some_iff f None {b} = (λ e. absurd (none-some b e), λ t. absurd (none-some t.0 t.1))
map-eq-some_iff {B = B} f (Some a) {b} = (λ e. (a, refl, same_Some (f a) b e), λ t. ap {B = Option B} Some (ap f (same_Some a t.0 t.1) ∙ t.2))

pub bind-eq-some_iff : {A B : Type 0} (o : Option A) (g : A → Option B) {x : B} → (option_and_then g o ≡ Some x) ↔ ((y : A) × (o ≡ Some y) × (g y ≡ Some x))
bind-eq-some_iff None g {x} = (λ e. absurd (none-some x e), λ t. absurd (none-some t.0 t.1))
bind-eq-some_iff (Some a) g {x} = (λ e. (a, refl, e), λ t. ap (λ o. option_and_then g o) t.1 ∙ t.2)
