-- Answers in a row: the first refusal, if there is one.
use mathlib.Core.Path.{◌≡◌, refl, sym, ap, ◌∙◌}
use mathlib.Core.Bool.{Bool, true, false, not, false≢true}
use borrow.Author.Tests.{not-true, not-false}
use Rattle.model.specs.First.{and_then, is_sound, Reading}
use Rattle.std.specs.Prelude.{Ok, Err}

-- a refusal ends the row, a sound answer goes on
pub stops : (x y : Reading) → is_sound x ≡ false → and_then x y ≡ x
stops (Ok _) y e = absurd (false≢true (sym e))
stops (Err r) y e = refl

pub goes : (x y : Reading) → is_sound x ≡ true → and_then x y ≡ y
goes (Ok _) y e = refl
goes (Err r) y e = absurd (false≢true e)

-- an answer r that the code has tested, and all that is left to answer: r and then y. s is what the test gave
module _ (all x y r : Reading) (s : Bool) (whole : all ≡ and_then x y) (is : r ≡ x) (tested : s ≡ is_sound r) where
  pub turn-stops : not s ≡ true → r ≡ all
  turn-stops e = is ∙ sym (whole ∙ stops x y (ap is_sound (sym is) ∙ sym tested ∙ not-true s e))

  pub turn-goes : not s ≡ false → all ≡ y
  turn-goes e = whole ∙ goes x y (ap is_sound (sym is) ∙ sym tested ∙ not-false s e)

pub sound-is : (x : Reading) → is_sound x ≡ true → x ≡ Ok tt
sound-is (Ok _) e = refl
sound-is (Err r) e = absurd (false≢true e)
