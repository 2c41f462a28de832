-- The numbers that a table's scan gives are below 17.
use Prim.Native.Nat.{ℕ, zero, suc, ◌+◌, ◌<◌}
use native.Mathlib.Omega.{arith}
use mathlib.Core.Path.{◌≡◌, refl, sym, ap, subst}
use mathlib.Core.List.{List, [], ◌∷◌}
use mathlib.Core.Bool.{Bool, true, false, ◌&&◌}
use lib.ListN.{length}
use lib.Dec.{leb, ltb, eqb}
use borrow.Author.Tests.{ltb-true}
use Rattle.model.specs.Limits.{table_versions}
use Rattle.model.specs.Bytes.{byte_at, tab}
use Rattle.model.specs.First.{unless, and_then, first_of, Reading}
use Rattle.model.specs.Frame.{framed}
use Rattle.model.specs.Table.{states_at, variables_at, clocks_at, counts_of, kind_records, transition_fields, guard_record, transition_record, transition_records, kinds_at, transitions_at, guard_length_at, transition_at, device_column, scan_with, table_scan}
use Rattle.model.specs.Kinds.{version_at, kind_at, kind_record}
use Rattle.model.specs.Numbers.{refusal_values, reading_values}
use Rattle.model.specs.declared.Edition.TheVariants.{One}
use Rattle.std.specs.Prelude.{Ok, Err}
use Rattle.model.specs.declared.Refusal.{Refusal}
use Rattle.model.specs.declared.Refusal.TheVariants.{TableFrame, TableVersion, TableLength, TableState}
use Rattle.model.proofs.Basics.{and_left, and_right}
use Rattle.model.proofs.Tests.{tests, frame_tests, first-last}
use Rattle.model.proofs.KindForm.{kind_tests}
use Rattle.model.proofs.TableForm.{count_tests, field_tests, guard_tests}

-- a number below 17, or none
pub record Earlier (x : Reading) : Type 0 where
  pub number : (reading_values x).number < 17

none_earlier : Earlier (Ok tt)
none_earlier = record { number = omega arith }

then_earlier : {x y : Reading} → Earlier x → Earlier y → Earlier (and_then x y)
then_earlier {x} {y} p q = go x p
  where
    go : (x : Reading) → Earlier x → Earlier (and_then x y)
    go (Ok _) h = q
    go (Err r) h = h

pub unless_earlier : (t : Bool) (r : Refusal) → ltb (refusal_values r).number 17 ≡ true → Earlier (unless t r)
unless_earlier true r h = none_earlier
unless_earlier false r h = record { number = ltb-true (refusal_values r).number 17 h }

-- the refusals of a list of tests are earlier
early : List (Bool × Refusal) → Bool
early [] = true
early (x ∷ l) = ltb (refusal_values x.1).number 17 && early l

tests_earlier : (l : List (Bool × Refusal)) → early l ≡ true → Earlier (first_of (tests l))
unfolding early
tests_earlier [] h = none_earlier
tests_earlier (x ∷ l) h = then_earlier (unless_earlier x.0 x.1 (and_left _ _ h)) (tests_earlier l (and_right (ltb (refusal_values x.1).number 17) (early l) h))

kind_earlier : (b : List ℕ) (at device : ℕ) → Earlier (kind_record b at device)
unfolding kind_record early
kind_earlier b at device = tests_earlier (kind_tests b at device) refl

first_earlier : (f : ℕ → Reading) → ((i : ℕ) → Earlier (f i)) → (n : ℕ) → Earlier (first_of (tab f n))
unfolding tab
first_earlier f h zero = none_earlier
first_earlier f h (suc n) = subst Earlier (sym (first-last (tab f n) (f n))) (then_earlier (first_earlier f h n) (h n))

transition_earlier : (b : List ℕ) (at : ℕ) → Earlier (transition_record b at)
unfolding transition_record transition_fields guard_record early
transition_earlier b at =
    then_earlier (unless_earlier (leb (at + 7) (length b)) (TableLength at) refl)
    (then_earlier (tests_earlier (field_tests b at) refl) (then_earlier (tests_earlier (guard_tests b at) refl) none_earlier))

transitions_earlier : (n : ℕ) (b : List ℕ) (at : ℕ) → Earlier (transition_records n b at)
unfolding transition_records
transitions_earlier zero b at = unless_earlier (eqb at (length b)) (TableLength at) refl
transitions_earlier (suc n) b at =
    then_earlier (transition_earlier b at) (then_earlier (transitions_earlier n b (at + 7 + guard_length_at b at)) none_earlier)

pub scan_earlier : (b : List ℕ) → Earlier (table_scan b)
unfolding table_scan scan_with kind_records framed counts_of early
scan_earlier b =
    let kind : ℕ → Reading = λ i. kind_record b (kind_at (version_at b) i) (byte_at (device_column b) i) in
    then_earlier (tests_earlier (frame_tests One b 8 1 table_versions TableFrame TableVersion) refl)
    (then_earlier (tests_earlier (count_tests (states_at b) (variables_at b) (clocks_at b) (kinds_at b) (transitions_at b)) refl)
    (then_earlier (first_earlier kind (λ i. kind_earlier b (kind_at (version_at b) i) (byte_at (device_column b) i)) (kinds_at b))
    (then_earlier (transitions_earlier (transitions_at b) b (transition_at b 0)) none_earlier)))

-- an earlier number goes before 17
pub behind_earlier : (x y : Reading) (s : ℕ) → Earlier x → first_of (x ∷ y ∷ []) ≡ Err (TableState s) → (x ≡ Ok tt) × (y ≡ Err (TableState s))
behind_earlier (Err r) y s h e = absurd (omega (arith, h.number, ap (λ (w : Reading). (reading_values w).number) e))
behind_earlier (Ok _) (Err r) s h e = (refl, e)
behind_earlier (Ok _) (Ok _) s h e = (refl, e)
