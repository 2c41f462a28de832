-- 17 in the words of R-8: of a monitor, and of a table's bytes, where it comes "after 16".
use Prim.Native.Nat.{ℕ}
use mathlib.Core.Path.{◌≡◌, refl, sym, ap, ◌∙◌}
use mathlib.Core.Logic.{◌↔◌}
use mathlib.Core.List.{List, [], ◌∷◌}
use mathlib.Core.Bool.{Bool, true, false, false≢true}
use lib.Dec.{leb}
use borrow.Author.Tests.{le-leb}
use Rattle.model.specs.Limits.{size_limit}
use Rattle.model.specs.First.{unless, first_of, Reading}
use Rattle.model.specs.Monitor.{Monitor}
use Rattle.model.specs.Reach.{Reached, LowestUnreached, StatesJudged, is_reached, lowest_missing, states_answer}
use Rattle.model.specs.Size.{table_size}
use Rattle.model.specs.Table.{table_parts, table_scan, whole_answer, answer_with, table_answer, monitor_of, monitor_at}
use Rattle.model.specs.Numbers.{reading_values}
use Rattle.model.specs.Answers.{SoundButStates, RefusesUnreached}
use Rattle.std.specs.Prelude.{Ok, Err}
use Rattle.model.specs.declared.Refusal.TheVariants.{TableSize, TableState}
use Rattle.model.proofs.Tests.{le_test, test}
use Rattle.model.proofs.Reaching.{reached_test}
use Rattle.model.proofs.Missing.{all_found, one_missing, found_all, missing_one}
use Rattle.model.proofs.ScanNumbers.{unless_earlier, scan_earlier, behind_earlier}
use Rattle.model.proofs.NumberLaws.{number_0, number_17}

module _ (m : Monitor) where
  unfound : (s : ℕ) → (Reached m s → ⊥) → is_reached m s ≡ false
  unfound s away = go (is_reached m s) (reached_test m s).1
    where
      go : (b : Bool) → (b ≡ true → Reached m s) → b ≡ false
      go true h = absurd (away (h refl))
      go false h = refl

  pub states-judged : StatesJudged m (states_answer m)
  unfolding states_answer
  states-judged =
      let n : ℕ = m.states in
      record {
        sound = (λ e s l. (reached_test m s).1 (found_all (is_reached m) n e s l), λ all. all_found (is_reached m) n (λ s l. (reached_test m s).0 (all s l)));
        refused = λ s. (lowest s, λ u. one_missing (is_reached m) n s u.state (λ r l. (reached_test m r).0 (u.lower r l)) (unfound s u.unreached));
      }
    where
      lowest : (s : ℕ) → lowest_missing (is_reached m) m.states ≡ Err (TableState s) → LowestUnreached m s
      lowest s e =
          let w = missing_one (is_reached m) m.states s e in
          record { state = w.0; unreached = λ r. false≢true (sym w.1 ∙ (reached_test m s).0 r); lower = λ r l. (reached_test m r).1 (w.2 r l) }

-- of the bytes of a table

module _ (b : List ℕ) where
  abbrev states : Reading
  states = states_answer (monitor_at b)

  abbrev sized : Reading
  sized = unless (leb (table_size (monitor_at b)) size_limit) TableSize

  abbrev whole : List Reading
  whole = sized ∷ states ∷ []

  abbrev all : List Reading
  all = table_scan b ∷ first_of whole ∷ []

  -- what is asked of the states is asked last

  sound-last : (table_answer b ≡ Ok tt) ↔ (SoundButStates b × (states ≡ Ok tt))
  unfolding table_answer answer_with table_scan whole_answer
  sound-last = (there, λ w. rw (w.0.0, le-leb (table_size (monitor_at b)) size_limit w.0.1, w.1))
    where
      there : first_of all ≡ Ok tt → SoundButStates b × (states ≡ Ok tt)
      there e = let w : first_of whole ≡ Ok tt = test all e 1 in ((test all e 0, le_test _ _ TableSize (test whole w 0)), test whole w 1)

  refused-last : (s : ℕ) → (table_answer b ≡ Err (TableState s)) ↔ (SoundButStates b × (states ≡ Err (TableState s)))
  unfolding table_answer answer_with table_scan whole_answer
  refused-last s = (there, λ w. rw (w.0.0, le-leb (table_size (monitor_at b)) size_limit w.0.1, w.1))
    where
      there : first_of all ≡ Err (TableState s) → SoundButStates b × (states ≡ Err (TableState s))
      there e =
          let scanned = behind_earlier (table_scan b) (first_of whole) s (scan_earlier b) e in
          let last = behind_earlier sized states s (unless_earlier (leb (table_size (monitor_at b)) size_limit) TableSize refl) scanned.1 in
          ((scanned.0, le_test _ _ TableSize last.0), last.1)

  pub refuses_unreached : RefusesUnreached b (table_answer b)
  unfolding monitor_of table_parts
  refuses_unreached =
      let m : Monitor = monitor_at b in
      record {
        sound = (
          λ v. let w = sound-last.0 (number_0 (table_answer b) 0 v) in (w.0, (states-judged m).sound.0 w.1),
          λ w. ap reading_values (sound-last.1 (w.0, (states-judged m).sound.1 w.1)),
        );
        refused = λ s. (
          λ v. let w = (refused-last s).0 (number_17 (table_answer b) s v) in (w.0, ((states-judged m).refused s).0 w.1),
          λ w. ap reading_values ((refused-last s).1 (w.0, ((states-judged m).refused s).1 w.1)),
        );
      }
