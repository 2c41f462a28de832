-- The pairs that the code counts in a row of the scratch are those of the definition.
use Prim.Native.Nat.{ℕ, zero, suc, ◌+◌, ◌-◌, ◌*◌, ◌<◌, min}
use native.Mathlib.Omega.{arith}
use mathlib.Core.Path.{◌≡◌, refl, sym, ap, ap₂, ◌∙◌}
use mathlib.Core.List.{List}
use mathlib.Core.Bool.{Bool, ◌&&◌}
use Rattle.std.specs.Prelude.{Option}
use lib.ListN.{length}
use Rattle.model.specs.Limits.{size_limit}
use Rattle.model.specs.Monitor.{Monitor, tried}
use Rattle.model.specs.Table.{monitor_at}
use Rattle.model.specs.Recording.{packets_at}
use Rattle.model.specs.Situation.{recorded_at, situation_of}
use Rattle.model.specs.Pairs.{pairs, is_answer, answer_in, is_pair}
use Rattle.model.specs.Validation.{pairs_at}
use Rattle.model.specs.declared.Readiness.{Readiness}
use Rattle.model.specs.declared.Readiness.TheVariants.{NotYet, NoMore}
use Rattle.model.specs.declared.Situation.{Situation}
use Rattle.monitor.specs.From.{transition_count}
use Rattle.situation.specs.Rows.{heard_at}
use Rattle.situation.specs.Numbering.{situation_by}
use Rattle.situation.proofs.Cursors.{heard_recorded}
use Rattle.pairs.specs.Pairing.{answers_in_row, CountedIn}
use Rattle.pairs.specs.declared.Pairs.{Pairs}
use Rattle.pairs.proofs.PairCounts.{same_pass}
use Rattle.measures.specs.declared.Measures.{Measures}
use Rattle.forward.specs.declared.Outcome.TheVariants.{Emptied}
use Rattle.measures.specs.Setting.{monitor_by}
use Rattle.forward.specs.Forwarding.{Emptying, emptied_at}
use Rattle.measures.proofs.Rows.{size_of, possible}

same-pairs : (p q : ℕ → ℕ → Bool) (n l : ℕ) → ((k j : ℕ) → k < n → p k j ≡ q k j) → pairs p n l ≡ pairs q n l
unfolding pairs
same-pairs p q zero l h = refl
same-pairs p q (suc n) l h =
    ap₂ (λ (x y : ℕ). x + y) (same-pairs p q n l (λ k j b. h k j (omega arith))) (same_pass (p n) (q n) l (λ j. h n j (omega arith)))

module _ {table offsets recording scratch : List ℕ} {g : Measures} {t i : ℕ} (given : Emptying table offsets recording scratch g t i) (heard : Option ℕ) (e : heard ≡ heard_at recording i (t + 1)) where
  abbrev m : Monitor
  m = monitor_by g table

  recorded : heard ≡ recorded_at (packets_at recording) (t + 1)
  recorded = e ∙ heard_recorded m recording given.setting.sound.trace given.cursor

  -- what a transition answers does not go by the rule
  same_asked : (a : Readiness) (o : Option ℕ) (s : Situation) (j : ℕ) → is_answer a (answer_in (monitor_at table) o s j) ≡ is_answer a (answer_in m o s j)
  unfolding answer_in tried
  same_asked a o s j = refl

  one_pair : (a : Readiness) (n j : ℕ) → n < g.size
      → answers_in_row table offsets g.shape heard scratch (8 * g.row * t) a n j ≡ is_pair m (possible m recording t) (recorded_at (packets_at recording) (t + 1)) a n j
  one_pair a n j inside =
      ap₂ ◌&&◌
      (given.layers t (omega arith) n (omega (arith, given.setting.wide)))
      (ap (λ (x : Monitor). is_answer a (answer_in x heard (situation_by g.shape n) j)) given.setting.described
      ∙ same_asked a heard (situation_by g.shape n) j
      ∙ ap (λ (s : Situation). is_answer a (answer_in m heard s j)) (given.setting.situations n inside)
      ∙ ap (λ (o : Option ℕ). is_answer a (answer_in m o (situation_of m n) j)) recorded)

  all-pairs : (a : Readiness) → pairs (answers_in_row table offsets g.shape heard scratch (8 * g.row * t) a) (min g.size size_limit) (transition_count table) ≡ pairs_at m (packets_at recording) a (t + 1)
  unfolding pairs_at
  all-pairs a =
      let whole : min g.size size_limit ≡ size_of m = omega (arith, given.setting.wide, given.setting.narrow, given.setting.whole) in
      let instant : t + 1 - 1 ≡ t = omega arith in
      ap₂ (λ (x y : ℕ). pairs (answers_in_row table offsets g.shape heard scratch (8 * g.row * t) a) x y) whole given.setting.counted
      ∙ same-pairs _ _ (size_of m) (length m.transitions) (λ n j b. one_pair a n j (omega (arith, given.setting.whole)))
      ∙ ap (λ (x : ℕ). pairs (is_pair m (possible m recording x) (recorded_at (packets_at recording) (t + 1)) a) (size_of m) (length m.transitions)) (sym instant)

  pub emptied_pairs : (cost : ℕ) (r : Pairs) → CountedIn (answers_in_row table offsets g.shape heard scratch (8 * g.row * t)) g.size (transition_count table) r
      → Emptied cost (t + 1) r.early r.late ≡ emptied_at m recording cost t
  emptied_pairs cost r c = ap₂ (λ (x y : ℕ). Emptied cost (t + 1) x y) (c.early ∙ all-pairs NotYet) (c.late ∙ all-pairs NoMore)
