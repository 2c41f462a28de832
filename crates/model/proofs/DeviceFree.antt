-- Without a rule no demand asks for devices: a monitor with others, or with a rule for another one that forbids nothing either, gives the same verdict, witness and
-- checking.
use Prim.Native.Nat.{ℕ, suc, ◌-◌, ◌≤◌}
use mathlib.Core.Path.{◌≡◌, refl, sym, ap, ap₂, fun_ext, ◌∙◌}
use mathlib.Core.List.{List, [], ◌∷◌, ◌++◌}
use mathlib.Core.Bool.{Bool, true, false}
use Rattle.std.specs.Prelude.{Option, Some, None}
use Rattle.std.specs.Option.{option_map, option_and_then}
use lib.ListN.{length}
use lib.Dec.{ltb}
use Rattle.model.specs.Monitor.{Monitor, wait, fires, tried, is_guess, within_rule}
use Rattle.model.specs.Trace.{Packet}
use Rattle.model.specs.Size.{cap, table_size, size}
use Rattle.model.specs.Recording.{packets_at, end_of}
use Rattle.model.specs.Layers as L
use Rattle.model.specs.Situation.{Move, keep, rest, add, config_of, capped, on_air, trigger_of, sent, missed, moved, tick, step_by, recorded_at, move_of, move_limit, number, situation_of, step_number, first_number}
use Rattle.model.specs.Pairs.{pairs, answer_in, is_pair}
use Rattle.model.specs.declared.Readiness.{Readiness}
use Rattle.model.specs.declared.Readiness.TheVariants.{NotYet, NoMore}
use Rattle.model.specs.declared.Situation.{Situation}
use Rattle.model.specs.declared.Verdict.{Verdict}
use Rattle.model.specs.declared.Verdict.TheVariants.{Accepted, Rejected, Exhausted}
use Rattle.model.specs.First.{Reading, read_as}
use Rattle.model.specs.Witness.{Row, rows_at}
use Rattle.model.specs.Rules.{Progress, begin, others, behind_row, guessed, sends, removes, keeps, adds, account, broken, check_refusal}
use Rattle.model.specs.Validation.{rows_by, rows_of, moves_of, preferred, pairs_at, verdict, refusal_of, validation_of, scratch_left, room_left}
use Rattle.model.specs.declared.Edition.{Edition}
use Rattle.model.proofs.RuleLaws.{allows-all, behind_one}

-- a monitor with these devices, and a rule for this one
abbrev pub with_devices : List ℕ → ℕ → Monitor → Monitor
with_devices devices d m =
    record {
      states = m.states;
      variables = m.variables;
      clocks = m.clocks;
      inbound = m.inbound;
      airtimes = m.airtimes;
      devices = devices;
      transitions = m.transitions;
      rule = record { device = d; window = m.rule.window; most = m.rule.most };
    }

-- where the rule forbids nothing, a sent row is a fired one
module _ (m : Monitor) (one : m.rule.window ≡ 1) (any : 1 ≤ m.rule.most) where
  sent_plain : (guess : Bool) (j k : ℕ) (s : Situation) → sent m guess j k s ≡ on_air m k s 0 (fires m j k (config_of s))
  unfolding sent within_rule
  sent_plain guess j k s = rw (allows-all m.rule s.window guess one any, behind_one m.rule s.window guess one)

  sends_plain : (p : Progress) (r : Row) (left : List Packet)
      → sends m p r left ≡ option_map (behind_row m r left r.time 0) (fires m r.transition r.kind (wait (r.time - p.now) p.config))
  unfolding sends within_rule
  sends_plain p r left = rw (allows-all m.rule p.window (guessed m r) one any, behind_one m.rule p.window (guessed m r) one)

module _ (devices : List ℕ) (d : ℕ) (m : Monitor) where
  pub same_size : size (with_devices devices d m) ≡ size m
  unfolding size table_size cap
  same_size = refl

module _ (devices : List ℕ) (d : ℕ) (m : Monitor) (one : m.rule.window ≡ 1) (any : 1 ≤ m.rule.most) where
  abbrev other : Monitor
  other = with_devices devices d m

  same_sent : (g h : Bool) (j k : ℕ) (s : Situation) → sent other g j k s ≡ sent m h j k s
  unfolding fires
  same_sent g h j k s = sent_plain other one any g j k s ∙ sym (sent_plain m one any h j k s)

  same-moved : (recorded : Option ℕ) (s : Situation) (a : Move) → moved other recorded s a ≡ moved m recorded s a
  unfolding moved missed
  same-moved None s (keep j) = refl
  same-moved None s rest = refl
  same-moved None s (add j) = ap (λ (f : ℕ → Option Situation). option_and_then f (trigger_of m j)) (fun_ext (λ k. same_sent (is_guess other k) (is_guess m k) j k s))
  same-moved (Some k) s (keep j) = same_sent false false j k s
  same-moved (Some k) s rest = refl
  same-moved (Some k) s (add j) = refl

  same_step : (recording : List Packet) → step_number other recording ≡ step_number m recording
  unfolding step_number step_by number situation_of cap capped
  same_step recording =
      fun_ext (λ t. fun_ext (λ n. fun_ext (λ k.
      ap (λ (o : Option Situation). option_map (number m) (option_map (tick (capped m)) o)) (same-moved (recorded_at recording t) (situation_of m n) (move_of k)))))

  same_row : (recorded : Option ℕ) (t : ℕ) (a : Move) → rows_by other recorded t a ≡ rows_by m recorded t a
  unfolding rows_by
  same_row recorded t (keep j) = refl
  same_row recorded t rest = refl
  same_row recorded t (add j) = refl

  same_rows : (recording : List Packet) (t : ℕ) (ks : List ℕ) → rows_of other recording t ks ≡ rows_of m recording t ks
  unfolding rows_of
  same_rows recording t [] = refl
  same_rows recording t (k ∷ ks) = ap₂ (λ (a b : List Row). a ++ b) (same_row (recorded_at recording t) t (move_of k)) (same_rows recording (suc t) ks)

  pub same-preferred : (recording : List Packet) → preferred other recording ≡ preferred m recording
  unfolding preferred size table_size cap number capped
  same-preferred recording =
      ap (λ (f : ℕ → ℕ → ℕ → Option ℕ). rows_of other recording 1 (L.least_moves (size m) move_limit f (first_number m) (end_of recording))) (same_step recording)
      ∙ same_rows recording 1 (moves_of m recording)

  pub same-verdict : (recording : List Packet) (budget : ℕ) → verdict other recording budget ≡ verdict m recording budget
  unfolding verdict pairs_at answer_in tried size table_size cap number situation_of capped
  same-verdict recording budget = ap₂ by (same_step recording) (same-preferred recording)
    where
      by : (ℕ → ℕ → ℕ → Option ℕ) → List Row → Verdict
      by f rows =
          let cost : ℕ = L.cost (size m) move_limit f (first_number m) (end_of recording) in
          let last : ℕ = L.last_instant (size m) move_limit f (first_number m) (end_of recording) in
          let counted : Readiness → ℕ → ℕ =
          λ a i. pairs (is_pair m (L.layer (size m) move_limit f (first_number m) (i - 1)) (recorded_at recording i) a) (size m) (length m.transitions) in
          elim (ltb budget cost) [
            | true ↦ Exhausted budget (L.passing (size m) move_limit f (first_number m) (end_of recording) budget)
            | false ↦
                elim (L.is_empty (L.layer (size m) move_limit f (first_number m) last)) [
                  | true ↦ Rejected cost last (counted NotYet last) (counted NoMore last)
                  | false ↦ Accepted cost (length rows)
                ]
          ]

  same-sends : (p : Progress) (r : Row) (left : List Packet) → sends other p r left ≡ sends m p r left
  unfolding fires
  same-sends p r left = sends_plain other one any p r left ∙ sym (sends_plain m one any p r left)

  same-account : (edition : Edition) (p : Progress) (r : Row) → account edition other p r ≡ account edition m p r
  unfolding account removes keeps adds
  same-account edition p r = rw (same-sends p r (others p.left), same-sends p r p.left)

  pub same-broken : (edition : Edition) (p : Progress) (i : ℕ) (rows : List Row) → broken edition other p i rows ≡ broken edition m p i rows
  unfolding broken
  same-broken edition p i [] = refl
  same-broken edition p i (r ∷ rs) =
      ap (λ (o : Option Progress). elim o [ None ↦ Some i | Some q ↦ broken edition other q (suc i) rs ]) (same-account edition p r)
      ∙ go (account edition m p r) (λ q. same-broken edition q (suc i) rs)
    where
      go :
          (o : Option Progress) → ((q : Progress) → broken edition other q (suc i) rs ≡ broken edition m q (suc i) rs)
          → ◌≡◌ {A = Option ℕ} (elim o [ None ↦ Some i | Some q ↦ broken edition other q (suc i) rs ]) (elim o [ None ↦ Some i | Some q ↦ broken edition m q (suc i) rs ])
      go None again = refl
      go (Some q) again = again q

  -- so what is answered for any bytes is the same

  same-refusal : (given : Reading) (edition : Edition) (recording : List Packet) (scratch_length room_length : ℕ)
      → refusal_of given edition other recording scratch_length room_length ≡ refusal_of given edition m recording scratch_length room_length
  unfolding refusal_of
  same-refusal given edition recording scratch_length room_length = rw (same_size devices d m)

  pub same-validation : (given : Reading) (edition : Edition) (recording : List Packet) (budget scratch_length room_length : ℕ)
      → validation_of given edition other recording budget scratch_length room_length ≡ validation_of given edition m recording budget scratch_length room_length
  unfolding validation_of
  same-validation given edition recording budget scratch_length room_length =
      ap₂ read_as (same-refusal given edition recording scratch_length room_length) (same-verdict recording budget)

  pub same-scratch : (given : Reading) (edition : Edition) (recording : List Packet) (budget : ℕ) (scratch room : List ℕ)
      → scratch_left given edition other recording budget scratch room ≡ scratch_left given edition m recording budget scratch room
  unfolding scratch_left
  same-scratch given edition recording budget scratch room =
      rw (same-validation given edition recording budget (length scratch) (length room), same_size devices d m)

  pub same-room : (given : Reading) (edition : Edition) (recording : List Packet) (budget : ℕ) (scratch room : List ℕ)
      → room_left given edition other recording budget scratch room ≡ room_left given edition m recording budget scratch room
  unfolding room_left
  same-room given edition recording budget scratch room =
      rw (same-validation given edition recording budget (length scratch) (length room), same-preferred recording)

  pub same-checking : (given : Reading) (edition : Edition) (recording witness : List ℕ) → check_refusal given edition other recording witness ≡ check_refusal given edition m recording witness
  unfolding check_refusal
  same-checking given edition recording witness = rw (same-broken edition (begin (packets_at recording)) 0 (rows_at edition witness))
