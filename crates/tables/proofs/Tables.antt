-- What a sound scan of a table ensures, and guards in their places.
use Prim.Native.Nat.{ℕ, ◌+◌, ◌-◌, ◌*◌, ◌≤◌, ◌<◌}
use native.Mathlib.Omega.{arith}
use native.Mathlib.Numerals.{add-one}
use mathlib.Core.Path.{◌≡◌, refl, ap}
use mathlib.Core.List.{List, [], ◌∷◌}
use lib.ListN.{length, take, drop, length-take}
use Rattle.model.specs.Limits.{table_versions, kind_limit, transition_limit, guard_limit}
use Rattle.model.specs.Bytes.{joined, padded}
use Rattle.model.specs.First.{and_then, first_of, read_as, answer_of, Reading}
use Rattle.model.specs.Answers.{Reads, RefusesUnreached}
use Rattle.model.specs.Devices.{JudgesDevices}
use Rattle.model.specs.Numbers.{reading_values}
use Rattle.model.specs.Frame.{framed}
use Rattle.model.proofs.AnswerLaws.{table_reads}
use Rattle.model.specs.Table.{table_counts, transition_records, states_at, variables_at, clocks_at, kinds_at, transitions_at, transition_at, guard_length_at, guard_place, kind_records, device_column, scan_with, table_scan, whole_answer, answer_with, table_answer, table_parts, read_table, monitor_of}
use Rattle.model.specs.declared.Edition.TheVariants.{One}
use Rattle.model.specs.declared.Refusal.TheVariants.{TableFrame, TableVersion}
use Rattle.std.specs.Prelude.{Result, Ok, Err}
use Rattle.model.specs.declared.TableParts.{TableParts}
use Rattle.model.specs.declared.Refusal.{Refusal}
use Rattle.model.proofs.TableForm.{TableFacts, scan_facts, places}
use Rattle.wire.specs.Placed.{placed}
use Rattle.columns.proofs.Columns.{joined-long, place-more}
use Rattle.scan.proofs.Scans.{counts_bound}
use Rattle.model.proofs.Tests.{then_sound}

module _ (b : List ℕ) where
  -- 16 and 17 come after the scan
  pub scan_all : (devices : List ℕ) → answer_with devices b ≡ and_then (scan_with devices b) (whole_answer (monitor_of (table_parts b)))
  unfolding answer_with
  scan_all devices = simp then_sound

  -- the scan asks for devices only where there are no more kinds than a sound table has
  same_scan : (d e : List ℕ) → (kinds_at b ≤ kind_limit → d ≡ e) → scan_with d b ≡ scan_with e b
  unfolding scan_with
  same_scan d e same = ap (and_then (framed One b 8 1 table_versions TableFrame TableVersion)) (go (table_counts b) refl)
    where
      go :
          (counts : Reading) → table_counts b ≡ counts
          → and_then counts (first_of (kind_records d b ∷ transition_records (transitions_at b) b (transition_at b 0) ∷ []))
          ≡ and_then counts (first_of (kind_records e b ∷ transition_records (transitions_at b) b (transition_at b 0) ∷ []))
      go (Err r) q = refl
      go (Ok _) q = rw (same (counts_bound (states_at b) (variables_at b) (clocks_at b) (kinds_at b) (transitions_at b) q).0)

  -- .. of bytes as they are read

  pub scan_same : (d : List ℕ) → (kinds_at b ≤ kind_limit → d ≡ device_column b) → scan_with d b ≡ table_scan b
  unfolding table_scan
  scan_same d same = same_scan d (device_column b) same

  pub read_by : read_table b ≡ read_as (and_then (table_scan b) (whole_answer (monitor_of (table_parts b)))) (table_parts b)
  unfolding read_table table_answer table_scan
  read_by = rw (scan_all (device_column b))

  pub read_judged : (x : Result TableParts Refusal) → x ≡ read_table b
      → Reads (table_answer b) (table_parts b) x × RefusesUnreached b (answer_of x) × JudgesDevices (table_parts b) b (reading_values (answer_of x))
  read_judged x e = (table_reads b x e).1

  module _ (sound : table_scan b ≡ Ok tt) where
    facts : TableFacts (device_column b) b
    unfolding table_scan
    facts = scan_facts (device_column b) b sound

    pub scan_bounds : (kinds_at b ≤ kind_limit) × (transitions_at b ≤ transition_limit)
    scan_bounds = (facts.counts.kinds, facts.counts.transitions)

    scan-guard : (j : ℕ) → j < transitions_at b → (guard_length_at b (transition_at b j) ≤ guard_limit) × (transition_at b j + 7 + guard_length_at b (transition_at b j) ≤ length b)
    scan-guard j h = let t = facts.transition j h in (t.few, t.fits)

-- where the next record starts
pub next_at : (b : List ℕ) (at i l : ℕ) → at ≡ transition_at b i → l ≡ guard_length_at b at → at + 7 + l ≡ transition_at b (i + 1)
unfolding transition_at
next_at b at i l e h = rw (h, e, add-one)

place_is : (b : List ℕ) (i at l : ℕ) → at ≡ transition_at b i → l ≡ guard_length_at b at → guard_place b i ≡ padded guard_limit (take l (drop (at + 7) b))
unfolding guard_place
place_is b i at l starts long = rw (long, starts)

-- the guard of record i, which starts at an offset and has a length
module _ (b : List ℕ) (sound : table_scan b ≡ Ok tt) (i at l : ℕ) (within : i < transitions_at b) (starts : at ≡ transition_at b i) (long : l ≡ guard_length_at b at) where
  pub guard_inside : (l ≤ guard_limit) × (at + 7 + l ≤ length b)
  guard_inside = rw (long, starts) (scan-guard b sound i within)

  pub guard_turn : (guards : List ℕ) → guards ≡ padded (guard_limit * transition_limit) (joined (guard_place b) i)
      → placed (take (at + 7 + l - (at + 7)) (drop (at + 7) b)) (guard_limit * i) guards ≡ padded (guard_limit * transition_limit) (joined (guard_place b) (i + 1))
  guard_turn guards e =
      let all : at + 7 + l - (at + 7) ≡ l = omega arith in
      let few : transitions_at b ≤ transition_limit = (scan_bounds b sound).1 in
      let short : length (take l (drop (at + 7) b)) ≤ guard_limit = omega (arith, guard_inside.0, length-take l (drop (at + 7) b)) in
      let before = joined-long (guard_place b) guard_limit i (λ j h. places b (facts b sound) j (omega arith)) in
      rw (all, e) (place-more (guard_limit * transition_limit) guard_limit (guard_place b) (take l (drop (at + 7) b)) i (omega arith) short before (place_is b i at l starts long))
