-- The forward pass, from the first row to the verdict.
use Prim.Native.Nat.{ℕ, zero, suc, ◌+◌, ◌-◌, ◌*◌, ◌<◌, ◌≤◌}
use native.Mathlib.Nat.{not-suc-le-zero}
use native.Mathlib.Numerals.{add-one}
use native.Mathlib.Omega.{arith}
use native.Mathlib.Decide.{dec_lt, ℕ_discrete}
use mathlib.Core.Path.{◌≡◌, refl, sym, ap, ap₂, subst, ◌∙◌}
use mathlib.Core.List.{List}
use mathlib.Core.Bool.{Bool, true, false}
use lib.ListN.{length, get_or, set, replicate, take, drop, length-replicate, length-take}
use lib.Seq.{get_or-set_same, get_or-set_other}
use Rattle.model.specs.Monitor.{Monitor}
use Rattle.model.specs.Recording.{packets_at, end_of}
use Rattle.model.specs.Layers.{count, layer, total}
use Rattle.model.specs.Validation.{total_of, pairs_at, verdict, preferred}
use Rattle.model.specs.declared.Readiness.TheVariants.{NotYet, NoMore}
use Rattle.model.specs.declared.Verdict.{Verdict}
use Rattle.model.specs.declared.Verdict.TheVariants.{Accepted, Rejected, Exhausted}
use Rattle.model.proofs.Numbering.{first_number_below}
use Rattle.model.proofs.VerdictLaws.{LeftUpTo, exhausted_at, rejected_at, accepted_at}
use Rattle.bits.specs.Member.{mem, PutIn}
use Rattle.bits.proofs.Laws.{mem-past, mem_part}
use Rattle.words.specs.Words.{Is}
use Rattle.situation.specs.Rows.{passed_by}
use Rattle.situation.proofs.Cursors.{first-cursor}
use Rattle.measures.specs.declared.Measures.{Measures}
use Rattle.measures.specs.Setting.{monitor_by, Setting}
use Rattle.measures.specs.Working.{Holds}
use Rattle.forward.specs.Forwarding.{Filled, Turn, Turned, Emptying, emptied_at, Forwarding, Through, Ended}
use Rattle.measures.proofs.Rows.{next_row, possible}
use Rattle.forward.proofs.ForwardRows.{possible-past}

-- a set of none, and a set of one

none_at_lem : (n k : ℕ) → get_or (replicate n false) k false ≡ false
none_at_lem zero k = refl
none_at_lem (suc n) zero = refl
none_at_lem (suc n) (suc k) = none_at_lem n k

count_none : (n : ℕ) → count (replicate n false) ≡ 0
unfolding count
count_none zero = refl
count_none (suc n) = omega (arith, count_none n)

count_one : (n k : ℕ) → k < n → count (set (replicate n false) k true) ≡ 1
unfolding count
count_one zero k h = absurd (not-suc-le-zero h)
count_one (suc n) zero h = omega (arith, count_none n)
count_one (suc n) (suc k) h = omega (arith, count_one n k (omega arith))

-- the works of the instants 1 to t, added up, and the verdict

abbrev total_to : Monitor → (recording : List ℕ) → ℕ → ℕ
total_to m recording = total_of m (packets_at recording)

abbrev verdict_on : Monitor → (recording : List ℕ) → (budget : ℕ) → Verdict
verdict_on m recording = verdict m (packets_at recording)

-- what is known after t instants, with work ahead: none of them passed the budget or left no situation
pub record Passing (m : Monitor) (recording scratch : List ℕ) (budget row last t i cost work : ℕ) : Type 0 where
  pub within : t ≤ last
  pub filled : Filled m recording scratch row t i
  pub left : LeftUpTo m (packets_at recording) t
  pub spent : cost ≡ total_to m recording t
  pub ahead : work ≡ count (possible m recording t)
  pub fits : cost ≤ budget

-- the first situation, alone
module _ {table offsets recording : List ℕ} {g : Measures} (setting : Setting table offsets recording g) where
  first_below : g.first < g.size
  first_below = omega (arith, setting.whole, setting.start, first_number_below setting.sane)

  first-set : possible (monitor_by g table) recording 0 ≡ set (replicate g.size false) g.first true
  unfolding layer
  first-set = ap₂ (λ (n k : ℕ). set (replicate n false) k true) (sym setting.whole) (sym setting.start)

  first_count : count (possible (monitor_by g table) recording 0) ≡ 1
  first_count = ap count first-set ∙ count_one g.size g.first first_below

-- it is put into the empty scratch
module _ {table offsets recording entry : List ℕ} {g : Measures} (given : Forwarding table offsets recording entry g) {scratch : List ℕ} (into : PutIn g.first entry scratch) where
  first_holds : (z : ℕ) → mem scratch z ≡ get_or (possible (monitor_by g table) recording 0) z false
  first_holds z = on (ℕ_discrete z g.first) ∙ sym (ap (λ (s : List Bool). get_or s z false) (first-set given.setting))
    where
      on : Dec (z ≡ g.first) → mem scratch z ≡ get_or (set (replicate g.size false) g.first true) z false
      on (yes e) =
          rw e
          (into.there (omega (arith, first_below given.setting, next_row g.row g.last))
          ∙ sym (get_or-set_same (replicate g.size false) g.first true false (omega (arith, first_below given.setting, length-replicate g.size false))))
      on (no e) = into.others z e ∙ given.empty z ∙ sym (get_or-set_other (replicate g.size false) g.first z true false e ∙ none_at_lem g.size z)

  pub first-filled : Filled (monitor_by g table) recording scratch g.row 0 0
  first-filled =
      record {
        layers =
            λ u l z w.
            let e : u ≡ 0 = omega arith in
            let q : 8 * g.row * 0 + z ≡ z = omega arith in
            rw e (ap (mem scratch) q ∙ first_holds z);
        cursor = first-cursor (monitor_by g table) recording given.setting.sound.trace;
      }

  -- .. and its row is loaded
  pub first_loaded : {entered cur : List ℕ} → length entered ≡ g.words → Is (mem (take (g.row - 0) (drop 0 scratch))) entered cur → Holds g.words cur (possible (monitor_by g table) recording 0)
  first_loaded long done = record { long = done.size ∙ long; all = λ z l. done.all z (omega arith) ∙ on z (dec_lt z (8 * g.row)) }
    where
      on : (z : ℕ) → Dec (z < 8 * g.row) → mem (take (g.row - 0) (drop 0 scratch)) z ≡ get_or (possible (monitor_by g table) recording 0) z false
      on z (yes l) =
          let q : 8 * 0 + z ≡ z = omega arith in
          mem_part scratch 0 (g.row - 0) z (omega arith) ∙ ap (mem scratch) q ∙ first_holds z
      on z (no l) =
          mem-past (take (g.row - 0) (drop 0 scratch)) z (omega (arith, length-take (g.row - 0) (drop 0 scratch)))
          ∙ sym (possible-past (monitor_by g table) recording 0 z (omega arith))

-- instant by instant
module _ {table offsets recording : List ℕ} {g : Measures} (setting : Setting table offsets recording g) where
  no_total : total_to (monitor_by g table) recording 0 ≡ 0
  unfolding total
  no_total = refl

  pub started : {scratch : List ℕ} (budget : ℕ) → Filled (monitor_by g table) recording scratch g.row 0 0
      → Passing (monitor_by g table) recording scratch budget g.row g.last 0 0 0 1
  started budget filled =
      record {
        within = omega arith;
        filled = filled;
        left = λ j l. let e : j ≡ 0 = omega arith in rw e (omega (arith, first_count setting));
        spent = sym no_total;
        ahead = sym (first_count setting);
        fits = omega arith;
      }

  module _ {scratch : List ℕ} {budget t i cost work : ℕ} (pass : Passing (monitor_by g table) recording scratch budget g.row g.last t i cost work) where
    -- the end is reached
    pub through : g.last ≤ t → Through (monitor_by g table) recording scratch budget g.row g.last cost
    through l =
        let e : g.last ≡ t = omega arith in
        let q : t ≡ end_of (packets_at recording) = omega arith in
        let whole : total_to (monitor_by g table) recording (end_of (packets_at recording)) ≡ cost = sym (pass.spent ∙ ap (total_to (monitor_by g table) recording) q) in
        record {
          accepted =
              accepted_at (monitor_by g table) (packets_at recording) budget
              (subst (LeftUpTo (monitor_by g table) (packets_at recording)) q pass.left) (omega arith)
              ∙ ap (λ (c : ℕ). Accepted c (length (preferred (monitor_by g table) (packets_at recording)))) whole;
          layers = rw e pass.filled.layers;
          left = rw e (pass.left t (omega arith));
        }

    -- one instant more
    module _ (more : t < g.last) where
      next-total : total_to (monitor_by g table) recording (suc t) ≡ cost + work
      unfolding total
      next-total = omega arith

      pub turn : g.row * (g.last + 1) ≤ length scratch → Turn table offsets recording scratch g t i
      turn long = record { setting = setting; long = long; more = more; filled = pass.filled }

      pub spent : budget < cost + work → verdict_on (monitor_by g table) recording budget ≡ Exhausted budget (t + 1)
      spent over =
          exhausted_at (monitor_by g table) (packets_at recording) budget t (omega arith) pass.left (omega arith) (omega (arith, next-total))
          ∙ ap (λ (n : ℕ). Exhausted budget n) (sym (add-one t))

      module _ {after : List ℕ} {found : ℕ} (within : cost + work ≤ budget) (done : Turned (monitor_by g table) recording after g.row t i found) where
        -- the rows before the empty one are as they were
        pub emptying : Emptying table offsets recording after g t i
        emptying = record { setting = setting; more = more; layers = λ u l. done.filled.layers u (omega arith); cursor = pass.filled.cursor }

        pub emptied : found ≡ 0 → Ended (monitor_by g table) recording after budget g.row g.last (emptied_at (monitor_by g table) recording (cost + work) t)
        emptied e =
            let none : count (possible (monitor_by g table) recording (suc t)) ≡ 0 =
            ap (λ (n : ℕ). count (possible (monitor_by g table) recording n)) (sym (add-one t)) ∙ sym done.counted ∙ e
            in
            rejected_at (monitor_by g table) (packets_at recording) budget t (omega arith) pass.left (omega (arith, next-total)) none
            ∙ ap₂ (λ (c n : ℕ). Rejected c n (pairs_at (monitor_by g table) (packets_at recording) NotYet n) (pairs_at (monitor_by g table) (packets_at recording) NoMore n)) next-total (sym (add-one t))

        pub again : {j : ℕ} → j ≡ passed_by recording i (t + 1) → (found ≡ 0 → ⊥)
            → Passing (monitor_by g table) recording after budget g.row g.last (t + 1) j (cost + work) found
        again p some =
            record {
              within = omega arith;
              filled = rw p done.filled;
              left = left;
              spent = sym (ap (total_to (monitor_by g table) recording) (add-one t) ∙ next-total);
              ahead = done.counted;
              fits = within;
            }
          where
            left : LeftUpTo (monitor_by g table) (packets_at recording) (t + 1)
            left j l = on (dec_lt j (t + 1))
              where
                on : Dec (j < t + 1) → 0 < count (possible (monitor_by g table) recording j)
                on (yes b) = pass.left j (omega arith)
                on (no b) = let q : j ≡ t + 1 = omega arith in rw q (omega arith)
