-- What the forward pass came to, turned into a verdict; and judging a sound recording from a cleared scratch.
use Prim.Native.Nat.{ℕ, ◌+◌, ◌-◌, ◌*◌, ◌≤◌}
use native.Mathlib.Omega.{arith}
use mathlib.Core.Path.{◌≡◌, refl, sym, ap, subst, ◌∙◌}
use mathlib.Core.List.{List}
use lib.ListN.{length, take, drop, replicate, length-take, length-replicate}
use Rattle.model.specs.Monitor.{Monitor}
use Rattle.model.specs.Room.{over}
use Rattle.model.specs.Recording.{packets_at}
use Rattle.model.specs.Witness.{witness_bytes}
use Rattle.model.specs.Validation.{preferred}
use Rattle.model.specs.declared.Edition.{Edition}
use Rattle.model.specs.declared.Verdict.{Verdict}
use Rattle.model.specs.declared.Verdict.TheVariants.{Accepted, Rejected, Exhausted}
use Rattle.model.proofs.RecordingForm.{sound_table}
use Rattle.model.proofs.RuledForm.{recording_sound}
use Rattle.bits.specs.Member.{mem}
use Rattle.bits.proofs.Laws.{mem_zeros}
use Rattle.monitor.specs.From.{offsets_of}
use Rattle.measures.specs.declared.Measures.{Measures}
use Rattle.measures.specs.Setting.{monitor_by, Setting, Triggers}
use Rattle.forward.specs.Forwarding.{Forwarding, Through, Ended}
use Rattle.images.specs.Buffers.{Sized}
use Rattle.engine.specs.Rooms.{Rooms}
use Rattle.engine.specs.Judging.{Judging, Ending, Concluded, Settled}
use Rattle.forward.specs.declared.Outcome.{Outcome}
use Rattle.forward.specs.declared.Outcome.TheVariants.{Passed, Emptied, Spent}
use Rattle.measures.proofs.Grounds.{setting, triggers}

module _ (edition : Edition) (table offsets recording scratch room : List ℕ) (g : Measures) (budget : ℕ) (o : Outcome) (e : Ending edition table offsets recording scratch room g budget o) where
  pub spent : (instant : ℕ) → o ≡ Spent instant → Concluded edition (monitor_by g table) recording budget scratch room scratch room (Exhausted budget instant)
  spent instant same =
      record { long = refl; answered = sym (subst (Ended (monitor_by g table) recording scratch budget g.row g.last) same e.ended); written = refl }

  pub emptied : (cost instant early late : ℕ) → o ≡ Emptied cost instant early late → Concluded edition (monitor_by g table) recording budget scratch room scratch room (Rejected cost instant early late)
  emptied cost instant early late same =
      record { long = refl; answered = sym (subst (Ended (monitor_by g table) recording scratch budget g.row g.last) same e.ended); written = refl }

  pub through : (cost : ℕ) → o ≡ Passed cost → Through (monitor_by g table) recording scratch budget g.row g.last cost
  through cost same = subst (Ended (monitor_by g table) recording scratch budget g.row g.last) same e.ended

  pub passed : (cost : ℕ) → o ≡ Passed cost → (scratch_then room_then : List ℕ) (rows : ℕ) → length scratch_then ≡ length scratch
      → rows ≡ length (preferred (monitor_by g table) (packets_at recording))
      → room_then ≡ over (witness_bytes edition (preferred (monitor_by g table) (packets_at recording))) room
      → Concluded edition (monitor_by g table) recording budget scratch room scratch_then room_then (Accepted cost rows)
  passed cost same scratch_then room_then rows long count written =
      record {
        long = long;
        answered = ap (Accepted cost) count ∙ sym (through cost same).accepted;
        written = written;
      }

-- the scratch may have been another of that length
pub concluded_from : (edition : Edition) (m : Monitor) (recording : List ℕ) (budget : ℕ) (before scratch room scratch_then room_then : List ℕ) (v : Verdict) → length scratch ≡ length before
    → Concluded edition m recording budget scratch room scratch_then room_then v → Concluded edition m recording budget before room scratch_then room_then v
concluded_from edition m recording budget before scratch room scratch_then room_then v same c = record { long = c.long ∙ same; answered = c.answered; written = c.written }

module _ (edition : Edition) (table recording scratch room : List ℕ) (g : Measures) (j : Judging edition table recording scratch room g) where
  grounds : (offsets : List ℕ) → offsets ≡ offsets_of table → Setting table offsets recording g
  grounds offsets e = subst (λ (l : List ℕ). Setting table l recording g) (sym e) (setting table recording g j.sound j.measured)

  pub forwarding : (offsets cleared : List ℕ) → offsets ≡ offsets_of table → cleared ≡ replicate (length scratch) 0
      → Forwarding table offsets recording cleared g
  forwarding offsets cleared found zero =
      record {
        setting = grounds offsets found;
        long = subst (λ (n : ℕ). g.row * (g.last + 1) ≤ n) (sym (ap length zero ∙ length-replicate (length scratch) 0)) j.long;
        empty = λ k. ap (λ (s : List ℕ). mem s k) zero ∙ mem_zeros (length scratch) k;
      }

  pub ending : (offsets after : List ℕ) (budget : ℕ) (o : Outcome) → offsets ≡ offsets_of table
      → Ended (monitor_by g table) recording after budget g.row g.last o → Ending edition table offsets recording after room g budget o
  ending offsets after budget o found ended =
      record {
        setting = grounds offsets found;
        triggers = subst (Triggers table) (sym found) (triggers table (sound_table table recording (recording_sound g.shape.rule table recording j.sound)));
        roomy = j.roomy;
        ended = ended;
      }

  pub settled : (budget : ℕ) (v : Verdict) (before after scratch_then room_then : List ℕ) → length before ≡ length scratch
      → Concluded edition (monitor_by g table) recording budget before room after room_then v → scratch_then ≡ replicate (length after) 0
      → Settled edition (monitor_by g table) recording budget scratch room scratch_then room_then v
  settled budget v before after scratch_then room_then long c zero =
      record {
        answered = c.answered;
        cleared = zero ∙ ap (λ (n : ℕ). replicate n 0) (c.long ∙ long);
        written = c.written;
      }

-- arrays of zeros for sets of k words have room for sets of n words
pub rooms : (k n : ℕ) → n ≤ k → k ≤ 1024
    → Rooms n (replicate (80 * k) 0) (take (4 * n - 0) (drop 0 (replicate (4 * k) 0))) (take (n - 0) (drop 0 (replicate k 0))) (take (n - 0) (drop 0 (replicate k 0)))
    (take (4 * n - 0) (drop 0 (replicate (4 * k) 0))) (take (n - 0) (drop 0 (replicate k 0))) (take (n - 0) (drop 0 (replicate k 0)))
rooms k n fits few =
    let four : length (take (4 * n - 0) (drop 0 (replicate {A = ℕ} (4 * k) 0))) ≡ 4 * n = part (4 * k) (4 * n) (omega arith) in
    let one : length (take (n - 0) (drop 0 (replicate {A = ℕ} k 0))) ≡ n = part k n fits in
    let sized : Sized n (take (4 * n - 0) (drop 0 (replicate (4 * k) 0))) (take (n - 0) (drop 0 (replicate k 0))) (take (n - 0) (drop 0 (replicate k 0))) =
    record { few = omega arith; four = four; first = one; second = one }
    in
    record { guards = omega (arith, length-replicate {A = ℕ} (80 * k) 0); marked = sized; sized = sized; current = one; single = one }
  where
    part : (k n : ℕ) → n ≤ k → length (take (n - 0) (drop 0 (replicate {A = ℕ} k 0))) ≡ n
    part k n fits = omega (arith, length-take (n - 0) (drop 0 (replicate {A = ℕ} k 0)), length-replicate {A = ℕ} k 0)

pub small : 16 ≤ 1024
small = omega arith

pub wide : 1024 ≤ 1024
wide = omega arith
