-- Marks and planes are what the passes work with.
use Prim.Native.Nat.{ℕ, ◌+◌, ◌*◌, ◌/◌, ◌≤◌}
use native.Mathlib.Nat.{mul_assoc}
use native.Mathlib.Omega.{arith}
use mathlib.Core.Path.{◌≡◌, ap, ◌∙◌}
use mathlib.Core.List.{List}
use lib.ListN.{length}
use Rattle.words.specs.Words.{mem}
use Rattle.monitor.specs.From.{transition_from, transition_count}
use Rattle.firings.specs.Ready.{Guarded, Marked, apart_by}
use Rattle.firings.proofs.GuardLaws.{planned_guards}
use Rattle.planes.specs.Numbering.{holds_by}
use Rattle.planes.specs.Planes.{Planes}
use Rattle.planes.proofs.Tables.{room-sound}
use Rattle.images.specs.Living.{numbers_of}
use Rattle.images.proofs.Plans.{numbers-is, numbers-within}
use Rattle.measures.specs.declared.Measures.{Measures}
use Rattle.measures.specs.Setting.{monitor_by}
use Rattle.measures.specs.Working.{Working, Preparing}

module _ {table offsets : List ℕ} {g : Measures} (p : Preparing table offsets g) where
  -- the words of one guard's planes
  abbrev words : ℕ
  words = (numbers_of g.shape + 63) / 64

  pub numbers-few : numbers_of g.shape ≤ 65536
  numbers-few = omega (arith, p.ready.narrow, numbers-is p.ready, numbers-within p.ready)

  pub words-few : words ≤ g.words
  words-few = omega (arith, p.ready.wide, numbers-is p.ready, numbers-within p.ready)

  guarded : (before planes : List ℕ) → 80 * g.words ≤ length before
      → Planes g.shape.first g.shape.second words table offsets (transition_count table) before planes → Guarded (monitor_by g table) planes
  unfolding holds_by transition_from
  guarded before planes long made =
      planned_guards p.ready planes
      (λ j l x near.
      ap (mem planes) (place j x) ∙ made.all j l (room-sound words j (length before) table _ (omega arith) (p.short j l) (omega (arith, words-few))) x (omega (arith, numbers-is p.ready)))
    where
      place : (j x : ℕ) → apart_by (monitor_by g table) * j + x ≡ 64 * (words * j) + x
      place j x = ap (λ (k : ℕ). 64 * ((k + 63) / 64) * j + x) (numbers-back (numbers-is p.ready)) ∙ ap (λ (k : ℕ). k + x) (mul_assoc 64 words j)
        where
          numbers-back : {a b : ℕ} → a ≡ b → b ≡ a
          numbers-back e = cc

  pub working : (before planes marks : List ℕ) → 80 * g.words ≤ length before → length marks ≡ 4 * g.words → Marked (monitor_by g table) g.words marks
      → Planes g.shape.first g.shape.second words table offsets (transition_count table) before planes → Working table offsets g marks planes
  working before planes marks long four marked made =
      record { ready = p.ready; marked = marked; long = omega (arith, four); guarded = guarded before planes long made }
