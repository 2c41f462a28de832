-- Pruning, from an instant to that before it: the row is read into words, cut by an instant backward, and written back.
use Prim.Native.Nat.{ℕ, ◌+◌, ◌-◌, ◌*◌, ◌≤◌, ◌<◌}
use native.Mathlib.Decide.{dec_lt}
use native.Mathlib.Omega.{arith}
use mathlib.Core.Path.{◌≡◌, refl, sym, ap, ◌∙◌}
use mathlib.Core.Logic.{inl, inr}
use mathlib.Core.List.{List}
use mathlib.Core.Bool.{Bool, true, false, ◌&&◌}
use Rattle.std.specs.Prelude.{Option}
use lib.ListN.{length, get_or, get_or-replicate}
use Rattle.model.specs.Monitor.{Monitor}
use Rattle.model.specs.Recording.{count_at, packets_at}
use Rattle.model.specs.Layers.{live}
use Rattle.model.specs.Situation.{recorded_at}
use Rattle.bits.specs.Member.{mem}
use Rattle.bits.proofs.Laws as bits
use Rattle.words.specs.Words as Words
use Rattle.words.specs.Words.{Is}
use Rattle.words.proofs.Sets.{mem-past}
use Rattle.rows.specs.Bytes.{Is8}
use Rattle.instants.specs.Backward.{backward}
use Rattle.instants.specs.Sourced.{Sourced}
use Rattle.images.specs.Advanced.{Within, RetreatedTo}
use Rattle.images.specs.Buffers.{Sized}
use Rattle.memo.specs.Known.{KnownBack}
use Rattle.situation.specs.Rows.{heard_at, Cursor}
use Rattle.situation.proofs.Cursors.{heard_recorded}
use Rattle.measures.specs.declared.Measures.{Measures}
use Rattle.measures.specs.Setting.{monitor_by, Setting, LayersUpTo}
use Rattle.measures.proofs.Rows.{size_of, possible, row_before, row-end, row_at, row_put, RowIs, row-mem, row-length, row-stored}
use Rattle.backward.specs.PruneRows.{cursor_before, remains, PrunedRow, PrunedTo}
use Rattle.backward.proofs.PruneCursors.{last-cursor, back-cursor}
use Rattle.backward.proofs.PruneLayers.{past-size, reached}

and_true : (a : Bool) → a && true ≡ a
and_true true = refl
and_true false = refl

module _ (table offsets recording : List ℕ) (g : Measures) (set : Setting table offsets recording g) where
  abbrev m : Monitor
  m = monitor_by g table

  -- at the last instant the end is reached
  pub remains-last : (z : ℕ) → z < g.size → remains m recording g.last g.last z ≡ get_or (possible m recording g.last) z false
  unfolding live
  remains-last z l =
      let none_left : g.last - g.last ≡ 0 = omega arith in
      rw (none_left, get_or-replicate (size_of m) z true false (omega (arith, set.whole))) (and_true _)

  -- the last row is read into words
  pub pruned-last : {scratch old next row sets one two memo : List ℕ} → LayersUpTo m recording scratch g.row g.last → length old ≡ g.words → length row ≡ g.words
      → Sized g.words sets one two → KnownBack m g.words memo → g.size ≤ 64 * g.words → Is (mem (row_at scratch g.row g.last)) old next
      → PrunedTo m g recording g.last (count_at recording) scratch next row sets one two memo
  pruned-last {scratch} {old} {next} layers words single sized known wide loaded =
      record {
        before = λ u l. layers u (omega arith);
        from = λ u l h. let e : u ≡ g.last = omega arith in rw e last;
        cursor = rw set.end (last-cursor m recording set.sound.trace);
        holds = λ z l. loaded.all z (omega arith) ∙ row-mem scratch g.row g.last z (omega (arith, set.wide)) ∙ last z l;
        words = loaded.size ∙ words;
        single = single;
        sized = sized;
        known = known;
      }
    where
      last : PrunedRow m recording scratch g.row g.size g.last g.last
      last z l = layers g.last (omega arith) z (omega (arith, set.wide)) ∙ sym (remains-last z l)

  module _
      (sourced : Sourced m) (wide : g.size ≤ 64 * g.words) {t j : ℕ} {scratch next row sets one two memo : List ℕ} (more : t < g.last) (long : g.row * (g.last + 1) ≤ length scratch)
      (to : PrunedTo m g recording (t + 1) j scratch next row sets one two memo) {row₁ : List ℕ} (loaded : Is (mem (row_at scratch g.row t)) row row₁)
    where
      fits : g.row * t + g.row ≤ length scratch
      fits = omega (arith, row-end g.row t g.last (omega arith))

      -- the words hold the situations possible after instant t

      in_words : (z : ℕ) → z < 64 * g.words → Words.mem row₁ z ≡ get_or (possible m recording t) z false
      in_words z h = loaded.all z (omega (arith, to.single)) ∙ by (dec_lt z (8 * g.row))
        where
          by : Dec (z < 8 * g.row) → mem (row_at scratch g.row t) z ≡ get_or (possible m recording t) z false
          by (yes l) = row-mem scratch g.row t z l ∙ to.before t (omega arith) z l
          by (no l) =
              bits.mem-past (row_at scratch g.row t) z (omega (arith, row-length scratch g.row t fits)) ∙ sym (past-size table offsets recording g set t z (omega (arith, set.wide)))

      pub within : Within g.size g.words row₁
      within = record { words = loaded.size ∙ to.single; past = λ i l. by i l (dec_lt i (64 * g.words)) }
        where
          by : (i : ℕ) → g.size ≤ i → Dec (i < 64 * g.words) → Words.mem row₁ i ≡ false
          by i l (yes h) = in_words i h ∙ past-size table offsets recording g set t i l
          by i l (no h) = mem-past row₁ i (omega (arith, loaded.size, to.single))

      -- what an instant backward keeps of them is what remains
      kept : (row₂ : List ℕ) → RetreatedTo m (recorded_at (packets_at recording) (t + 1)) g.words next row₁ row₂ → (z : ℕ) → z < g.size
          → Words.mem row₂ z ≡ remains m recording g.last t z
      kept row₂ retreated z l = retreated z (omega (arith, wide)) ∙ rw (in_words z (omega (arith, wide))) (on (get_or (possible m recording t) z false) refl)
        where
          on : (here : Bool) → get_or (possible m recording t) z false ≡ here
              → (get_or (possible m recording t) z false && backward m (recorded_at (packets_at recording) (t + 1)) (Words.mem next) z) ≡ remains m recording g.last t z
          on true p =
              let same = reached m recording set.sane sourced more (Words.mem next) (λ y h. to.holds y (omega (arith, set.whole))) z p in
              ap (λ (b : Bool). get_or (possible m recording t) z false && b) same
          on false p = rw p refl

      pub turned : {now : ℕ} {heard : Option ℕ} {row₂ sets₁ one₁ two₁ memo₁ cut next₁ : List ℕ} → now ≡ cursor_before recording j (t + 1) → heard ≡ heard_at recording now (t + 1)
          → length row₂ ≡ length row₁ → Sized g.words sets₁ one₁ two₁ → RetreatedTo m heard g.words next row₁ row₂ × KnownBack m g.words memo₁
          → Is8 (Words.mem row₂) (row_at scratch g.row t) cut → Is (Words.mem row₂) next next₁
          → PrunedTo m g recording t now (row_put scratch g.row t cut) next₁ row₂ sets₁ one₁ two₁ memo₁
      turned {now} {heard} {row₂} {cut = cut} back told long₂ sized (retreated, known) stored copied =
          record {
            before = λ u l z i. put.others (8 * g.row * u + z) (inl (omega (arith, row_before (8 * g.row) u t l))) ∙ to.before u (omega arith) z i;
            from = λ u n o z l. behind u n o z l (dec_lt t u);
            cursor = at;
            holds = λ z l. copied.all z (omega (arith, wide, to.words)) ∙ remain z l;
            words = copied.size ∙ to.words;
            single = long₂ ∙ loaded.size ∙ to.single;
            sized = sized;
            known = known;
          }
        where
          at : Cursor recording now (t + 1)
          at = rw back (back-cursor m recording set.sound.trace to.cursor)

          put : RowIs (Words.mem row₂) g.row t scratch (row_put scratch g.row t cut)
          put = row-stored scratch g.row t fits stored

          remain : (z : ℕ) → z < g.size → Words.mem row₂ z ≡ remains m recording g.last t z
          remain = kept row₂ (rw (told, heard_recorded m recording set.sound.trace at) at retreated)

          behind : (u : ℕ) → t ≤ u → u ≤ g.last → (z : ℕ) → z < g.size → Dec (t < u) → mem (row_put scratch g.row t cut) (8 * g.row * u + z) ≡ remains m recording g.last u z
          behind u n o z l (yes d) = put.others (8 * g.row * u + z) (inr (omega (arith, row_before (8 * g.row) t u d))) ∙ to.from u (omega arith) o z l
          behind u n o z l (no d) = let e : u ≡ t = omega arith in rw e (put.here z (omega (arith, set.wide)) ∙ remain z l)
