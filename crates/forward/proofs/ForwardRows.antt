-- How many situations a row of the scratch holds; sets in words; and the next set, which an instant makes.
use Prim.Native.Nat.{ℕ, zero, suc, ◌+◌, ◌-◌, ◌*◌, ◌<◌, ◌≤◌}
use native.Mathlib.Nat.{not-suc-le-zero}
use native.Mathlib.Numerals.{add-one}
use native.Mathlib.Omega.{arith}
use native.Mathlib.Decide.{dec_lt}
use mathlib.Core.Path.{◌≡◌, refl, sym, ap, ◌∙◌}
use mathlib.Core.Logic.{inl, ◌↔◌}
use mathlib.Core.List.{List, [], ◌∷◌}
use mathlib.Core.Bool.{Bool, true, false, cond, false≢true}
use Rattle.std.specs.Prelude.{Option}
use mir.Syntax.{w64}
use mir.Val.{Fits}
use lib.ListN.{length, get_or, drop, length-take, get_or-eq_default}
use Rattle.model.specs.Size
use Rattle.model.specs.Monitor.{Monitor}
use Rattle.model.specs.Recording.{packets_at}
use Rattle.model.specs.Situation.{move_limit, first_number, recorded_at, step_number}
use Rattle.model.specs.Layers.{count}
use Rattle.model.proofs.Basics.{same_test}
use Rattle.model.proofs.LayerLaws.{Given, length-layer, layer_suc}
use Rattle.bits.specs.Member as bytes
use Rattle.bits.specs.Counting.{tally, Counted}
use Rattle.bits.proofs.Laws.{tally-same, tally_none, tally_le}
use Rattle.words.specs.Words.{mem}
use Rattle.words.proofs.Sets.{mem-past}
use Rattle.situation.specs.declared.Shape.{Shape}
use Rattle.situation.specs.Rows.{heard_at}
use Rattle.situation.proofs.Cursors.{passed_cursor, heard_recorded}
use Rattle.instants.specs.Forward.{forward}
use Rattle.instants.specs.Claims.{step_from, Forwards}
use Rattle.instants.proofs.ForwardLaws.{forwards}
use Rattle.firings.specs.Ready.{Ready}
use Rattle.images.specs.Buffers.{Kept}
use Rattle.images.specs.Advanced.{Within, AdvancedTo}
use Rattle.measures.specs.declared.Measures.{Measures}
use Rattle.measures.specs.Setting.{monitor_by, RowHolds, LayersUpTo}
use Rattle.measures.specs.Working.{Holds}
use Rattle.measures.specs.Roomy.{Roomy}
use Rattle.forward.specs.Forwarding.{Turn, Turned}
use Rattle.measures.proofs.Roominess.{roomy_by}
use Rattle.measures.proofs.Rows.{next_row, row_before, product, step_of, possible, row_at, RowIs, row-mem, row-length}

-- a set's count is a tally

tally_front : (p : ℕ → Bool) (n : ℕ) → tally p (suc n) ≡ cond (p 0) 1 0 + tally (λ k. p (suc k)) n
unfolding tally
tally_front p zero = refl
tally_front p (suc n) = omega (arith, tally_front p n)

count-tally : (s : List Bool) (n : ℕ) → length s ≤ n → count s ≡ tally (λ z. get_or s z false) n
unfolding count
count-tally [] n h = sym (tally_none (λ z. false) n (λ k l. refl))
count-tally (b ∷ s) zero h = absurd (not-suc-le-zero h)
count-tally (b ∷ s) (suc n) h = omega (arith, tally_front (λ z. get_or (b ∷ s) z false) n, count-tally s n (omega arith))

-- how many are in a row of at most 8,192 bytes
row_count : (scratch : List ℕ) (row t : ℕ) (s : List Bool) {found : ℕ} → row * t + row ≤ length scratch → row ≤ 8192 → RowHolds scratch row t s → length s ≤ 8 * row
    → Counted (row_at scratch row t) found → found ≡ count s
row_count scratch row t s fits narrow holds short found =
    let long : length (row_at scratch row t) ≡ row = row-length scratch row t fits in
    found.exact (omega arith)
    ∙ ap (λ (n : ℕ). tally (bytes.mem (row_at scratch row t)) (8 * n)) long
    ∙ tally-same (bytes.mem (row_at scratch row t)) (λ z. get_or s z false) (8 * row) (λ z l. row-mem scratch row t z l ∙ holds z l)
    ∙ sym (count-tally s (8 * row) short)

pub count-few : (scratch : List ℕ) (row t : ℕ) {found : ℕ} → row ≤ 8192 → Counted (row_at scratch row t) found → found ≤ 65536
count-few scratch row t narrow found =
    let short : length (row_at scratch row t) ≤ row = omega (arith, length-take (row * t + row - row * t) (drop (row * t) scratch)) in
    omega (arith, found.exact (omega arith), tally_le (bytes.mem (row_at scratch row t)) (8 * length (row_at scratch row t)))

-- z is given by the situations possible after instant t
abbrev GivenNext : Monitor → (recording : List ℕ) → (t z : ℕ) → Type 0
GivenNext m recording t z =
    Given (Size.size m) move_limit (step_of m recording) (Size.size m) (suc t) (possible m recording t) z

module _ (m : Monitor) (recording : List ℕ) (t : ℕ) where
  possible-length : length (possible m recording t) ≡ Size.size m
  possible-length = length-layer (Size.size m) move_limit (step_of m recording) (first_number m) t

  possible_next : (z : ℕ) → (get_or (possible m recording (suc t)) z false ≡ true) ↔ GivenNext m recording t z
  possible_next = layer_suc (Size.size m) move_limit (step_of m recording) (first_number m) t

  pub possible-past : (z : ℕ) → Size.size m ≤ z → get_or (possible m recording t) z false ≡ false
  possible-past z h = get_or-eq_default (possible m recording t) false (omega (arith, possible-length))

-- words that hold the situations possible after instant t
module _ {m : Monitor} {table offsets : List ℕ} {h : Shape} {size w : ℕ} (ready : Ready m table offsets h size w) (recording : List ℕ) (t : ℕ) {cur : List ℕ}
    (holds : Holds w cur (possible m recording t)) where
  held : (z : ℕ) → mem cur z ≡ get_or (possible m recording t) z false
  held z = on (dec_lt z (64 * w))
    where
      on : Dec (z < 64 * w) → mem cur z ≡ get_or (possible m recording t) z false
      on (yes l) = holds.all z l
      on (no l) =
          mem-past cur z (omega (arith, holds.long))
          ∙ sym (possible-past m recording t z (omega (arith, ready.whole, ready.wide)))

  pub within : Within size w cur
  within = record { words = holds.long; past = λ z l. held z ∙ possible-past m recording t z (omega (arith, ready.whole)) }

  low : (n : ℕ) → mem cur n ≡ true → n < Size.size m
  low n e = on (dec_lt n (Size.size m))
    where
      on : Dec (n < Size.size m) → n < Size.size m
      on (yes l) = l
      on (no l) = absurd (false≢true (sym (possible-past m recording t n (omega arith)) ∙ sym (held n) ∙ e))

  -- an instant makes of them the set of the next instant
  module _ (recorded : Option ℕ) (heard : recorded ≡ recorded_at (packets_at recording) (suc t)) where
    same_step : (n k : ℕ) → step_from m recorded n k ≡ step_of m recording (suc t) n k
    unfolding step_number
    same_step n k = ap (λ (o : Option ℕ). step_from m o n k) heard

    holds-suc : {next : List ℕ} → Kept cur next → AdvancedTo m recorded w cur next → Holds w next (possible m recording (suc t))
    holds-suc {next} kept advanced = record { long = kept ∙ holds.long; all = all }
      where
        moved : Forwards m recorded (mem cur)
        moved = forwards m ready.sane ready.sourced recorded (mem cur) low

        there : (z : ℕ) → forward m recorded (mem cur) z ≡ true → GivenNext m recording t z
        there z e =
            let (n, k, member, few, to) = (moved.given z).0 e in
            (n, k, low n member, sym (held n) ∙ member, few, sym (same_step n k) ∙ to, moved.within z e)

        back : (z : ℕ) → GivenNext m recording t z → forward m recorded (mem cur) z ≡ true
        back z (n, k, b, e, few, to, l) = (moved.given z).1 (n, k, held n ∙ e, few, same_step n k ∙ to)

        all : (z : ℕ) → z < 64 * w → mem next z ≡ get_or (possible m recording (suc t)) z false
        all z l =
            let (from, to) = possible_next m recording t z in
            same_test (mem next z) (get_or (possible m recording (suc t)) z false)
            (λ e. to (there z (sym (advanced z l) ∙ e))) (λ e. advanced z l ∙ back z (from e))

-- where the next row begins and ends
module _ {g : Measures} {n t : ℕ} (roomy : Roomy g n) (more : t < g.last) where
  pub next_fits : g.row * (t + 1) + g.row ≤ n
  next_fits = omega (arith, roomy.long, row_before g.row (t + 1) (g.last + 1) (omega arith))

  pub begin-fits : Fits w64 (g.row * (t + 1))
  begin-fits = product g.row (t + 1) (omega (arith, roomy.narrow)) (omega (arith, roomy.early))

  pub end_fits : Fits w64 (g.row * (t + 1) + g.row)
  end_fits =
      let next : Fits w64 (g.row * (t + 1 + 1)) = product g.row (t + 1 + 1) (omega (arith, roomy.narrow)) (omega (arith, roomy.early)) in
      record { fits = omega (arith, next_row g.row (t + 1)) }

-- one instant
module _ {table offsets recording before : List ℕ} {g : Measures} {t i : ℕ} (turn : Turn table offsets recording before g t i) where
  module _ (ready : Ready (monitor_by g table) table offsets g.shape g.size g.words) {cur : List ℕ} where
    -- by what is heard, the set becomes that of the next instant
    pub holds_next : {heard : Option ℕ} {next : List ℕ} → Holds g.words cur (possible (monitor_by g table) recording t) → heard ≡ heard_at recording i (t + 1)
        → Kept cur next → AdvancedTo (monitor_by g table) heard g.words cur next → Holds g.words next (possible (monitor_by g table) recording (t + 1))
    holds_next {heard} {next} holds e kept advanced =
        let recorded : heard ≡ recorded_at (packets_at recording) (suc t) =
        e
        ∙ heard_recorded (monitor_by g table) recording turn.setting.sound.trace turn.filled.cursor
        ∙ ap (recorded_at (packets_at recording)) (add-one t)
        in
        rw add-one (holds-suc ready recording t holds heard recorded kept advanced)

    -- .. and stored in the next row it is there, no other row changes, and the row is counted
    pub turned : {after : List ℕ} {found : ℕ} → Holds g.words cur (possible (monitor_by g table) recording (t + 1)) → RowIs (mem cur) g.row (t + 1) before after
        → Counted (row_at after g.row (t + 1)) found → Turned (monitor_by g table) recording after g.row t i found
    turned {after} holds done found =
        record {
          filled = record { layers = layers; cursor = passed_cursor (monitor_by g table) recording turn.setting.sound.trace turn.filled.cursor };
          counted =
              row_count after g.row (t + 1) (possible (monitor_by g table) recording (t + 1)) (omega (arith, next_fits (roomy_by turn.setting turn.long) turn.more, done.long)) turn.setting.narrow
              (layers (t + 1) (omega arith))
              (omega (arith, possible-length (monitor_by g table) recording (t + 1), turn.setting.whole, turn.setting.wide)) found;
        }
      where
        layers : LayersUpTo (monitor_by g table) recording after g.row (t + 1)
        layers u l z w = on (dec_lt u (t + 1))
          where
            on : Dec (u < t + 1) → bytes.mem after (8 * g.row * u + z) ≡ get_or (possible (monitor_by g table) recording u) z false
            on (yes b) =
                done.others (8 * g.row * u + z) (inl (omega (arith, row_before (8 * g.row) u (t + 1) b)))
                ∙ turn.filled.layers u (omega arith) z w
            on (no b) = let e : u ≡ t + 1 = omega arith in rw e (done.here z w ∙ held ready recording (t + 1) holds z)
