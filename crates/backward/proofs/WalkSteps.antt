-- The walk, instant by instant: the least move into a pruned row leads on, and the rows of the least moves are the preferred witness.
use Prim.Native.Nat.{ℕ, suc, ◌+◌, ◌-◌, ◌*◌, ◌≤◌, ◌<◌}
use native.Mathlib.Numerals.{add-one}
use native.Mathlib.Omega.{arith}
use mathlib.Core.Path.{◌≡◌, sym, ap, subst, ◌∙◌}
use mathlib.Core.List.{List, [], ◌∷◌, ◌++◌, append-nil, append_assoc}
use mathlib.Core.Bool.{Bool, true, false}
use Rattle.std.specs.Prelude.{Option, Some}
use Rattle.std.proofs.lemmas.Option.{same_Some}
use lib.ListN.{length, get_or, replicate, length-replicate, length-append}
use lib.Seq.{get_or-set_same}
use Rattle.model.specs.Monitor.{Monitor}
use Rattle.model.specs.Recording.{packets_at, end_of}
use Rattle.model.specs.Layers.{count, layer, into, arrived, least_from}
use Rattle.model.specs.Situation.{move_of, move_limit, recorded_at, first_number}
use Rattle.model.specs.Validation.{rows_by, rows_of, moves_of, preferred, HasRows}
use Rattle.model.specs.Witness.{Row}
use Rattle.model.proofs.SetLaws.{member_within, leads_into_member, count-some}
use Rattle.model.proofs.LayerLaws.{length-layer, layer_suc, layer-leads}
use Rattle.model.proofs.LeastLaws.{alive_suc, length-alive, alive_carries, leads_enters, least_into-leads, least_from_zero, least_from_suc, least_moves-from, length_least}
use Rattle.model.proofs.LeastLaws as least
use Rattle.model.specs.Layers as L
use Rattle.model.proofs.WalkLaws.{first_from-same, Pruned, least_same}
use Rattle.model.proofs.MoveRows.{rows_short}
use Rattle.model.proofs.Numbering.{first_number_below}
use Rattle.situation.specs.Rows.{heard_at, passed_by, Cursor}
use Rattle.situation.proofs.Cursors.{heard_recorded, passed_cursor, first-cursor}
use Rattle.layers.specs.Into.{in_row, least_into, LeastMove}
use Rattle.layers.specs.declared.Least.{Least}
use Rattle.steps.specs.Stepping.{as_move, step_at}
use Rattle.measures.specs.declared.Measures.{Measures}
use Rattle.measures.specs.Setting.{monitor_by, Setting}
use Rattle.backward.specs.PruneRows.{PrunedRows}
use Rattle.backward.specs.WalkRows.{RowsPut, Room, Stands, rows_after, WalkedOn}
use Rattle.backward.proofs.PruneLayers.{reaching, in_row_pruned}
use Rattle.measures.proofs.Rows.{size_of, step_of, possible}
use Rattle.backward.proofs.WalkRoom.{rows_put_none, rows_put_more}
use Rattle.backward.proofs.WalkMoves.{fits-number}

-- where the end can be reached from a possible situation, the least move leads to another
module _ (N K : ℕ) (step : ℕ → ℕ → ℕ → Option ℕ) (first : ℕ) where
  pub record Next (left t n k : ℕ) : Type 0 where
    pub number : ℕ
    pub few : k < K
    pub arrives : step (suc t) n k ≡ Some number
    pub here : get_or (layer N K step first (suc t)) number false ≡ true
    pub alive : get_or (L.alive N K step left (suc t)) number false ≡ true
    pub moves : least_from N K step (suc left) t n ≡ k ∷ least_from N K step left (suc t) number

  pub inside : (t n : ℕ) → get_or (layer N K step first t) n false ≡ true → n < N
  inside t n e = omega (arith, member_within (layer N K step first t) n e, length-layer N K step first t)

  moves_on : (left t n x : ℕ) → step (suc t) n (least.least_into N K step (L.alive N K step left (suc t)) t n) ≡ Some x
      → least_from N K step (suc left) t n ≡ least.least_into N K step (L.alive N K step left (suc t)) t n ∷ least_from N K step left (suc t) x
  moves_on left t n x e =
      least_from_suc N K step left t n
      ∙ ap (λ (o : Option ℕ). least.least_into N K step (L.alive N K step left (suc t)) t n ∷ least_from N K step left (suc t) (arrived N K step o)) e

  pub next : (left t n : ℕ) → get_or (layer N K step first t) n false ≡ true → get_or (L.alive N K step (suc left) t) n false ≡ true
      → Next left t n (least.least_into N K step (L.alive N K step left (suc t)) t n)
  next left t n here alive =
      let s : List Bool = L.alive N K step left (suc t) in
      let k : ℕ = least.least_into N K step s t n in
      let (j, y, few, q, r) = (leads_enters N K step s (suc t) n K).0 (sym (alive_suc N K step left t n (inside t n here)) ∙ alive) in
      let (x, le, p, g) = least_into-leads N K step s t n j few ((leads_into_member s (step (suc t) n j)).1 (y, q, r)) in
      let below : x < N = omega (arith, member_within s x g, length-alive N K step left (suc t)) in
      let little : k < K = omega arith in
      record {
        number = x;
        few = little;
        arrives = p;
        here = (layer_suc N K step first t x).1 (n, k, inside t n here, here, little, p, below);
        alive = g;
        moves = moves_on left t n x p;
      }

-- what the code's least move k from n after instant t comes to, where the cursor is j
pub record Leading (m : Monitor) (recording : List ℕ) (last t n j k : ℕ) (heard to : Option ℕ) : Type 0 where
  pub number : ℕ
  pub arrives : to ≡ Some number
  pub few : k < move_limit
  pub fits : HasRows m heard (move_of k)
  pub here : get_or (possible m recording (t + 1)) number false ≡ true
  pub alive : get_or (reaching m recording (last - (t + 1)) (t + 1)) number false ≡ true
  pub passed : Cursor recording (passed_by recording j (t + 1)) (t + 1 + 1)
  pub split : rows_after m recording last t n ≡ rows_by m heard (t + 1) (move_of k) ++ rows_after m recording last (t + 1) number

-- the rows of the first of the least moves, and the rows of the others
rows_split : (m : Monitor) (recording : List ℕ) (last t n k x : ℕ) → t < last
    → least_from (size_of m) move_limit (step_of m recording) (suc (last - (t + 1))) t n
    ≡ k ∷ least_from (size_of m) move_limit (step_of m recording) (last - (t + 1)) (suc t) x
    → rows_after m recording last t n
    ≡ rows_by m (recorded_at (packets_at recording) (t + 1)) (t + 1) (move_of k) ++ rows_after m recording last (t + 1) x
unfolding rows_of
rows_split m recording last t n k x l e =
    let left : last - t ≡ suc (last - (t + 1)) = omega arith in
    rw (left, e, add-one t, add-one (suc t))

-- the walk goes on along that move, and writes its row
pub onward : {m : Monitor} {recording : List ℕ} {last t n j k : ℕ} {heard : Option ℕ} {step : ℕ → Option ℕ} → Leading m recording last t n j k heard (step k)
    → {l : Least} → LeastMove step k l → {rows : List Row} {i r next : ℕ} {before after : List ℕ}
    → (HasRows m heard (as_move l.k) → rows ≡ rows_by m heard (t + 1) (as_move l.k)) → i ≡ passed_by recording j (t + 1) → RowsPut rows r next before after
    → WalkedOn m recording last t n r l.to i next before after
onward {m} {recording} {last} {t} {n} {j} {k} {heard} on {l} least {rows} told passed wrote =
    let same : on.number ≡ l.to = same_Some on.number l.to (sym on.arrives ∙ least.to) in
    record {
      rows = rows;
      stands = record { here = rw same at on.here; alive = rw same at on.alive; cursor = rw passed on.passed };
      wrote = wrote;
      split = rw (told (rw least.move at on.fits)) (rw (same, least.move) at on.split);
    }

-- the rows written up to instant t, and those to come from number n, are the preferred witness
pub record Walked (m : Monitor) (recording : List ℕ) (last t n r : ℕ) (before after : List ℕ) : Type 0 where
  pub rows : List Row
  pub wrote : RowsPut rows 0 r before after
  pub whole : rows ++ rows_after m recording last t n ≡ preferred m (packets_at recording)

module _ {m : Monitor} {recording : List ℕ} {last t n r : ℕ} {before after : List ℕ} (walked : Walked m recording last t n r before after)
    (room : Room (preferred m (packets_at recording)) 0 before)
  where
    pub walked_on : {x j next : ℕ} {then : List ℕ} → WalkedOn m recording last t n r x j next after then → Walked m recording last (t + 1) x next before then
    walked_on {x} on =
        let all : (walked.rows ++ on.rows) ++ rows_after m recording last (t + 1) x ≡ preferred m (packets_at recording) =
        append_assoc walked.rows on.rows (rows_after m recording last (t + 1) x)
        ∙ ap (λ (l : List Row). walked.rows ++ l) (sym on.split)
        ∙ walked.whole in
        record {
          rows = walked.rows ++ on.rows;
          wrote = rows_put_more (omega (arith, ap length all, length-append (walked.rows ++ on.rows) (rows_after m recording last (t + 1) x))) walked.wrote on.wrote;
          whole = all;
        }

module _ (table offsets recording : List ℕ) (g : Measures) (set : Setting table offsets recording g) where
  abbrev m : Monitor
  m = monitor_by g table

  abbrev N : ℕ
  N = size_of m

  abbrev step : (t n k : ℕ) → Option ℕ
  step = step_of m recording

  module _ (scratch : List ℕ) (rows : PrunedRows m recording scratch g.row g.size g.last) where
    -- the code's least move into the next row, and that of the definition

    abbrev least_at : Option ℕ → (t n : ℕ) → ℕ
    least_at heard t n = least_into (step_at table offsets g.shape heard) scratch (8 * g.row * (t + 1)) g.size n

    abbrev defined : (t n : ℕ) → ℕ
    defined t n = least.least_into N move_limit step (reaching m recording (g.last - (t + 1)) (suc t)) t n

    least_defined : (t n : ℕ) (heard : Option ℕ) → t < g.last → heard ≡ recorded_at (packets_at recording) (t + 1) → get_or (possible m recording t) n false ≡ true → n < g.size
        → least_at heard t n ≡ defined t n
    least_defined t n heard early q here l =
        first_from-same _ _ move_limit 0
        (λ k _.
        ap (into (in_row scratch (8 * g.row * (t + 1)) g.size))
        (ap (λ (o : Option ℕ). step_at table offsets g.shape o n k) q ∙ set.stepping (t + 1) n k l ∙ ap (λ (u : ℕ). step u n k) (add-one t)))
        ∙ least_same N move_limit step (first_number m) (g.last - (t + 1)) t n _
        (subst (λ (u : ℕ). Pruned N move_limit step (first_number m) (g.last - (t + 1)) u (in_row scratch (8 * g.row * (t + 1)) g.size)) (add-one t)
        (in_row_pruned table offsets recording g set scratch (t + 1) (rows (t + 1) (omega arith))))
        (omega (arith, set.whole)) here

    -- .. and what that comes to
    lead : {t n j : ℕ} (heard : Option ℕ) (k : ℕ) → heard ≡ recorded_at (packets_at recording) (t + 1) → k ≡ defined t n → t < g.last → n < g.size
        → Cursor recording j (t + 1) → Next N move_limit step (first_number m) (g.last - (t + 1)) t n (defined t n)
        → Leading m recording g.last t n j k heard (step_at table offsets g.shape heard n k)
    lead {t} {n} heard k q e early below cursor on =
        let arrives : step (t + 1) n (defined t n) ≡ Some on.number = ap (λ (u : ℕ). step u n (defined t n)) (add-one t) ∙ on.arrives in
        rw (q, e)
        (record {
          number = on.number;
          arrives = set.stepping (t + 1) n (defined t n) below ∙ arrives;
          few = on.few;
          fits = fits-number m (packets_at recording) (t + 1) n (defined t n) on.number arrives;
          here = rw (add-one t) on.here;
          alive = subst (λ (u : ℕ). get_or (reaching m recording (g.last - (t + 1)) u) on.number false ≡ true) (sym (add-one t)) on.alive;
          passed = passed_cursor m recording set.sound.trace cursor;
          split = rows_split m recording g.last t n (defined t n) on.number early on.moves;
        })

    pub leading : {t n j : ℕ} {heard : Option ℕ} → t < g.last → heard ≡ heard_at recording j (t + 1) → Stands m recording g.last t n j
        → Leading m recording g.last t n j (least_at heard t n) heard (step_at table offsets g.shape heard n (least_at heard t n))
    leading {t} {n} {j} {heard} early told stands =
        let q : heard ≡ recorded_at (packets_at recording) (t + 1) = told ∙ heard_recorded m recording set.sound.trace stands.cursor in
        let below : n < g.size = omega (arith, set.whole, inside N move_limit step (first_number m) t n stands.here) in
        let more : g.last - t ≡ suc (g.last - (t + 1)) = omega arith in
        lead heard (least_at heard t n) q (least_defined t n heard early q stands.here below) early below stands.cursor
        (next N move_limit step (first_number m) (g.last - (t + 1)) t n stands.here (rw more at stands.alive))

  -- where the walk begins and ends

  pub stands-first : 0 < count (possible m recording g.last) → Stands m recording g.last 0 (first_number m) 0
  unfolding layer
  stands-first some_left =
      let (z, l, member) = count-some (possible m recording g.last) some_left in
      let (ks, long, leads) = layer-leads N move_limit step (first_number m) g.last z member in
      let whole : g.last ≡ g.last - 0 = omega arith in
      record {
        here = get_or-set_same (replicate N false) (first_number m) true false (omega (arith, first_number_below set.sane, length-replicate N false));
        alive = (alive_carries N move_limit step (g.last - 0) 0 (first_number m) (first_number_below set.sane)).1 (ks, z, long ∙ whole, leads);
        cursor = first-cursor m recording set.sound.trace;
      }

  pub rows_all : rows_after m recording g.last 0 (first_number m) ≡ preferred m (packets_at recording)
  unfolding preferred
  rows_all =
      let whole : g.last - 0 ≡ end_of (packets_at recording) = omega (arith, set.end) in
      rw (whole, least_moves-from N move_limit step (first_number m) (end_of (packets_at recording)))

  rows_end : (n : ℕ) → rows_after m recording g.last g.last n ≡ []
  unfolding rows_of
  rows_end n =
      let none_left : g.last - g.last ≡ 0 = omega arith in
      rw (none_left, least_from_zero N move_limit step g.last n)

  -- at most one row an instant
  pub rows_fit : length (preferred m (packets_at recording)) ≤ g.last
  unfolding preferred
  rows_fit =
      omega (
        arith,
        set.end,
        rows_short m (packets_at recording) 1 (moves_of m (packets_at recording)),
        length_least N move_limit step (first_number m) (end_of (packets_at recording)),
      )

  pub rows-room : (room : List ℕ) → 5 * (g.last + length (packets_at recording)) ≤ length room → Room (preferred m (packets_at recording)) 0 room
  rows-room room long = omega (arith, long, rows_fit)

  pub walked_first : (room : List ℕ) → Walked m recording g.last 0 (first_number m) 0 room room
  walked_first room = record { rows = []; wrote = rows_put_none 0 room; whole = rows_all }

  pub walked_all : {t n r : ℕ} {before after : List ℕ} → Walked m recording g.last t n r before after → t ≡ g.last
      → RowsPut (preferred m (packets_at recording)) 0 r before after
  walked_all {t} {n} {r} {before} {after} walked e =
      let all : walked.rows ++ [] ≡ preferred m (packets_at recording) = rw (e, rows_end n) at walked.whole in
      rw (← all, append-nil walked.rows) walked.wrote
