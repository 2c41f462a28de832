-- Sets that grow plane by plane.
use Prim.Native.Nat.{ℕ, zero, suc, ◌+◌, ◌-◌, ◌*◌, ◌/◌, ◌%◌, ◌^◌, ◌<◌}
use native.Mathlib.Numerals.{add-one}
use native.Mathlib.Omega.{arith}
use native.Mathlib.Nat.{mul-add, mul-zero, mul-suc, pow-suc}
use mathlib.Core.Path.{◌≡◌, refl, sym, ap, ap₂, subst, ◌∙◌}
use mathlib.Core.List.{List}
use mathlib.Core.Bool.{Bool, true, false, cond, ◌&&◌, ◌||◌, and-false}
use borrow.Author.Tests.{le-ltb, leb-true}
use lib.Dec.{leb}
use lib.Pow.{shl_exact}
use lib.ListN.{get_or}
use Rattle.model.specs.Rule.{window_behind, allows}
use Rattle.model.specs.Monitor.{Monitor, Transition, changed, airtime}
use Rattle.words.specs.Words.{mem, Joined, any_below, up, below, meet}
use Rattle.words.proofs.Sets.{join_none, join_join, join_same, up_more}
use Rattle.monitor.specs.From.{transition_from}
use Rattle.situation.specs.Ruled.{ruled_from}
use Rattle.instants.specs.Firing.{guessed}
use Rattle.firings.proofs.SameLaws.{any_same}
use Rattle.firings.specs.declared.Plan.{Plan}
use Rattle.firings.specs.Fired.{place_by, here_by, there_by, carried, carried_each, fired_from, fires_now, fired_by, fired_one, fired}

-- one more of what is joined
pub any_none : (f : ℕ → ℕ → Bool) (s : List ℕ) → Joined (λ i. any_below (λ v. f v i) 0) s s
unfolding any_below
any_none f s = join_none (λ i. any_below (λ v. f v i) 0) s (λ i l. refl)

pub any_more : (f : ℕ → ℕ → Bool) (n : ℕ) (a b c : List ℕ) → Joined (λ i. any_below (λ v. f v i) n) a b → Joined (f n) b c
    → Joined (λ i. any_below (λ v. f v i) (n + 1)) a c
unfolding any_below
any_more f n a b c x y =
    subst (λ (k : ℕ). Joined (λ i. any_below (λ v. f v i) k) a c) (sym (add-one n)) (join_join (λ i. any_below (λ v. f v i) n) (f n) a b c x y)

-- joined only where a test passes
module _ (test : Bool) (f : ℕ → Bool) (a : List ℕ) where
  pub join_passed : (b : List ℕ) → test ≡ true → Joined f a b → Joined (λ i. test && f i) a b
  join_passed b e = join_same f (λ i. test && f i) a b (λ i l. ap (λ (t : Bool). t && f i) (sym e))

  pub join_failed : test ≡ false → Joined (λ i. test && f i) a a
  join_failed e = join_none (λ i. test && f i) a (λ i l. ap (λ (t : Bool). t && f i) e)

-- forward or back
module _ (p : Plan) (src planes : List ℕ) (here there guard length : ℕ) (a b : List ℕ) where
  pub carried-back : p.back ≡ true → Joined (up here (below length (meet src there planes guard))) a b → Joined (carried p src planes here there guard length) a b
  unfolding carried
  carried-back e =
      join_same (up here (below length (meet src there planes guard))) (carried p src planes here there guard length) a b
      (λ i l.
      ap (λ (t : Bool). cond t (up here (below length (meet src there planes guard))) (up there (below length (meet src here planes guard))) i) (sym e))

  pub carried-forward : p.back ≡ false → Joined (up there (below length (meet src here planes guard))) a b → Joined (carried p src planes here there guard length) a b
  unfolding carried
  carried-forward e =
      join_same (up there (below length (meet src here planes guard))) (carried p src planes here there guard length) a b
      (λ i l.
      ap (λ (t : Bool). cond t (up here (below length (meet src there planes guard))) (up there (below length (meet src here planes guard))) i) (sym e))

-- a plane starts so far behind that of the first variables
place-moved : (p : Plan) (v state w : ℕ) → place_by p v state w ≡ place_by p 0 state w + p.plane * v
unfolding place_by
place-moved p v state w =
    let above = p.shape.masks * (state + p.shape.states * w) in
    omega (arith, mul-add p.plane v above)

-- planes in a row, each from a place on, are one range
module _ (w d s m : ℕ) (src mask : List ℕ) (i : ℕ) where
  nothing-up : up d (below 0 (meet src s mask m)) i ≡ false
  unfolding up below
  nothing-up = simp (le-ltb (i - d) 0 (omega arith), and-false)

  on : (k j : ℕ) → meet src s mask m (k + j) ≡ meet src (s + k) mask (m + k) j
  unfolding meet
  on k j =
      let p : s + (k + j) ≡ s + k + j = omega arith in
      let q : m + (k + j) ≡ m + k + j = omega arith in
      ap₂ (λ (x y : ℕ). mem src x && mem mask y) p q

  range_row : (n : ℕ) → up d (below (w * n) (meet src s mask m)) i
      ≡ any_below (λ v. up (d + w * v) (below w (meet src (s + w * v) mask (m + w * v))) i) n
  unfolding any_below
  range_row zero = ap (λ (k : ℕ). up d (below k (meet src s mask m)) i) (mul-zero w) ∙ nothing-up
  range_row (suc n) =
      ap (λ (k : ℕ). up d (below k (meet src s mask m)) i) (mul-suc w n)
      ∙ sym (up_more d (w * n) w (meet src s mask m) i)
      ∙ ap₂ (λ (x y : Bool). x || y) (range_row n) (ap (λ (g : ℕ → Bool). up (d + w * n) (below w g) i) (λ t j. on (w * n) j t))

-- variables that are neither set nor cleared
pub changed_none : (n v : ℕ) → v < 2 ^ n → changed n v 0 0 ≡ v
unfolding changed
changed_none zero v h = omega arith
changed_none (suc n) v h = omega (arith, changed_none n (v / 2) (omega (arith, pow-suc 2 n)))

pub kept : (n masks sets clears : ℕ) → sets ≡ 0 × clears ≡ 0 × (n < 8) → leb masks (1 * 2 ^ n % 65536) ≡ true → (v : ℕ) → v < masks
    → changed n v sets clears ≡ v
kept n masks sets clears (e, f, h) l v k =
    let one : 1 * 2 ^ n % 65536 ≡ 1 * 2 ^ n = shl_exact 1 n 16 (omega arith) (omega arith) in
    ap₂ (λ (s c : ℕ). changed n v s c) e f ∙ changed_none n v (omega (arith, leb-true masks (1 * 2 ^ n % 65536) l, one))

-- one transition from one window, plane by plane
module _ (p : Plan) (src planes : List ℕ) (variables sets clears here there guard : ℕ) where
  abbrev plane_by : ℕ → ℕ → Bool
  plane_by v = carried p src planes (here + p.plane * v) (there + p.plane * changed variables v sets clears) (guard + p.plane * v) p.plane

  pub each_none : (s : List ℕ) → Joined (carried_each p src planes variables sets clears here there guard 0) s s
  unfolding carried_each
  each_none s = any_none plane_by s

  pub each_more : (v after : ℕ) (a b c : List ℕ) → after ≡ changed variables v sets clears
      → Joined (carried_each p src planes variables sets clears here there guard v) a b
      → Joined (carried p src planes (here + p.plane * v) (there + p.plane * after) (guard + p.plane * v) p.plane) b c
      → Joined (carried_each p src planes variables sets clears here there guard (v + 1)) a c
  unfolding carried_each
  each_more v after a b c e x y =
      any_more plane_by v a b c x
      (subst (λ (k : ℕ). Joined (carried p src planes (here + p.plane * v) (there + p.plane * k) (guard + p.plane * v) p.plane) b c) e y)

  -- in one run
  row_by : (back : Bool) (n i : ℕ)
      → cond back (up here (below (p.plane * n) (meet src there planes guard))) (up there (below (p.plane * n) (meet src here planes guard))) i
      ≡ any_below
      (λ v.
      cond back
      (up (here + p.plane * v) (below p.plane (meet src (there + p.plane * v) planes (guard + p.plane * v))))
      (up (there + p.plane * v) (below p.plane (meet src (here + p.plane * v) planes (guard + p.plane * v)))) i) n
  row_by true n i = range_row p.plane here there guard src planes i n
  row_by false n i = range_row p.plane there here guard src planes i n

  row : (n i : ℕ) → carried p src planes here there guard (p.plane * n) i
      ≡ any_below (λ v. carried p src planes (here + p.plane * v) (there + p.plane * v) (guard + p.plane * v) p.plane i) n
  unfolding carried
  row n i = row_by p.back n i

  pub each_row : (n : ℕ) (a b : List ℕ) → ((v : ℕ) → v < n → changed variables v sets clears ≡ v)
      → Joined (carried p src planes here there guard (p.plane * n)) a b → Joined (carried_each p src planes variables sets clears here there guard n) a b
  unfolding carried_each
  each_row n a b e =
      join_same (carried p src planes here there guard (p.plane * n)) (λ i. any_below (λ v. plane_by v i) n) a b
      (λ i l.
      row n i
      ∙ any_same _ (λ v. plane_by v i) n
      (λ v h.
      ap (λ (k : ℕ). carried p src planes (here + p.plane * v) (there + p.plane * k) (guard + p.plane * v) p.plane i) (sym (e v h))))

-- where the planes before and after a firing start, from where those of the first variables do
module _ (p : Plan) (m : Monitor) (guess : Bool) (t : Transition) (w : ℕ) where
  here-is : (source v here : ℕ) → source ≡ t.source → here ≡ place_by p 0 source w → here + p.plane * v ≡ here_by p t w v
  unfolding here_by
  here-is source v here e f = omega (arith, place-moved p v t.source w, ap (λ (x : ℕ). place_by p 0 x w) e)

  there-is : (shared window v after there : ℕ) → shared ≡ p.gap * (t.resets % 4) + p.free * airtime m t.trigger
      → window ≡ window_behind m.rule w guess → after ≡ changed m.variables v t.sets t.clears → there ≡ shared + place_by p 0 t.target window
      → there + p.plane * after ≡ there_by p m guess t w v
  unfolding there_by
  there-is shared window v after there e f g h =
      let moved = place-moved p after t.target window in
      omega (arith, moved, ap₂ (λ (x y : ℕ). place_by p x t.target y) g f)

  module _ (src planes : List ℕ) (guard source shared window here there variables sets clears : ℕ) (a b : List ℕ)
      (from : source ≡ t.source) (start : here ≡ place_by p 0 source w)
      (share : shared ≡ p.gap * (t.resets % 4) + p.free * airtime m t.trigger) (behind : window ≡ window_behind m.rule w guess)
      (end : there ≡ shared + place_by p 0 t.target window)
      (many : variables ≡ m.variables) (set : sets ≡ t.sets) (clear : clears ≡ t.clears) where
    changes : (v : ℕ) → changed variables v sets clears ≡ changed m.variables v t.sets t.clears
    changes v = cc

    pub each_fired : Joined (carried_each p src planes variables sets clears here there guard p.shape.masks) a b
        → Joined (fired_from p m src planes guess t guard w) a b
    unfolding carried_each fired_from
    each_fired =
        join_same (carried_each p src planes variables sets clears here there guard p.shape.masks) (fired_from p m src planes guess t guard w) a b
        (λ i l.
        any_same _ _ p.shape.masks
        (λ v h.
        ap₂ (λ (x y : ℕ). carried p src planes x y (guard + p.plane * v) p.plane i) (here-is source v here from start)
        (there-is shared window v (changed variables v sets clears) there share behind (changes v) end)))

-- one transition, window by window
module _ (p : Plan) (m : Monitor) (src planes : List ℕ) (guess : Bool) (t : Transition) (guard : ℕ) where
  abbrev window_by : ℕ → ℕ → Bool
  window_by w i = allows m.rule w guess && fired_from p m src planes guess t guard w i

  pub windows_none : (s : List ℕ) → Joined (fired_by p m src planes guess t guard 0) s s
  unfolding fired_by
  windows_none s = any_none window_by s

  pub windows-more : (w : ℕ) (a b c : List ℕ) → allows m.rule w guess ≡ true → Joined (fired_by p m src planes guess t guard w) a b
      → Joined (fired_from p m src planes guess t guard w) b c → Joined (fired_by p m src planes guess t guard (w + 1)) a c
  unfolding fired_by
  windows-more w a b c e x y = any_more window_by w a b c x (join_passed (allows m.rule w guess) (fired_from p m src planes guess t guard w) b c e y)

  pub windows-over : (w : ℕ) (a b : List ℕ) → allows m.rule w guess ≡ false → Joined (fired_by p m src planes guess t guard w) a b
      → Joined (fired_by p m src planes guess t guard (w + 1)) a b
  unfolding fired_by
  windows-over w a b e x = any_more window_by w a b b x (join_failed (allows m.rule w guess) (fired_from p m src planes guess t guard w) b e)

-- the transitions
module _ (p : Plan) (table offsets src planes : List ℕ) where
  pub fired_none : (s : List ℕ) → Joined (fired p table offsets src planes 0) s s
  unfolding fired
  fired_none s = any_none (fired_one p table offsets src planes) s

  pub fired-more : (j : ℕ) (a b c : List ℕ) → Joined (fired p table offsets src planes j) a b → Joined (fired_one p table offsets src planes j) b c
      → Joined (fired p table offsets src planes (j + 1)) a c
  unfolding fired
  fired-more j a b c x y = any_more (fired_one p table offsets src planes) j a b c x y

  -- transition j, whose record is at an offset
  module _ (j at : ℕ) (e : at ≡ get_or offsets j 0) (a : List ℕ) where
    abbrev ruled : Monitor
    ruled = ruled_from p.shape table offsets

    pub one_rests : fires_now p (transition_from table at) ≡ false → Joined (fired_one p table offsets src planes j) a a
    unfolding fired_one
    one_rests h =
        join_none (fired_one p table offsets src planes j) a
        (λ i l. rw (← e, h))

    pub one_fires : (b : List ℕ) (guess : Bool) → fires_now p (transition_from table at) ≡ true → guess ≡ guessed ruled p.heard (transition_from table at)
        → Joined (fired_by p ruled src planes guess (transition_from table at) (p.apart * j) p.shape.windows) a b
        → Joined (fired_one p table offsets src planes j) a b
    unfolding fired_one
    one_fires b guess h g x =
        join_same (fired_by p ruled src planes guess (transition_from table at) (p.apart * j) p.shape.windows) (fired_one p table offsets src planes j) a b
        (λ i l. simp (← e, h, g))
        x
