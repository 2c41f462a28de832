-- Every transition, window and variables in the code's order, as the definition of an instant has it: some firing whose source is live.
use Prim.Native.Nat.{ℕ, ◌+◌, ◌*◌, ◌%◌, ◌<◌}
use native.Mathlib.Nat.{add_assoc}
use mathlib.Core.Path.{◌≡◌, refl, sym, ap, ap₂, subst, ◌∙◌}
use mathlib.Core.List.{List}
use mathlib.Core.Bool.{Bool, true, false, cond, ◌&&◌, false≢true}
use Rattle.std.specs.Prelude.{Option, Some, slice_get}
use Rattle.model.specs.Rule.{masks, allows}
use Rattle.model.specs.Monitor.{Monitor, Transition}
use Rattle.model.proofs.Basics.{same_test}
use Rattle.monitor.specs.From.{transition_count}
use Rattle.words.specs.Words.{bit, mem, up, below, meet, any_below}
use Rattle.situation.specs.declared.Shape.{Shape}
use Rattle.instants.specs.Grid.{plane, assignments}
use Rattle.instants.specs.Firing.{fits, guessed, source_at, target_at, holds_at, some_firing}
use Rattle.instants.proofs.TestLaws.{both_are, both, any_some, some_any}
use Rattle.instants.proofs.FiringLaws.{Found, firing_found, found_firing}
use Rattle.firings.specs.Fired.{here_by, there_by, carried, fired_from, fires_now, fired_by, transition_by, fired_one, fired}
use Rattle.firings.specs.Ready.{Ready, Planned, Guarded, Live, apart_by}
use Rattle.firings.specs.declared.Plan.{Plan}
use Rattle.firings.proofs.SameLaws.{below-same, up_same}
use Rattle.firings.proofs.PlanLaws.{transition_at_lem, transition-below, transition-is, monitor_is, masks-is, windows-is, here-is, there-is}

-- a source from which a number of the set starts is live
pub source-live : {m : Monitor} {table offsets : List ℕ} {h : Shape} {size n : ℕ} → Ready m table offsets h size n
    → (live : ℕ) (s : ℕ → Bool) → Live m live s
    → (j : ℕ) (t : Transition) → slice_get m.transitions j ≡ Some t
    → (w v x : ℕ) → w < masks m.rule → v < assignments m → x < plane m → s (source_at m t w v + x) ≡ true → bit live t.source ≡ true
unfolding source_at
source-live ready live s lives j t e w v x hw hv hx member = by (bit live t.source) refl
  where
    by : (b : Bool) → bit live t.source ≡ b → bit live t.source ≡ true
    by true f = f
    by false f = absurd (false≢true (sym (lives t.source w v x f (ready.sourced j t e) hw hv hx) ∙ member))

-- what is recorded
abbrev pub heard_by : Plan → Option ℕ
heard_by p = p.heard

-- transitions first or windows first
module _ (m : Monitor) (recorded : Option ℕ) (T : ℕ → Transition) (count : ℕ)
    (at : (j : ℕ) → j < count → slice_get m.transitions j ≡ Some (T j))
    (few : (j : ℕ) (t : Transition) → slice_get m.transitions j ≡ Some t → j < count)
    (is : (j : ℕ) (t : Transition) → slice_get m.transitions j ≡ Some t → T j ≡ t)
    (live : Transition → Bool) (f : (j w v : ℕ) → Bool) (g : Transition → (w v : ℕ) → Bool)
    (same : (j w v : ℕ) → j < count → v < assignments m → f j w v ≡ g (T j) w v) where
  abbrev of_window : (j w : ℕ) → Bool
  of_window j w = allows m.rule w (guessed m recorded (T j)) && any_below (f j w) (assignments m)

  abbrev of_one : ℕ → Bool
  of_one j = (live (T j) && fits recorded (T j)) && any_below (of_window j) (masks m.rule)

  abbrev lively : Transition → (w v : ℕ) → Bool
  lively t w v = live t && g t w v

  windows-first : any_below of_one count ≡ true → some_firing m recorded lively ≡ true
  windows-first e =
      let (j, l, p) = any_some of_one count e in
      let (q, any) = both_are (live (T j) && fits recorded (T j)) (any_below (of_window j) (masks m.rule)) p in
      let (a, b) = both_are (live (T j)) (fits recorded (T j)) q in
      let (w, k, c) = any_some (of_window j) (masks m.rule) any in
      let (d, more) = both_are (allows m.rule w (guessed m recorded (T j))) (any_below (f j w) (assignments m)) c in
      let (v, z, h) = any_some (f j w) (assignments m) more in
      found_firing m recorded lively
      (record {
        index = j;
        transition = T j;
        window = w;
        variables = v;
        listed = at j l;
        fit = b;
        allowed = d;
        window-below = k;
        variables-below = z;
        passes = both a (sym (same j w v l z) ∙ h);
      })

  transitions-first : some_firing m recorded lively ≡ true → any_below of_one count ≡ true
  transitions-first e =
      let r : Found m recorded lively = firing_found m recorded lively e in
      let j : ℕ = r.index in
      let t : Transition = r.transition in
      let w : ℕ = r.window in
      let v : ℕ = r.variables in
      let l : j < count = few j t r.listed in
      let there : t ≡ T j = sym (is j t r.listed) in
      let (a, b) = both_are (live (T j)) (g (T j) w v) (subst (λ (x : Transition). lively x w v ≡ true) there r.passes) in
      some_any of_one count j l
      (both
      (both a (subst (λ (x : Transition). fits recorded x ≡ true) there r.fit))
      (some_any (of_window j) (masks m.rule) w r.window-below
      (both
      (subst (λ (x : Transition). allows m.rule w (guessed m recorded x) ≡ true) there r.allowed)
      (some_any (f j w) (assignments m) v r.variables-below (same j w v l r.variables-below ∙ b)))))

  ordered : any_below of_one count ≡ some_firing m recorded lively
  ordered = same_test (any_below of_one count) (some_firing m recorded lively) windows-first transitions-first

-- a plane carried over, where its numbers and the guard are given in other words
carry_same : (src planes : List ℕ) (holding : ℕ → Bool) (i to to' from from' at len len' : ℕ) → to ≡ to' → from ≡ from' → len ≡ len'
    → ((x : ℕ) → x < len' → mem planes (at + x) ≡ holding x)
    → up to (below len (meet src from planes at)) i ≡ up to' (below len' (λ x. mem src (from' + x) && holding x)) i
unfolding meet
carry_same src planes holding i to to' from from' at len len' a b c f =
    ap₂ (λ (y z : ℕ). up y (below len (meet src z planes at)) i) a b
    ∙ ap (λ (z : ℕ). up to' (below z (meet src from' planes at)) i) c
    ∙ up_same (below len' (meet src from' planes at)) (below len' (λ x. mem src (from' + x) && holding x)) to' i
    (λ k e.
    below-same (meet src from' planes at) (λ x. mem src (from' + x) && holding x) len' k
    (λ l. ap (λ (t : Bool). mem src (from' + k) && t) (f k l)))

-- one firing forward, into the set for what it resets, and back out of it: i is one of the numbers that go over

abbrev pub carried_forth : Monitor → Option ℕ → (n : ℕ) → (ℕ → Bool) → (i : ℕ) → Transition → (w v : ℕ) → Bool
carried_forth m recorded n s i t w v =
    up (64 * n * (t.resets % 4) + target_at m (guessed m recorded t) t w v) (below (plane m) (λ x. s (source_at m t w v + x) && holds_at m t v x)) i

abbrev pub carried_back : Monitor → Option ℕ → (n : ℕ) → (ℕ → Bool) → (i : ℕ) → Transition → (w v : ℕ) → Bool
carried_back m recorded n s i t w v =
    up (source_at m t w v) (below (plane m) (λ x. s (64 * n * (t.resets % 4) + target_at m (guessed m recorded t) t w v + x) && holds_at m t v x)) i

abbrev is_live : Plan → Transition → Bool
is_live p t = bit p.live t.source

module _ {m : Monitor} {table offsets : List ℕ} {h : Shape} {size n : ℕ} {p : Plan} (ready : Ready m table offsets h size n) (planned : Planned m h n p)
    (src planes : List ℕ) (guarded : Guarded m planes) (i : ℕ) where
  abbrev nth : ℕ → Transition
  nth j = transition_by table offsets j

  abbrev count : ℕ
  count = transition_count table

  abbrev carried_by : Monitor → (j w v : ℕ) → Bool
  carried_by M j w v =
      carried p src planes (here_by p (nth j) w v) (there_by p M (guessed M (heard_by p) (nth j)) (nth j) w v) (p.apart * j + p.plane * v) p.plane i

  abbrev looped : Monitor → (a b j : ℕ) → Bool
  looped M a b j = (is_live p (nth j) && fits (heard_by p) (nth j)) && any_below (λ w. allows M.rule w (guessed M (heard_by p) (nth j)) && any_below (carried_by M j w) a) b

  fired_loops : fired p table offsets src planes count i ≡ any_below (looped m (assignments m) (masks m.rule)) count
  unfolding fired fired_one fired_by fired_from fires_now
  fired_loops =
      ap (λ (M : Monitor). any_below (looped M p.shape.masks p.shape.windows) count) (monitor_is ready planned)
      ∙ ap₂ (λ (a b : ℕ). any_below (looped m a b) count) (masks-is ready planned) (windows-is ready planned)

  guard-is : (j v x : ℕ) → j < count → v < assignments m → x < plane m → mem planes (p.apart * j + p.plane * v + x) ≡ holds_at m (nth j) v x
  guard-is j v x a b c =
      ap₂ (λ (y z : ℕ). mem planes (y * j + z * v + x)) planned.apart planned.plane
      ∙ ap (mem planes) (add_assoc (apart_by m * j) (plane m * v) x)
      ∙ guarded j (nth j) (transition_at_lem ready j a) v x b c

  module _ (g : Transition → (w v : ℕ) → Bool) (same : (j w v : ℕ) → j < count → v < assignments m → carried_by m j w v ≡ g (nth j) w v) where
    fired-by : fired p table offsets src planes count i ≡ some_firing m (heard_by p) (λ t w v. is_live p t && g t w v)
    fired-by =
        fired_loops
        ∙ ordered m (heard_by p) nth count (transition_at_lem ready) (transition-below ready) (transition-is ready) (is_live p) (carried_by m) g same

  pub fired-forth : p.back ≡ false
      → fired p table offsets src planes count i ≡ some_firing m (heard_by p) (λ t w v. bit p.live t.source && carried_forth m (heard_by p) n (mem src) i t w v)
  unfolding carried
  fired-forth e =
      fired-by (carried_forth m (heard_by p) n (mem src) i)
      (λ j w v a b.
      let here : ℕ = here_by p (nth j) w v in
      let there : ℕ = there_by p m (guessed m (heard_by p) (nth j)) (nth j) w v in
      let at : ℕ = p.apart * j + p.plane * v in
      ap (λ (c : Bool). cond c (up here (below p.plane (meet src there planes at))) (up there (below p.plane (meet src here planes at))) i) e
      ∙ carry_same src planes (holds_at m (nth j) v) i there _ here _ at p.plane (plane m) (there-is ready planned (guessed m (heard_by p) (nth j)) (nth j) w v)
      (here-is ready planned (nth j) w v) planned.plane (λ x l. guard-is j v x a b l))

  pub fired-back : p.back ≡ true
      → fired p table offsets src planes count i ≡ some_firing m (heard_by p) (λ t w v. bit p.live t.source && carried_back m (heard_by p) n (mem src) i t w v)
  unfolding carried
  fired-back e =
      fired-by (carried_back m (heard_by p) n (mem src) i)
      (λ j w v a b.
      let here : ℕ = here_by p (nth j) w v in
      let there : ℕ = there_by p m (guessed m (heard_by p) (nth j)) (nth j) w v in
      let at : ℕ = p.apart * j + p.plane * v in
      ap (λ (c : Bool). cond c (up here (below p.plane (meet src there planes at))) (up there (below p.plane (meet src here planes at))) i) e
      ∙ carry_same src planes (holds_at m (nth j) v) i here _ there _ at p.plane (plane m) (here-is ready planned (nth j) w v)
      (there-is ready planned (guessed m (heard_by p) (nth j)) (nth j) w v) planned.plane (λ x l. guard-is j v x a b l))
