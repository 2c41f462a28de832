-- What trying some transitions in turn does to a set of states.
use Prim.Native.Nat.{ℕ, zero, suc, ◌+◌, ◌<◌}
use native.Mathlib.Omega.{arith}
use native.Mathlib.Decide.{ℕ_discrete}
use native.Mathlib.Numerals.{add-one}
use mathlib.Core.Path.{◌≡◌, refl, sym, ap, ◌∙◌}
use mathlib.Core.Logic.{⊎_elim}
use mathlib.Core.List.Memᴰ
use mathlib.Core.List.{List, [], ◌∷◌, ◌++◌, Memᴰ}
use mathlib.Core.Bool.{Bool, true, false, ◌||◌}
use Rattle.std.proofs.lemmas.Bool.{or_parts}
use Rattle.model.specs.Bytes.{byte_at, tab}
use Rattle.model.specs.Monitor.{Monitor, Transition}
use Rattle.model.specs.Reach.{led}
use Rattle.model.specs.Table.{transition_in, monitor_of}
use Rattle.model.specs.declared.TableParts.{TableParts}
use Rattle.bits.specs.Member.{mem}
use Rattle.reach.specs.Spreading.{Tried, Spread}

pub spread_none : (m : Monitor) (set : List ℕ) → Spread m [] set set false
spread_none m set = record { size = refl; kept = λ s h. h; there = λ t i h. absurd (Memᴰ.not-nil i); only = λ all. all; still = λ h. refl }

pub spread-more :
    (m : Monitor) (ts : List Transition) (t : Transition) (before set after : List ℕ) (grown fresh : Bool) → Memᴰ t m.transitions
    → Spread m ts before set grown → Tried t.source t.target set after fresh → Spread m (ts ++ (t ∷ [])) before after (grown || fresh)
spread-more m ts t before set after grown fresh i s l =
    record {
      size = l.size ∙ s.size;
      kept = λ x h. l.kept x (s.kept x h);
      there = λ u j h.
          ⊎_elim (λ k. l.kept u.target (s.there u k h))
          (λ k. ⊎_elim (λ q. here u q h) (λ k. absurd (Memᴰ.not-nil k)) (Memᴰ.cases_cons k))
          (Memᴰ.append_cases ts j);
      only = λ all x h. ⊎_elim (s.only all x) (λ w. rw w.1 (led t i (s.only all t.source w.0))) (l.only x h);
      still = λ e. let p = or_parts grown fresh e in l.still p.1 ∙ s.still p.0;
    }
  where
    here : (u : Transition) → u ≡ t → mem before u.source ≡ true → mem after u.target ≡ true
    here u q h = ap (λ (v : Transition). mem after v.target) q ∙ l.there (s.kept t.source (ap (λ (v : Transition). mem before v.source) (sym q) ∙ h))

-- transition j of a table's parts, after those before it

tab-mem : {A : Type 0} (f : ℕ → A) (n j : ℕ) → j < n → Memᴰ (f j) (tab f n)
unfolding tab
tab-mem f zero j h = absurd (omega arith)
tab-mem f (suc n) j h = go (ℕ_discrete j n) (λ l. tab-mem f n j l)
  where
    go : Dec (j ≡ n) → (j < n → Memᴰ (f j) (tab f n)) → Memᴰ (f j) (tab f n ++ (f n ∷ []))
    go (yes q) again = Memᴰ.append_right (tab f n) (Memᴰ.head (ap f q))
    go (no q) again = Memᴰ.append_left (f n ∷ []) (again (omega arith))

module _ (t : TableParts) where
  pub spread-first : (set : List ℕ) → Spread (monitor_of t) (tab (transition_in t) 0) set set false
  unfolding tab
  spread-first set = spread_none (monitor_of t) set

  pub spread_next :
      (j source target : ℕ) (before set after : List ℕ) (grown fresh : Bool) → j < t.transitions → source ≡ byte_at t.sources j → target ≡ byte_at t.targets j
      → Spread (monitor_of t) (tab (transition_in t) j) before set grown → Tried source target set after fresh
      → Spread (monitor_of t) (tab (transition_in t) (j + 1)) before after (grown || fresh)
  unfolding tab monitor_of transition_in
  spread_next j source target before set after grown fresh h p q s l =
      rw add-one (spread-more (monitor_of t) (tab (transition_in t) j) (transition_in t j) before set after grown fresh (tab-mem (transition_in t) t.transitions j h) s (rw (p, q) at l))

  pub spread-whole : (j : ℕ) (before after : List ℕ) (grown : Bool) → j ≡ t.transitions → Spread (monitor_of t) (tab (transition_in t) j) before after grown
      → Spread (monitor_of t) (monitor_of t).transitions before after grown
  unfolding monitor_of
  spread-whole j before after grown e s = rw e at s
