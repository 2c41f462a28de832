-- Packet traces from an instant on.
use Prim.Native.Nat.{ℕ, suc, ◌+◌, ◌≤◌, ◌<◌}
use native.Mathlib.Omega.{arith}
use mathlib.Core.Path.{◌≡◌, refl, ap}
use mathlib.Core.Logic.{◌↔◌, ⊎_elim}
use mathlib.Core.List.Memᴰ
use mathlib.Core.List.{List, [], ◌∷◌, Memᴰ}
use Rattle.model.specs.Monitor.{Monitor, airtime}
use Rattle.model.specs.Trace.{Packet, Spaced, PacketTrace}

module _ (m : Monitor) where
  -- the first instant after a packet at which the air is free
  abbrev pub free_after : Packet → ℕ
  free_after p = p.time + airtime m p.kind + 1

  -- a packet trace whose packets come at or after an instant
  abbrev pub TraceFrom : ℕ → List Packet → Type 0
  TraceFrom n [] = Unit {0}
  TraceFrom n (p ∷ r) = (n ≤ p.time) × Spaced m p r

  pub trace-from : (tr : List Packet) → PacketTrace m tr ↔ TraceFrom 1 tr
  trace-from [] = (λ x. x, λ x. x)
  trace-from (p ∷ r) = (λ x. x, λ x. x)

  pub from_earlier : (n a : ℕ) (tr : List Packet) → a ≤ n → TraceFrom n tr → TraceFrom a tr
  from_earlier n a [] h x = tt
  from_earlier n a (p ∷ r) h x = (omega arith, x.1)

  -- .. and none at that instant
  pub from_next : (n : ℕ) (tr : List Packet) → TraceFrom n tr → ((p : Packet) → Memᴰ p tr → p.time ≡ n → ⊥) → TraceFrom (suc n) tr
  from_next n [] x lacks = tt
  from_next n (p ∷ r) x lacks = let other : p.time ≡ n → ⊥ = lacks p (Memᴰ.head refl) in (omega (arith, x.0), x.1)

  pub spaced-from : (p : Packet) (r : List Packet) → Spaced m p r ↔ TraceFrom (free_after p) r
  spaced-from p [] = (λ x. x, λ x. x)
  spaced-from p (q ∷ r) = (λ x. (omega arith, x.1), λ x. (omega arith, x.1))

  pub from-time : (n : ℕ) (tr : List Packet) → TraceFrom n tr → (p : Packet) → Memᴰ p tr → n ≤ p.time
  from-time n [] x p i = absurd (Memᴰ.not-nil i)
  from-time n (q ∷ r) x p i =
      ⊎_elim (λ e. omega (arith, ap (λ (a : Packet). a.time) e))
      (λ j. omega (arith, from-time (free_after q) r ((spaced-from q r).0 x.1) p j)) (Memᴰ.cases_cons i)

  -- a packet at the time of the first is the first, and a later one is among the others

  pub only-first : (p : Packet) (r : List Packet) → TraceFrom (free_after p) r → (q : Packet) → q.time ≡ p.time → Memᴰ q (p ∷ r) → q ≡ p
  only-first p r after q e i = ⊎_elim (λ h. h) (λ j. absurd (omega (arith, from-time (free_after p) r after q j))) (Memᴰ.cases_cons i)

pub behind-first : (p : Packet) (r : List Packet) (q : Packet) → p.time < q.time → Memᴰ q (p ∷ r) → Memᴰ q r
behind-first p r q h i = ⊎_elim (λ e. absurd (omega (arith, ap (λ (a : Packet). a.time) e))) (λ j. j) (Memᴰ.cases_cons i)
